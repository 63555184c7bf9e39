-- The accounts of each machine, one entry more.
use Rattle.std.specs.Prelude.{◌≡◌, ℕ, zero, suc, ◌+◌, ◌<◌, false, List, [], ◌∷◌, ◌++◌, map, flat_map, length, replicate, slice_get, slice_index, Option, Some, None, option_map, IsSomeAnd}
use Rattle.std.specs.List.{enumerate_from}
use Rattle.std.proofs.Common.{refl, sym, ap, ◌∙◌, subst, arith, get_or, set}
use Rattle.std.proofs.lemmas.List.{length-map, map-append, same_lists}
use Rattle.std.proofs.lemmas.List.Sums.{count_by-le-length, length-filter}
use Rattle.std.proofs.lemmas.Option.{slice_get-map, get_or_from_slice_get}
use Rattle.polis_base.specs.Lists.{upto}
use Rattle.domains.specs.Tables.{fits}
use Rattle.transition_table.specs.Transitions.{IsSnapshot, IsOutcome}
use Rattle.transition_table.specs.declared.machine.Machine.{Machine}
use Rattle.transition_table.specs.declared.network.Network.{Network}
use Rattle.journals.specs.declared.entry.Entry.{Entry}
use Rattle.journals.specs.declared.entry.Entry.TheVariants.{Dep, Rea}
use Rattle.journals.specs.Journals.{FitsNetwork, inputs_of}
use Rattle.journals.specs.Moved.{machine_of}
use Rattle.event_accounts.specs.Accounts.{Buffer, account, buffer_at, buffers_of, consumes, is_delivery_of, overwrites_at}
use Rattle.event_accounts.specs.inner.Steps.{AreFew, HasCode, account_after, rows_of}
use Rattle.event_accounts.specs.declared.account.Account.{Account}
use Rattle.domains.proofs.Ranks.{length_fits}
use Rattle.transition_table.proofs.Ranges.{vars_length}
use Rattle.journals.proofs.CursorsAfter.{machine_within}
use Rattle.journals.proofs.MomentsAfter.{get_or_table, set_table}
use Rattle.event_accounts.proofs.Balances.{brings_code}
use Rattle.event_accounts.proofs.AccountAfter.{account_away, account_more}
use Rattle.polis_base.proofs.UptoPlaces.{length_upto}

-- the snapshot of an entry of a machine has a code for each input
pub has_code : (net : Network) (machine : Machine) (entry : Entry) (i : ℕ) → FitsNetwork net entry
    → slice_get net.machines (machine_of entry) ≡ Some machine → i < length machine.inputs
    → HasCode i entry
has_code net machine (Dep s m e c) i h at below = tt
has_code net machine (Rea m s o) i h at below =
    let of : IsSnapshot machine s × IsOutcome machine o =
    subst (λ (found : Option Machine). IsSomeAnd found
    (λ machine. IsSnapshot machine s × IsOutcome machine o)) at h in
    let size = length_fits machine.vars s.codes of.0 in
    let many = vars_length machine in
    omega arith

-- ---- one row

pub few : (journal : List Entry) (b : Buffer) → AreFew (length journal) (account journal b)
few journal b = (
  count_by-le-length (is_delivery_of b.machine b.event) journal,
  count_by-le-length (consumes b.machine b.place) journal,
  let most = length-filter (overwrites_at journal b.machine b.event) (upto (length journal)) in
      let least = count_by-le-length (overwrites_at journal b.machine b.event)
      (upto (length journal)) in
      let size = length_upto (length journal) in
      omega arith,
)

buffer_is : (m n k i : ℕ) (events : List ℕ) → k < length events → i ≡ n + k
    → slice_get (map (buffer_at m) (enumerate_from n events)) k
    ≡ Some (buffer_at m (i, slice_index events k))
buffer_is m n k i [] below is = absurd (omega arith)
buffer_is m n zero i (e ∷ events) below is =
    ap (λ (j : ℕ). Some (buffer_at m (j, e))) (let z : n ≡ i = omega arith in z)
buffer_is m n (suc k) i (e ∷ events) below is =
    buffer_is m (n + 1) k i events (omega arith) (omega arith)

pub buffers_many : (m n : ℕ) (events : List ℕ)
    → length (map (buffer_at m) (enumerate_from n events)) ≡ length events
buffers_many m n [] = refl
buffers_many m n (e ∷ events) = let rest = buffers_many m (n + 1) events in omega arith

abbrev pub row_of : Network → List Entry → ℕ → List Account
row_of net journal m = map (account journal) (buffers_of net m)

pub row_many : (net : Network) (journal : List Entry) (m : ℕ)
    → length (row_of net journal m) ≡ length (inputs_of net m)
row_many net journal m =
    length-map (buffers_of net m) (account journal) ∙ buffers_many m 0 (inputs_of net m)

pub row_item : (net : Network) (journal : List Entry) (m k : ℕ) → k < length (inputs_of net m)
    → slice_get (row_of net journal m) k
    ≡ Some (account journal (buffer_at m (k, slice_index (inputs_of net m) k)))
row_item net journal m k below =
    slice_get-map (account journal) (buffers_of net m) k
    ∙ ap (option_map (account journal))
    (buffer_is m 0 k k (inputs_of net m) below (let z : k ≡ 0 + k = omega arith in z))

pub row_few : (net : Network) (journal : List Entry) (m p k : ℕ) (d : Account)
    → length journal ≡ p → k < length (row_of net journal m)
    → AreFew p (get_or (row_of net journal m) k d)
row_few net journal m p k d is below =
    let b = buffer_at m (k, slice_index (inputs_of net m) k) in
    let inside : k < length (inputs_of net m) = let size = row_many net journal m in omega arith in
    subst (AreFew p)
    (sym (get_or_from_slice_get (row_of net journal m) k (account journal b) d
    (row_item net journal m k inside)))
    (subst (λ (n : ℕ). AreFew n (account journal b)) is (few journal b))

-- the row of the entry's machine
pub row_more : (net : Network) (journal : List Entry) (x : Entry) (p : ℕ) (new : List Account)
    → FitsNetwork net x → length journal ≡ p
    → length new ≡ length (row_of net journal (machine_of x))
    → ((i : ℕ) (a : Account) → slice_get (row_of net journal (machine_of x)) i ≡ Some a
    → slice_get new i ≡ Some (account_after p i (slice_index (inputs_of net (machine_of x)) i) x a))
    → new ≡ row_of net (journal ++ x ∷ []) (machine_of x)
row_more net journal x p new fits is many each =
    let m = machine_of x in
    let later = journal ++ x ∷ [] in
    same_lists new (row_of net later m)
    (many ∙ row_many net journal m ∙ sym (row_many net later m)) (λ k d below.
    let inside : k < length (inputs_of net m) = let size = row_many net journal m in omega arith in
    let e = slice_index (inputs_of net m) k in
    let b = buffer_at m (k, e) in
    let after = account_after p k e x (account journal b) in
    get_or_from_slice_get new k after d
    (each k (account journal b) (row_item net journal m k inside))
    ∙ ap (λ (n : ℕ). account_after n k e x (account journal b)) (sym is)
    ∙ sym (account_more journal x b (brings_code net x fits) refl)
    ∙ sym (get_or_from_slice_get (row_of net later m) k (account later b) d
    (row_item net later m k inside)))

-- those of the others stay
row_stays : (journal : List Entry) (x : Entry) (m : ℕ) (items : List (ℕ × ℕ))
    → (machine_of x ≡ m → ⊥)
    → map (account (journal ++ x ∷ [])) (map (buffer_at m) items)
    ≡ map (account journal) (map (buffer_at m) items)
row_stays journal x m [] other = refl
row_stays journal x m ((i, e) ∷ items) other =
    let here = account_away journal x (buffer_at m (i, e)) other in
    let rest = row_stays journal x m items other in
    cc

pub rows_more : (net : Network) (journal : List Entry) (x : Entry) (new : List Account)
    → FitsNetwork net x → new ≡ row_of net (journal ++ x ∷ []) (machine_of x)
    → set (rows_of net journal) (machine_of x) new ≡ rows_of net (journal ++ x ∷ [])
rows_more net journal x new fits is =
    set_table (row_of net journal) (row_of net (journal ++ x ∷ [])) (length net.machines)
    (machine_of x) new (machine_within net x fits) (sym is)
    (λ k other below. row_stays journal x k (enumerate_from 0 (inputs_of net k))
    (λ h. other (sym h)))

pub row_at : (net : Network) (journal : List Entry) (rows : List (List Account)) (m : ℕ)
    (row : List Account) → rows ≡ rows_of net journal → m < length net.machines
    → row ≡ get_or rows m row → row ≡ row_of net journal m
row_at net journal rows m row are below at =
    at
    ∙ ap (λ (l : List (List Account)). get_or l m row) are
    ∙ get_or_table (row_of net journal) (length net.machines) m row below

-- ---- the first rows, and all rows

pub first_row : (m n : ℕ) (events : List ℕ) (none : Account)
    → none ≡ record { delivered = 0; read = 0; lost = 0; left = false; first = None }
    → replicate (length events) none
    ≡ map (account []) (map (buffer_at m) (enumerate_from n events))
first_row m n [] none is = refl
first_row m n (e ∷ events) none is =
    let rest = first_row m (n + 1) events none is in
    let here : none ≡ account [] (buffer_at m (n, e)) = is in
    cc

pub joined_rows : (net : Network) (journal : List Entry) (ms : List ℕ)
    → flat_map (λ (row : List Account). row) (map (row_of net journal) ms)
    ≡ map (account journal) (flat_map (buffers_of net) ms)
joined_rows net journal [] = refl
joined_rows net journal (m ∷ ms) =
    ap (λ l. row_of net journal m ++ l) (joined_rows net journal ms)
    ∙ sym (map-append (account journal) (buffers_of net m) (flat_map (buffers_of net) ms))
