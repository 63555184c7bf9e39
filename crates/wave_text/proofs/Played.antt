-- The changes of a wave, played back.
use Rattle.std.specs.Prelude.{◌≡◌, ℕ, zero, suc, ◌+◌, ◌<◌, Bool, true, false, cond, ◌==◌, List, [], ◌∷◌, ◌++◌, map, filter_map, flat_map, length, take, drop, slice_set, Option, Some, None}
use Rattle.std.specs.List.{cons_option, enumerate_from}
use Rattle.std.specs.Option.{option_map_or}
use Rattle.std.proofs.Common.{refl, sym, ap, ◌∙◌, add-one}
use Rattle.std.proofs.lemmas.List.{append_assoc, drop_at, length-map, length_push, map-append, set_at, take_at}
use Rattle.std.proofs.lemmas.Bool.{eqb-true, false≢true}
use Rattle.polis_base.specs.Lists.{upto}
use Rattle.transition_table.specs.declared.network.Network.{Network}
use Rattle.journals.specs.declared.entry.Entry.{Entry}
use Rattle.journals.specs.Journals.{inputs_of, buffered, snap, state, states_of}
use Rattle.wave_text.specs.Signals.{change_at, changes_at, signal_code, signal_codes, emission_signals, happens_at, snapshot_signals, loss_signals, played, same_code, signals, machine_signals, value_signals}
use Rattle.wave_text.specs.Laws.{ChangesGiveCodes, ChangesGiveSnapshots}
use Rattle.event_accounts.proofs.OneItemMore.{split_at}
use Rattle.wave_text.specs.declared.signal.Change.{Change}
use Rattle.wave_text.specs.declared.signal.Signal.{Signal}
use Rattle.wave_text.specs.declared.signal.Signal.TheVariants.{Input, State, Loss, Emission, Value}
use Rattle.polis_base.proofs.Places.{flat_map_push, map_of_map}

-- ---- one signal

-- what happens changes no code
happens_alone : (net : Network) (journal : List Entry) (p : ℕ) (signal : Signal)
    → happens_at net journal p signal ≡ true
    → signal_code net (take p journal) signal ≡ signal_code net (take (p + 1) journal) signal
happens_alone net journal p (Input m e) h = absurd (false≢true h)
happens_alone net journal p (State m x) h = absurd (false≢true h)
happens_alone net journal p (Loss m e) h = refl
happens_alone net journal p (Emission e) h = refl
happens_alone net journal p (Value e) h = absurd (false≢true h)

-- a signal that has no code after an entry had none before it
no_code : (net : Network) (journal : List Entry) (p : ℕ) (signal : Signal)
    → signal_code net (take (p + 1) journal) signal ≡ None
    → signal_code net (take p journal) signal ≡ None
no_code net journal p (Input m e) h = cc
no_code net journal p (State m x) h = cc
no_code net journal p (Loss m e) h = refl
no_code net journal p (Emission e) h = refl
no_code net journal p (Value e) h = cc

abbrev one_change : ℕ → Bool → Option ℕ → Option ℕ → Option Change
one_change k happens before after =
    cond happens (Some (record { signal = k; code = None }))
    (cond (same_code before after) None (Some (record { signal = k; code = after })))

put_one : (done rest : List (Option ℕ)) (n : ℕ) (happens : Bool) (before after : Option ℕ)
    (changes : List Change) → length done ≡ n → (happens ≡ true → before ≡ after)
    → (after ≡ None → before ≡ None)
    → played (done ++ before ∷ rest) (cons_option (one_change n happens before after) changes)
    ≡ played (done ++ after ∷ rest) changes
put_one done rest n true before after changes is same none =
    ap (λ (code : Option ℕ). played (done ++ code ∷ rest) changes) (same refl)
put_one done rest n false None None changes is same none = refl
put_one done rest n false (Some a) None changes is same none =
    let h : Some a ≡ None = none refl in cc
put_one done rest n false None (Some b) changes is same none =
    ap (λ (l : List (Option ℕ)). played l changes) (set_at done None rest (Some b) n is)
put_one done rest n false (Some a) (Some b) changes is same none =
    (elim (a == b) as (λ t. (a == b) ≡ t
    → played (done ++ Some a ∷ rest)
    (cons_option (cond t None (Some (record { signal = n; code = Some b }))) changes)
    ≡ played (done ++ Some b ∷ rest) changes) [
      | true ↦ λ h. ap (λ (k : ℕ). played (done ++ Some k ∷ rest) changes) (eqb-true a b h)
      | false ↦ λ h.
          ap (λ (l : List (Option ℕ)). played l changes) (set_at done (Some a) rest (Some b) n is)
    ]) refl

-- ---- all signals

played_over : (net : Network) (journal : List Entry) (p n : ℕ) (list : List Signal)
    (done : List (Option ℕ)) → length done ≡ n
    → played (done ++ map (signal_code net (take p journal)) list)
    (filter_map (change_at net journal p) (enumerate_from n list))
    ≡ done ++ map (signal_code net (take (p + 1) journal)) list
played_over net journal p n [] done is = refl
played_over net journal p n (signal ∷ list) done is =
    let before = signal_code net (take p journal) in
    let after = signal_code net (take (p + 1) journal) in
    let changes = filter_map (change_at net journal p) (enumerate_from (n + 1) list) in
    put_one done (map before list) n (happens_at net journal p signal) (before signal)
    (after signal) changes is (happens_alone net journal p signal) (no_code net journal p signal)
    ∙ ap (λ (l : List (Option ℕ)). played l changes)
    (sym (append_assoc done (after signal ∷ []) (map before list)))
    ∙ played_over net journal p (n + 1) list (done ++ after signal ∷ [])
    (length_push done (after signal) ∙ ap (λ (k : ℕ). k + 1) is)
    ∙ append_assoc done (after signal ∷ []) (map after list)

played_once : (net : Network) (journal : List Entry) (p : ℕ)
    → played (signal_codes net (take p journal)) (changes_at net journal p)
    ≡ signal_codes net (take (p + 1) journal)
played_once net journal p = played_over net journal p 0 (signals net) [] refl

played_both : (codes : List (Option ℕ)) (xs ys : List Change)
    → played codes (xs ++ ys) ≡ played (played codes xs) ys
played_both codes [] ys = refl
played_both codes (x ∷ xs) ys =
    played_both (option_map_or (λ code. slice_set codes x.signal (Some code)) x.code codes) xs ys

pub played_back : ChangesGiveCodes
played_back net journal zero = refl
played_back net journal (suc p) =
    ap (played (signal_codes net [])) (flat_map_push (changes_at net journal) (upto p) p)
    ∙ played_both (signal_codes net []) (flat_map (changes_at net journal) (upto p))
    (changes_at net journal p)
    ∙ ap (λ (codes : List (Option ℕ)). played codes (changes_at net journal p))
    (played_back net journal p)
    ∙ played_once net journal p
    ∙ ap (λ (n : ℕ). signal_codes net (take n journal)) (add-one p)

-- ---- snapshots

snapshot_codes : (net : Network) (journal : List Entry) (m : ℕ)
    → map (signal_code net journal) (snapshot_signals net m) ≡ map Some (snap net journal m).codes
snapshot_codes net journal m =
    let inputs = inputs_of net m in
    let variables = upto (length (states_of net m)) in
    map-append (signal_code net journal) (map (Input m) inputs) (map (State m) variables)
    ∙ ap (λ (l : List (Option ℕ)). l ++ map (signal_code net journal) (map (State m) variables))
    (map_of_map (signal_code net journal) (Input m) inputs
    ∙ sym (map_of_map Some (buffered journal m) inputs))
    ∙ ap (λ (l : List (Option ℕ)). map Some (map (buffered journal m) inputs) ++ l)
    (map_of_map (signal_code net journal) (State m) variables
    ∙ sym (map_of_map Some (state net journal m) variables))
    ∙ sym (map-append Some (map (buffered journal m) inputs) (map (state net journal m) variables))

-- the signals before a machine's, what its snapshots have, and the rest
pub signals_split : (net : Network) (m : ℕ) → m < length net.machines
    → (rest : List Signal)
    × (signals net ≡ flat_map (machine_signals net) (upto m) ++ (machine_signals net m ++ rest))
signals_split net m below =
    let front = split_at (machine_signals net) (length net.machines) m below in
    let before = flat_map (machine_signals net) (upto m) in
    let more = emission_signals net ++ value_signals net in (
      front.0 ++ more,
      append_assoc (flat_map (machine_signals net) (upto (length net.machines)))
          (emission_signals net)
          (value_signals net)
          ∙ ap (λ (l : List Signal). l ++ more) front.1
          ∙ append_assoc before (machine_signals net m ++ front.0) more
          ∙ ap (λ (l : List Signal). before ++ l)
          (append_assoc (machine_signals net m) front.0 more),
    )

pub played_snapshots : ChangesGiveSnapshots
played_snapshots net journal p m below =
    let now = take p journal in
    let c = signal_code net now in
    let front = flat_map (machine_signals net) (upto m) in
    let kept = snapshot_signals net m in
    let split = signals_split net m below in
    let rest = loss_signals net m ++ split.0 in
    let all = split.1 ∙ ap (λ (l : List Signal). front ++ l)
    (append_assoc kept (loss_signals net m) split.0) in
    let mapped = ap (map c) all ∙ map-append c front (kept ++ rest)
    ∙ ap (λ (l : List (Option ℕ)). map c front ++ l) (map-append c kept rest) in
    ap (λ (codes : List (Option ℕ)). take (length kept) (drop (length front) codes))
    (played_back net journal p ∙ mapped)
    ∙ ap (take (length kept))
    (drop_at (map c front) (map c kept ++ map c rest) (length front) (length-map front c))
    ∙ take_at (map c kept) (map c rest) (length kept) (length-map kept c)
    ∙ snapshot_codes net now m
