-- What one entry more makes of an account.
use Rattle.std.specs.Prelude.{◌≡◌, ℕ, ◌+◌, ◌<◌, ◌≤◌, Bool, true, false, cond, not, ◌&&◌, ◌==◌, List, [], ◌∷◌, ◌++◌, filter, count_by, length, take, slice_get, slice_index, Option}
use Rattle.std.specs.Option.{option_map_or}
use Rattle.std.proofs.Common.{refl, ap, ◌∙◌, arith, add-one, add-zero}
use Rattle.std.proofs.lemmas.List.{append-nil, length_push, take-append-le, take_at}
use Rattle.std.proofs.lemmas.List.Sums.{sum_by_push}
use Rattle.std.proofs.lemmas.Bool.{eq-eqb, ne_eqb}
use Rattle.polis_base.specs.Lists.{upto, head_of}
use Rattle.journals.specs.declared.entry.Entry.{Entry}
use Rattle.journals.specs.declared.entry.Entry.TheVariants.{Dep, Rea}
use Rattle.journals.specs.Journals.{buffered}
use Rattle.journals.specs.Moved.{machine_of}
use Rattle.event_accounts.specs.Accounts.{Buffer, account, consumes, is_delivery_of, overwrites_at, loss_places}
use Rattle.event_accounts.specs.inner.Steps.{account_after, after_delivery, after_firing}
use Rattle.event_accounts.specs.declared.account.Account.{Account}
use Rattle.journals.proofs.MomentsAfter.{place_dep, place_rea}
use Rattle.polis_base.proofs.Lists.{one_more, same_below}
use Rattle.polis_base.proofs.Places.{get_end, get_left, head_if}

pub same_account : (a b : Account) → a.delivered ≡ b.delivered → a.read ≡ b.read → a.lost ≡ b.lost
    → a.left ≡ b.left → a.first ≡ b.first → a ≡ b
same_account a b d r l f s =
    λ i. record { delivered = d i; read = r i; lost = l i; left = f i; first = s i }

-- whether an input is present after the journal
abbrev pub is_present : List Entry → ℕ → ℕ → Bool
is_present journal m e = not (buffered journal m e == 0)

overwrites_before : (journal : List Entry) (x : Entry) (m e p : ℕ) → p < length journal
    → overwrites_at (journal ++ x ∷ []) m e p ≡ overwrites_at journal m e p
overwrites_before journal x m e p below =
    ap (λ (o : Option Entry). option_map_or (is_delivery_of m e) o false
    && not (buffered (take p (journal ++ x ∷ [])) m e == 0))
    (get_left journal (x ∷ []) p below)
    ∙ ap (λ (l : List Entry). option_map_or (is_delivery_of m e) (slice_get journal p) false
    && not (buffered l m e == 0))
    (take-append-le p journal (x ∷ []) (omega arith))

overwrites_last : (journal : List Entry) (x : Entry) (m e : ℕ)
    → overwrites_at (journal ++ x ∷ []) m e (length journal)
    ≡ (is_delivery_of m e x && is_present journal m e)
overwrites_last journal x m e =
    ap (λ (o : Option Entry). option_map_or (is_delivery_of m e) o false
    && not (buffered (take (length journal) (journal ++ x ∷ [])) m e == 0))
    (get_end journal x)
    ∙ ap (λ (l : List Entry). is_delivery_of m e x && not (buffered l m e == 0))
    (take_at journal (x ∷ []) (length journal) refl)

-- the places that overwrite, with one entry more
pub loss_places_more : (journal : List Entry) (x : Entry) (m e : ℕ)
    → loss_places (journal ++ x ∷ []) m e
    ≡ loss_places journal m e
    ++ cond (is_delivery_of m e x && is_present journal m e) (length journal ∷ []) []
loss_places_more journal x m e =
    let q = overwrites_at (journal ++ x ∷ []) m e in
    let n = length journal in
    ap (λ (k : ℕ). filter q (upto k)) (length_push journal x ∙ add-one n)
    ∙ one_more q n
    ∙ ap (λ (l : List ℕ). l ++ cond (q n) (n ∷ []) [])
    (same_below q (overwrites_at journal m e) n (overwrites_before journal x m e))
    ∙ ap (λ (b : Bool). loss_places journal m e ++ cond b (n ∷ []) [])
    (overwrites_last journal x m e)

abbrev pushed : List Entry → Buffer → Bool → Bool → ℕ → Account
pushed journal b d r c =
    let lost = loss_places journal b.machine b.event
    ++ cond (d && is_present journal b.machine b.event) (length journal ∷ []) [] in
    record {
      delivered = (account journal b).delivered + cond d 1 0;
      read = (account journal b).read + cond r 1 0;
      lost = length lost;
      left = not (c == 0);
      first = head_of lost;
    }

account_push : (journal : List Entry) (x : Entry) (b : Buffer) (d r : Bool) (c : ℕ)
    → is_delivery_of b.machine b.event x ≡ d → consumes b.machine b.place x ≡ r
    → buffered (journal ++ x ∷ []) b.machine b.event ≡ c
    → account (journal ++ x ∷ []) b ≡ pushed journal b d r c
account_push journal x b d r c came read stands =
    let more = loss_places_more journal x b.machine b.event
    ∙ ap (λ (h : Bool). loss_places journal b.machine b.event
    ++ cond (h && is_present journal b.machine b.event) (length journal ∷ []) []) came in
    same_account (account (journal ++ x ∷ []) b) (pushed journal b d r c)
    (sum_by_push (λ y. cond (is_delivery_of b.machine b.event y) 1 0) journal x
    ∙ ap (λ (h : Bool). count_by (is_delivery_of b.machine b.event) journal + cond h 1 0) came)
    (sum_by_push (λ y. cond (consumes b.machine b.place y) 1 0) journal x
    ∙ ap (λ (h : Bool). count_by (consumes b.machine b.place) journal + cond h 1 0) read)
    (ap length more) (ap (λ (n : ℕ). not (n == 0)) stands) (ap head_of more)

-- what neither comes nor is read leaves the account
pushed_none : (journal : List Entry) (b : Buffer)
    → pushed journal b false false (buffered journal b.machine b.event) ≡ account journal b
pushed_none journal b =
    let same = append-nil (loss_places journal b.machine b.event) in
    same_account (pushed journal b false false (buffered journal b.machine b.event))
    (account journal b) (add-zero _) (add-zero _) (ap length same) refl (ap head_of same)

length_if : (b : Bool) (xs : List ℕ) (y : ℕ)
    → length (xs ++ cond b (y ∷ []) []) ≡ cond b (length xs + 1) (length xs)
length_if true xs y = length_push xs y
length_if false xs y = ap length (append-nil xs)

pushed_delivery : (journal : List Entry) (b : Buffer) (c : ℕ) → 1 ≤ c
    → pushed journal b true false c ≡ after_delivery (length journal) (account journal b)
pushed_delivery journal b c some =
    let present = is_present journal b.machine b.event in
    let were = loss_places journal b.machine b.event in
    same_account (pushed journal b true false c)
    (after_delivery (length journal) (account journal b)) refl (add-zero _)
    (length_if present were (length journal))
    (ap not (ne_eqb c 0 (λ h. let g : c ≡ 0 = h in absurd (omega arith))))
    (head_if present were (length journal))

pushed_firing : (journal : List Entry) (b : Buffer) (code : ℕ)
    → pushed journal b false (not (code == 0)) 0 ≡ after_firing code (account journal b)
pushed_firing journal b code =
    let same = append-nil (loss_places journal b.machine b.event) in
    same_account (pushed journal b false (not (code == 0)) 0)
    (after_firing code (account journal b)) (add-zero _)
    (read_if (code == 0) (account journal b).read) (ap length same) refl (ap head_of same)
  where
    read_if : (b : Bool) (n : ℕ) → n + cond (not b) 1 0 ≡ cond b n (n + 1)
    read_if true n = add-zero n
    read_if false n = refl

-- no code that is delivered is 0
abbrev pub BringsCode : Entry → Type 0
BringsCode (Dep s to e c) = 1 ≤ c
BringsCode (Rea m s o) = Unit {0}

-- an entry of the buffer's machine
pub account_more : (journal : List Entry) (x : Entry) (b : Buffer) → BringsCode x
    → machine_of x ≡ b.machine
    → account (journal ++ x ∷ []) b
    ≡ account_after (length journal) b.place b.event x (account journal b)
account_more journal (Dep s to e c) b some own =
    (elim (e == b.event) as (λ h. (e == b.event) ≡ h
    → account (journal ++ Dep s to e c ∷ []) b
    ≡ cond h (after_delivery (length journal) (account journal b)) (account journal b)) [
      | true ↦ λ is.
          let hit : (to == b.machine && e == b.event) ≡ true = rw (mine, is) refl in
          account_push journal (Dep s to e c) b true false c hit refl
          (place_dep journal s to e c b.machine b.event ∙ rw hit refl)
          ∙ pushed_delivery journal b c some
      | false ↦ λ is.
          let miss : (to == b.machine && e == b.event) ≡ false = rw (mine, is) refl in
          account_push journal (Dep s to e c) b false false
          (buffered journal b.machine b.event) miss
          refl (place_dep journal s to e c b.machine b.event ∙ rw miss refl)
          ∙ pushed_none journal b
    ]) refl
  where
    mine : (to == b.machine) ≡ true
    mine = eq-eqb to b.machine own
account_more journal (Rea k s o) b some own =
    (elim o.fires as (λ h. o.fires ≡ h
    → account (journal ++ Rea k s o ∷ []) b
    ≡ cond h (after_firing (slice_index s.codes b.place) (account journal b)) (account journal b)) [
      | true ↦ λ is.
          let code = slice_index s.codes b.place in
          let reads : consumes b.machine b.place (Rea k s o) ≡ not (code == 0) =
          rw (mine, is) refl in
          let fires : (k == b.machine && o.fires) ≡ true = rw (mine, is) refl in
          account_push journal (Rea k s o) b false (not (code == 0)) 0 refl reads
          (place_rea journal k s o b.machine b.event ∙ rw fires refl)
          ∙ pushed_firing journal b code
      | false ↦ λ is.
          let reads : consumes b.machine b.place (Rea k s o) ≡ false = rw (mine, is) refl in
          let idle : (k == b.machine && o.fires) ≡ false = rw (mine, is) refl in
          account_push journal (Rea k s o) b false false (buffered journal b.machine b.event) refl
          reads (place_rea journal k s o b.machine b.event ∙ rw idle refl)
          ∙ pushed_none journal b
    ]) refl
  where
    mine : (k == b.machine) ≡ true
    mine = eq-eqb k b.machine own

-- an entry of another machine
pub account_away : (journal : List Entry) (x : Entry) (b : Buffer)
    → (machine_of x ≡ b.machine → ⊥) → account (journal ++ x ∷ []) b ≡ account journal b
account_away journal (Dep s to e c) b other =
    let away = ne_eqb to b.machine other in
    let miss : (to == b.machine && e == b.event) ≡ false = rw away refl in
    account_push journal (Dep s to e c) b false false (buffered journal b.machine b.event) miss refl
    (place_dep journal s to e c b.machine b.event ∙ rw miss refl)
    ∙ pushed_none journal b
account_away journal (Rea k s o) b other =
    let away = ne_eqb k b.machine other in
    let reads : consumes b.machine b.place (Rea k s o) ≡ false = rw away refl in
    let idle : (k == b.machine && o.fires) ≡ false = rw away refl in
    account_push journal (Rea k s o) b false false (buffered journal b.machine b.event) refl reads
    (place_rea journal k s o b.machine b.event ∙ rw idle refl)
    ∙ pushed_none journal b
