-- Rows that are counted by a list of those that are enabled.
use Rattle.std.proofs.Common.{◌≡◌, ⊎_elim, ℕ, zero, suc, ◌<◌, Bool, true, false, cond, ◌&&◌, ◌||◌, eqb, nat_lt, List, [], ◌∷◌, ◌++◌, length, take, get_or, slice_get, slice_set, Some, refl, sym, ap, ◌∙◌, inl, inr, arith}
use Rattle.std.specs.List.{filter, list_any}
use Rattle.std.proofs.lemmas.Bool.{and_parts, and_right, cases_lt, cases_order, eq-eqb, eqb-true, false≢true, lt-ltb, ltb-true, ne_eqb, or_right}
use Rattle.std.proofs.lemmas.List.{append-nil, take-append-le}
use Rattle.std.proofs.lemmas.List.Folds.{list_any-append}
use Rattle.std.proofs.lemmas.Option.{slice_get-get_or, slice_get_within}
use Rattle.polis_base.specs.Lists.{upto}
use Rattle.polis_base.proofs.Lists.{one_more, take_prefix}
use Rattle.transition_table.specs.declared.machine.Machine.{Machine}
use Rattle.table_use.specs.Memos.{enabled_rows}
use Rattle.table_use.specs.Use.{enables}
use Rattle.table_use.specs.inner.Steps.{tally_after}
use Rattle.table_use.specs.declared.tally.Tally.{Tally}
use Rattle.table_use.proofs.Pushed.{before, last}
use Rattle.table_use.proofs.Repeats.{not_less}
use Rattle.table_use.proofs.Sets.{set_here, set_other}
use Rattle.table_use.proofs.Bools.{and_last}
use Rattle.polis_base.proofs.Bools.{or_none}
use Rattle.polis_base.proofs.Places.{length_push, some_is}

-- k is one of them
abbrev pub is_among : ℕ → List ℕ → Bool
is_among k xs = list_any (λ x. eqb x k) xs

pub among_last : (k : ℕ) (xs : List ℕ) (x : ℕ)
    → is_among k (xs ++ x ∷ []) ≡ (is_among k xs || eqb x k)
among_last k xs x =
    list_any-append (λ y. eqb y k) xs (x ∷ [])
    ∙ ap (λ (b : Bool). is_among k xs || b) (or_none (eqb x k))

among_if : (k : ℕ) (xs : List ℕ) (x : ℕ) (b : Bool)
    → is_among k (xs ++ cond b (x ∷ []) []) ≡ (is_among k xs || (b && eqb x k))
among_if k xs x true = among_last k xs x
among_if k xs x false = ap (is_among k) (append-nil xs) ∙ sym (or_none (is_among k xs))

joined : (p : ℕ → Bool) (n k : ℕ)
    → ((nat_lt k n && p k) || (p n && eqb n k)) ≡ (nat_lt k (suc n) && p k)
joined p n k =
    elim (cases_order k n) [
      | inl same ↦
          let low = not_less k n (λ less. absurd (omega arith)) in
          let here = eq-eqb n k (sym same) in
          let more = lt-ltb k (suc n) (omega arith) in
          (λ j. (low j && p k) || (p n && here j))
          ∙ and_last (p n)
          ∙ ap p (sym same)
          ∙ sym (λ j. more j && p k)
      | inr (inl less) ↦
          let low = lt-ltb k n less in
          let here = ne_eqb n k (λ e. absurd (omega arith)) in
          let more = lt-ltb k (suc n) (omega arith) in
          (λ j. (low j && p k) || (p n && here j))
          ∙ ap (λ (b : Bool). p k || b) (and_right (p n) false refl)
          ∙ or_none (p k)
          ∙ sym (λ j. more j && p k)
      | inr (inr above) ↦
          let low = not_less k n (λ less. absurd (omega arith)) in
          let here = ne_eqb n k (λ e. absurd (omega arith)) in
          let more = not_less k (suc n) (λ less. absurd (omega arith)) in
          (λ j. (low j && p k) || (p n && here j))
          ∙ and_right (p n) false refl
          ∙ sym (λ j. more j && p k)
    ]

-- the numbers below n that pass
pub among_passing : (p : ℕ → Bool) (n k : ℕ)
    → is_among k (filter p (upto n)) ≡ (nat_lt k n && p k)
among_passing p zero k =
    sym (ap (λ (b : Bool). b && p k) (not_less k 0 (λ less. absurd (omega arith))))
among_passing p (suc n) k =
    ap (is_among k) (one_more p n)
    ∙ among_if k (filter p (upto n)) n (p n)
    ∙ ap (λ (b : Bool). b || (p n && eqb n k)) (among_passing p n k)
    ∙ joined p n k

among_at : (xs : List ℕ) (i x : ℕ) → slice_get xs i ≡ Some x → is_among x xs ≡ true
among_at [] i x at = cc
among_at (y ∷ xs) zero x at =
    let same : y ≡ x = some_is y x at in
    ap (λ (b : Bool). b || is_among x xs) (eq-eqb y x same)
among_at (y ∷ xs) (suc i) x at =
    ap (λ (b : Bool). eqb y x || b) (among_at xs i x at) ∙ or_right (eqb y x) true refl

-- what stands among the numbers below n that pass is below n
pub below_passing : (p : ℕ → Bool) (n i x : ℕ) → slice_get (filter p (upto n)) i ≡ Some x → x < n
below_passing p n i x at =
    ltb-true x n
    (and_parts (nat_lt x n) (p x)
    (sym (among_passing p n x) ∙ among_at (filter p (upto n)) i x at)).0

once_more : (p : ℕ → Bool) (n i x : ℕ) (b : Bool)
    → (slice_get (filter p (upto n)) i ≡ Some x
    → is_among x (take i (filter p (upto n))) ≡ false)
    → slice_get (filter p (upto n) ++ cond b (n ∷ []) []) i ≡ Some x
    → is_among x (take i (filter p (upto n) ++ cond b (n ∷ []) [])) ≡ false
once_more p n i x false rest here =
    ap (λ (l : List ℕ). is_among x (take i l)) (append-nil (filter p (upto n)))
    ∙ rest (sym (ap (λ (l : List ℕ). slice_get l i) (append-nil (filter p (upto n)))) ∙ here)
once_more p n i x true rest here =
    ⊎_elim
    (λ less.
    ap (is_among x) (take-append-le i (filter p (upto n)) (n ∷ []) (omega arith))
    ∙ rest (sym (before (filter p (upto n)) n i less) ∙ here))
    (λ more.
    let within = slice_get_within (filter p (upto n) ++ n ∷ []) i x here in
    let long = length_push (filter p (upto n)) n in
    let end : i ≡ length (filter p (upto n)) = omega arith in
    let same : n ≡ x = some_is n x (sym (last (filter p (upto n)) n i end) ∙ here) in
    ap (is_among x) (take_prefix (filter p (upto n)) (n ∷ []) i end)
    ∙ among_passing p n x
    ∙ ap (λ (b : Bool). b && p x) (not_less x n (λ less. absurd (omega arith))))
    (cases_lt i (length (filter p (upto n))))

-- none of them stands among those before it
pub once_among : (p : ℕ → Bool) (n i x : ℕ) → slice_get (filter p (upto n)) i ≡ Some x
    → is_among x (take i (filter p (upto n))) ≡ false
once_among p zero i x at = cc
once_among p (suc n) i x at =
    ap (λ (l : List ℕ). is_among x (take i l)) (one_more p n)
    ∙ once_more p n i x (p n) (once_among p n i x)
    (sym (ap (λ (l : List ℕ). slice_get l i) (one_more p n)) ∙ at)

-- each row that is among them is counted on, the others are as they were
abbrev pub AreTaken : ℕ → List ℕ → List Tally → List Tally → Type 0
AreTaken p done old now = (r : ℕ) (t : Tally) → slice_get old r ≡ Some t
    → slice_get now r ≡ Some (tally_after p (is_among r done) t)

pub was_before : (p : ℕ) (done : List ℕ) (old now : List Tally) (x : ℕ) (t was : Tally)
    → AreTaken p done old now → is_among x done ≡ false → slice_get old x ≡ Some t
    → slice_get now x ≡ Some was → was ≡ t
was_before p done old now x t was all once at here =
    some_tally was t
    (sym here ∙ all x t at ∙ ap (λ (b : Bool). Some (tally_after p b t)) once)
  where
    some_tally : (a b : Tally) → Some a ≡ Some b → a ≡ b
    some_tally a b h = cc

pub one_taken : (p : ℕ) (done : List ℕ) (old now : List Tally) (x : ℕ) (was new : Tally)
    → AreTaken p done old now → is_among x done ≡ false → slice_get now x ≡ Some was
    → new ≡ tally_after p true was → AreTaken p (done ++ x ∷ []) old (slice_set now x new)
one_taken p done old now x was new all once here is r t at = cases (eqb x r) refl
  where
    more : (b : Bool) → eqb x r ≡ b
        → Some (tally_after p (is_among r done || b) t)
        ≡ Some (tally_after p (is_among r (done ++ x ∷ [])) t)
    more b e = ap (λ (z : Bool). Some (tally_after p z t))
        (ap (λ (z : Bool). is_among r done || z) (sym e) ∙ sym (among_last r done x))

    cases : (b : Bool) → eqb x r ≡ b
        → slice_get (slice_set now x new) r
        ≡ Some (tally_after p (is_among r (done ++ x ∷ [])) t)
    cases true e =
        let same : x ≡ r = eqb-true x r e in
        let own : was ≡ t =
        was_before p done old now x t was all once (ap (slice_get old) same ∙ at) here in
        ap (slice_get (slice_set now x new)) (sym same)
        ∙ set_here now x new (slice_get_within now x was here)
        ∙ ap (λ (z : Tally). Some z) (is ∙ ap (tally_after p true) own)
        ∙ ap (λ (z : Bool). Some (tally_after p z t)) (sym (or_right (is_among r done) true refl))
        ∙ more true e
    cases false e =
        set_other now x r new (λ same. absurd (false≢true (sym e ∙ eq-eqb x r (sym same))))
        ∙ all r t at
        ∙ ap (λ (z : Bool). Some (tally_after p z t)) (sym (or_none (is_among r done)))
        ∙ more false e

-- ---- the rows that are enabled

pub row_at : (xs : List ℕ) (i x : ℕ) → i < length xs → x ≡ get_or xs i 0
    → slice_get xs i ≡ Some x
row_at xs i x low is =
    slice_get-get_or xs i 0 low ∙ ap (λ (k : ℕ). Some k) (sym is)

pub row_below : (m : Machine) (s xs : List ℕ) (i x : ℕ) → xs ≡ enabled_rows m s
    → slice_get xs i ≡ Some x → x < length m.rows
row_below m s xs i x is at =
    below_passing (λ r. enables m r s) (length m.rows) i x
    (ap (λ (l : List ℕ). slice_get l i) (sym is) ∙ at)

pub row_once : (m : Machine) (s xs : List ℕ) (i x : ℕ) → xs ≡ enabled_rows m s
    → slice_get xs i ≡ Some x → is_among x (take i xs) ≡ false
row_once m s xs i x is at =
    ap (λ (l : List ℕ). is_among x (take i l)) is
    ∙ once_among (λ r. enables m r s) (length m.rows) i x
    (ap (λ (l : List ℕ). slice_get l i) (sym is) ∙ at)

pub row_counts : (m : Machine) (s xs : List ℕ) (r : ℕ) → xs ≡ enabled_rows m s
    → r < length m.rows → is_among r xs ≡ enables m r s
row_counts m s xs r is low =
    ap (is_among r) is
    ∙ among_passing (λ k. enables m k s) (length m.rows) r
    ∙ ap (λ (b : Bool). b && enables m r s) (lt-ltb r (length m.rows) low)
