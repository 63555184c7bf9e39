-- Rows whose conditions on the variables that are fixed hold.
use Rattle.std.proofs.Common.{◌≡◌, ⊎_elim, ℕ, zero, suc, ◌+◌, ◌<◌, ◌≤◌, Bool, true, false, cond, not, ◌&&◌, ◌||◌, ◌==◌, List, [], ◌∷◌, ◌++◌, length, slice_get, slice_index, Option, Some, IfSome, refl, ap, sym, subst, ◌∙◌, arith, nat_lt}
use Rattle.std.specs.Prelude.{filter}
use Rattle.std.specs.List.{list_all}
use Rattle.std.specs.Int.{bit_at}
use Rattle.std.proofs.lemmas.Bool.{and_parts, cases_lt, cases_eq, lt-ltb, ltb-true, eq-eqb, ne_eqb, le-ltb}
use Rattle.std.proofs.lemmas.List.{length_push, get_or_append_left, get_or_push}
use Rattle.polis_base.specs.Lists.{places_from}
use Rattle.transition_table.specs.Transitions.{allows}
use Rattle.transition_table.specs.declared.machine.Machine.{Machine}
use Rattle.transition_table.specs.declared.row.Cond.{Cond}
use Rattle.transition_table.specs.declared.row.Row.{Row}
use Rattle.transition_table.specs.RowCodes.{allows_code}
use Rattle.polis_base.specs.Sets.{has_member}
use Rattle.outcome_table.specs.inner.RowSets.{IsSetOf}
use Rattle.outcome_table.specs.inner.Numbering.{may_hold, may_be_enabled, rows_left}
use Rattle.outcome_table.proofs.ListMaps.{all_both}

pub and_true : (b : Bool) → b ≡ (b && true)
and_true true = refl
and_true false = refl

-- a condition on one more variable that is fixed
hold_more : (fixed : List ℕ) (code : ℕ) (c : Cond)
    → may_hold (fixed ++ code ∷ []) c ≡ (may_hold fixed c && allows_code (length fixed) code c)
hold_more fixed code c =
    let n = length fixed in
    let v = c.var in
    let long = length_push fixed code in
    ⊎_elim
    (λ less.
    let in_more : nat_lt v (length (fixed ++ code ∷ [])) ≡ true =
    lt-ltb v (length (fixed ++ code ∷ [])) (omega arith) in
    let within : nat_lt v n ≡ true = lt-ltb v n less in
    let apart : v == n ≡ false = ne_eqb v n (λ e. omega (arith, e)) in
    let same : slice_index (fixed ++ code ∷ []) v ≡ slice_index fixed v =
    get_or_append_left fixed (code ∷ []) 0 v less in
    let test = bit_at c.codes (slice_index fixed v) == 1 in
    ap (λ b. not b || bit_at c.codes (slice_index (fixed ++ code ∷ []) v) == 1) in_more
    ∙ ap (λ k. bit_at c.codes k == 1) same
    ∙ and_true test
    ∙ sym (ap (λ b. (not b || test) && (not (v == n) || bit_at c.codes code == 1)) within
    ∙ ap (λ b. test && (not b || bit_at c.codes code == 1)) apart))
    (λ rest.
    let past : nat_lt v n ≡ false = le-ltb v n rest in
    ⊎_elim
    (λ here.
    let in_more : nat_lt v (length (fixed ++ code ∷ [])) ≡ true =
    lt-ltb v (length (fixed ++ code ∷ [])) (omega (arith, here)) in
    let at : v == n ≡ true = eq-eqb v n here in
    let last : slice_index (fixed ++ code ∷ []) v ≡ code = get_or_push fixed code 0 v (sym here) in
    ap (λ b. not b || bit_at c.codes (slice_index (fixed ++ code ∷ []) v) == 1) in_more
    ∙ ap (λ k. bit_at c.codes k == 1) last
    ∙ sym (ap (λ b. (not b || bit_at c.codes (slice_index fixed v) == 1)
    && (not (v == n) || bit_at c.codes code == 1)) past
    ∙ ap (λ b. not b || bit_at c.codes code == 1) at))
    (λ other.
    let not_in : nat_lt v (length (fixed ++ code ∷ [])) ≡ false =
    le-ltb v (length (fixed ++ code ∷ [])) (let o : v ≡ n → ⊥ = other in
    ⊎_elim (λ (less : v < length (fixed ++ code ∷ [])). absurd
    (o (let e : v ≡ n = omega arith in e))) (λ more. more)
    (cases_lt v (length (fixed ++ code ∷ [])))) in
    let apart : v == n ≡ false = ne_eqb v n other in
    ap (λ b. not b || bit_at c.codes (slice_index (fixed ++ code ∷ []) v) == 1) not_in
    ∙ sym (ap (λ b. (not b || bit_at c.codes (slice_index fixed v) == 1)
    && (not (v == n) || bit_at c.codes code == 1)) past
    ∙ ap (λ b. not b || bit_at c.codes code == 1) apart))
    (cases_eq v n))
    (cases_lt v n)

enabled_more : (fixed : List ℕ) (code : ℕ) (row : Row)
    → may_be_enabled (fixed ++ code ∷ []) row
    ≡ (may_be_enabled fixed row && list_all (allows_code (length fixed) code) row.conds)
enabled_more fixed code row =
    all_both (may_hold fixed) (allows_code (length fixed) code) (may_hold (fixed ++ code ∷ []))
    row.conds (hold_more fixed code)

pub places_same : {X : Type 0} (p q : X → Bool) (n : ℕ) (xs : List X) → ((x : X) → p x ≡ q x)
    → places_from n p xs ≡ places_from n q xs
places_same p q n [] each = refl
places_same p q n (x ∷ xs) each =
    ap (λ b. cond b (n ∷ places_from (n + 1) p xs) (places_from (n + 1) p xs)) (each x)
    ∙ ap (λ (ys : List ℕ). cond (q x) (n ∷ ys) ys) (places_same p q (n + 1) xs each)

pub filter_places : {X : Type 0} (p q : X → Bool) (keep : ℕ → Bool) (n : ℕ) (xs : List X)
    → ((i : ℕ) (x : X) → slice_get xs i ≡ Some x → keep (n + i) ≡ q x)
    → filter keep (places_from n p xs) ≡ places_from n (λ x. p x && q x) xs
filter_places p q keep n [] each = refl
filter_places {X = X} p q keep n (x ∷ xs) each =
    let rest : filter keep (places_from (n + 1) p xs) ≡ places_from (n + 1) (λ x. p x && q x) xs =
    filter_places p q keep (n + 1) xs (λ i y at. let e :
    (n + 1) + i ≡ n + suc i = omega arith in ap keep e ∙ each (suc i) y at) in
    one (p x) ∙ ap (λ (ys : List ℕ). cond (p x && q x) (n ∷ ys) ys) rest
  where
    first : keep n ≡ q x
    first = let e : n ≡ n + zero = omega arith in ap keep e ∙ each zero x refl

    one : (b : Bool)
        → filter keep (cond b (n ∷ places_from (n + 1) p xs) (places_from (n + 1) p xs))
        ≡ cond (b && q x) (n ∷ filter keep (places_from (n + 1) p xs))
        (filter keep (places_from (n + 1) p xs))
    one true = ap (λ b. cond b (n ∷ filter keep (places_from (n + 1) p xs))
        (filter keep (places_from (n + 1) p xs))) first
    one false = refl

-- the rows that are left are narrowed by the rows that allow a code
pub narrowed : (m : Machine) (set fixed rows : List ℕ) (at code : ℕ) → IsSetOf m at code set
    → at ≡ length fixed → code < slice_index m.vars at → rows ≡ rows_left m fixed
    → filter (has_member set) rows ≡ rows_left m (fixed ++ code ∷ [])
narrowed m set fixed rows at code allowed here small is =
    ap (filter (has_member set)) is
    ∙ filter_places (may_be_enabled fixed)
    (λ row. list_all (allows_code (length fixed) code) row.conds) (has_member set) 0 m.rows each
    ∙ places_same (λ row. may_be_enabled fixed row
    && list_all (allows_code (length fixed) code) row.conds)
    (may_be_enabled (fixed ++ code ∷ [])) 0 m.rows (λ row. sym (enabled_more fixed code row))
  where
    each : (i : ℕ) (row : Row) → slice_get m.rows i ≡ Some row
        → has_member set (0 + i) ≡ list_all (allows_code (length fixed) code) row.conds
    each i row get =
        let e : 0 + i ≡ i = omega arith in
        ap (has_member set) e
        ∙ allowed.each i row get
        ∙ ap (λ b. b && list_all (allows_code at code) row.conds)
        (lt-ltb code (slice_index m.vars at) small)
        ∙ ap (λ k. list_all (allows_code k code) row.conds) here

-- all rows are left where nothing is fixed
pub all_left : (m : Machine) (n : ℕ) (rows : List ℕ) → rows ≡ places_from n (λ row. true) m.rows
    → rows ≡ places_from n (may_be_enabled []) m.rows
all_left m n rows is =
    is ∙ places_same (λ row. true) (may_be_enabled []) n m.rows (λ row. sym (free row.conds))
  where
    free : (conds : List Cond) → list_all (may_hold []) conds ≡ true
    free [] = refl
    free (c ∷ conds) =
        ap (λ b. (not b || allows [] c) && list_all (may_hold []) conds)
        (le-ltb c.var 0 (omega arith)) ∙ free conds

-- ---- what the rows that are left may be asked
places_below : {X : Type 0} (p : X → Bool) (n k : ℕ) (xs : List X) → n + length xs ≤ k
    → list_all (λ r. nat_lt r k) (places_from n p xs) ≡ true
places_below p n k [] most = refl
places_below p n k (x ∷ xs) most =
    let rest = places_below p (n + 1) k xs (omega arith) in
    let low = lt-ltb n k (omega arith) in
    one (p x) low rest
  where
    one : (b : Bool) → nat_lt n k ≡ true
        → list_all (λ r. nat_lt r k) (places_from (n + 1) p xs) ≡ true
        → list_all (λ r. nat_lt r k)
        (cond b (n ∷ places_from (n + 1) p xs) (places_from (n + 1) p xs)) ≡ true
    one true low rest = ap (λ b. b && list_all (λ r. nat_lt r k) (places_from (n + 1) p xs)) low
        ∙ rest
    one false low rest = rest

left_below : (m : Machine) (fixed rows : List ℕ) (k : ℕ) → rows ≡ rows_left m fixed
    → k ≡ length m.rows → list_all (λ r. nat_lt r k) rows ≡ true
left_below m fixed rows k is whole =
    ap (list_all (λ r. nat_lt r k)) is
    ∙ places_below (may_be_enabled fixed) 0 k m.rows (omega arith)

head_below : (rows : List ℕ) (k : ℕ) → list_all (λ r. nat_lt r k) rows ≡ true
    → IfSome (slice_get rows 0) (λ r. r < k)
head_below [] k all = search
head_below (r ∷ rows) k all =
    ltb-true r k (and_parts (nat_lt r k) (list_all (λ r. nat_lt r k) rows) all).0

pub first_below : (m : Machine) (fixed : List ℕ) (first : Option ℕ) (k : ℕ)
    → first ≡ slice_get (rows_left m fixed) 0 → k ≡ length m.rows → IfSome first (λ r. r < k)
first_below m fixed first k is whole =
    subst (λ (o : Option ℕ). IfSome o (λ r. r < k)) (sym is)
    (head_below (rows_left m fixed) k (left_below m fixed (rows_left m fixed) k refl whole))
