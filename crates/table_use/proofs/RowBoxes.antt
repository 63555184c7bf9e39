-- The snapshots that enable rows, by the codes that the rows allow.
use Rattle.std.proofs.Common.{◌≡◌, ℕ, zero, suc, ◌+◌, ◌<◌, Bool, true, false, cond, not, ◌&&◌, ◌||◌, eqb, nat_lt, List, [], ◌∷◌, length, count_by, slice_get, slice_index, Option, Some, refl, sym, ap, ◌∙◌, arith}
use Rattle.std.specs.List.{filter, list_all}
use Rattle.std.specs.Int.{bit_at}
use Rattle.std.proofs.lemmas.Bool.{and_from, and_parts, and_right, eq-eqb, eqb-true, lt-ltb, ltb-true, ne_eqb}
use Rattle.std.proofs.lemmas.List.Sums.{sum_by-cons}
use Rattle.polis_base.proofs.AllPass.{all_pass}
use Rattle.domains.specs.AllCodes.{all_codes}
use Rattle.domains.specs.Tables.{fits}
use Rattle.domains.proofs.AllCodes.{lists_fit}
use Rattle.domains.proofs.Ranks.{length_fits}
use Rattle.transition_table.specs.MachineFacts.{names_codes, names_result}
use Rattle.transition_table.specs.Transitions.{allows, holds}
use Rattle.transition_table.specs.RowCodes.{allows_code, row_allows}
use Rattle.transition_table.specs.declared.machine.Machine.{Machine}
use Rattle.transition_table.specs.declared.row.Cond.{Cond}
use Rattle.transition_table.specs.declared.row.Row.{Row}
use Rattle.transition_table.proofs.Ranges.{below_size, row_there}
use Rattle.transition_table.proofs.Rows.{machine_sizes}
use Rattle.table_use.specs.Lint.{amount, enables_only, seen_ones}
use Rattle.journals.specs.Seen.{is_seen}
use Rattle.table_use.specs.Use.{enables}
use Rattle.table_use.specs.inner.Boxes.{allowed, allowed_by, both_allow, passes, passing, passing_idle}
use Rattle.table_use.proofs.ListCounts.{begins_idle, count_same, idle_counts, passing_counts, unseen_idle, seen_and_idle}
use Rattle.table_use.proofs.Bools.{and_last}
use Rattle.polis_base.proofs.Bools.{same_truth}

-- ---- a test of each code

pub each_passes : (test : ℕ → ℕ → Bool) (n : ℕ) (s : List ℕ)
    → ((v : ℕ) → v < length s → test (n + v) (slice_index s v) ≡ true) → passes test n s ≡ true
each_passes test n [] each = refl
each_passes test n (code ∷ s) each =
    and_from (test n code) (passes test (n + 1) s)
    ((let e : n ≡ n + 0 = omega arith in ap (λ (k : ℕ). test k code) e) ∙ each 0 (omega arith))
    (each_passes test (n + 1) s (λ v low.
    (let e : n + 1 + v ≡ n + suc v = omega arith in ap (λ (k : ℕ). test k (slice_index s v)) e)
    ∙ each (suc v) (omega arith)))

pub passes_each : (test : ℕ → ℕ → Bool) (n : ℕ) (s : List ℕ) (v : ℕ) → passes test n s ≡ true
    → v < length s → test (n + v) (slice_index s v) ≡ true
passes_each test n [] v h low = absurd (omega arith)
passes_each test n (code ∷ s) zero h low =
    (let e : n + 0 ≡ n = omega arith in ap (λ (k : ℕ). test k code) e)
    ∙ (and_parts (test n code) (passes test (n + 1) s) h).0
passes_each test n (code ∷ s) (suc v) h low =
    (let e : n + suc v ≡ n + 1 + v = omega arith in ap (λ (k : ℕ). test k (slice_index s v)) e)
    ∙ passes_each test (n + 1) s v (and_parts (test n code) (passes test (n + 1) s) h).1
    (omega arith)

four : (a b c d : Bool) → ((a && b) && (c && d)) ≡ ((a && c) && (b && d))
four true true c d = refl
four true false true d = refl
four true false false d = refl
four false b c d = refl

both_pass : (one other : ℕ → ℕ → Bool) (n : ℕ) (s : List ℕ)
    → (passes one n s && passes other n s) ≡ passes (λ v code. one v code && other v code) n s
both_pass one other n [] = refl
both_pass one other n (code ∷ s) =
    four (one n code) (passes one (n + 1) s) (other n code) (passes other (n + 1) s)
    ∙ ap (λ (b : Bool). (one n code && other n code) && b) (both_pass one other (n + 1) s)

-- ---- the codes that a row allows

allows_own : (condition : Cond) (s : List ℕ) (v : ℕ) → allows s condition ≡ true
    → allows_code v (slice_index s v) condition ≡ true
allows_own condition s v on = cases (eqb condition.var v) refl
  where
    cases : (b : Bool) → eqb condition.var v ≡ b
        → (not b || eqb (bit_at condition.codes (slice_index s v)) 1) ≡ true
    cases false is = refl
    cases true is =
        ap (λ (k : ℕ). eqb (bit_at condition.codes (slice_index s k)) 1)
        (sym (eqb-true condition.var v is))
        ∙ on

own_allows : (condition : Cond) (s : List ℕ)
    → allows_code condition.var (slice_index s condition.var) condition ≡ true
    → allows s condition ≡ true
own_allows condition s on =
    ap (λ (b : Bool). not b || eqb (bit_at condition.codes (slice_index s condition.var)) 1)
    (sym (eq-eqb condition.var condition.var refl))
    ∙ on

all_allow : (vars s : List ℕ) (conds : List Cond) → list_all (names_codes vars) conds ≡ true
    → ((v : ℕ) → v < length vars → list_all (allows_code v (slice_index s v)) conds ≡ true)
    → list_all (allows s) conds ≡ true
all_allow vars s [] named each = refl
all_allow vars s (d ∷ conds) named each =
    let parts = and_parts (names_codes vars d) (list_all (names_codes vars) conds) named in
    let low = ltb-true d.var (length vars) (and_parts (nat_lt d.var (length vars)) _ parts.0).0 in
    and_from (allows s d) (list_all (allows s) conds)
    (own_allows d s
    (and_parts (allows_code d.var (slice_index s d.var) d)
    (list_all (allows_code d.var (slice_index s d.var)) conds) (each d.var low)).0)
    (all_allow vars s conds parts.1 (λ v less.
    (and_parts (allows_code v (slice_index s v) d)
    (list_all (allows_code v (slice_index s v)) conds) (each v less)).1))

row_inside : (vars s : List ℕ) (row : Row) → list_all (names_codes vars) row.conds ≡ true
    → fits vars s ≡ true → list_all (allows s) row.conds ≡ passes (row_allows vars row) 0 s
row_inside vars s row named fit =
    same_truth (list_all (allows s) row.conds) (passes (row_allows vars row) 0 s)
    (λ on.
    each_passes (row_allows vars row) 0 s (λ v low.
    let size = length_fits vars s fit in
    let e : 0 + v ≡ v = omega arith in
    ap (λ (k : ℕ). row_allows vars row k (slice_index s v)) e
    ∙ and_from (nat_lt (slice_index s v) (slice_index vars v))
    (list_all (allows_code v (slice_index s v)) row.conds)
    (lt-ltb (slice_index s v) (slice_index vars v) (below_size vars s v fit (omega arith)))
    (all_pass (allows s) (allows_code v (slice_index s v)) (λ d h. allows_own d s v h) row.conds
    on)))
    (λ inside.
    all_allow vars s row.conds named (λ v low.
    let size = length_fits vars s fit in
    let e : v ≡ 0 + v = omega arith in
    (and_parts (nat_lt (slice_index s v) (slice_index vars v))
    (list_all (allows_code v (slice_index s v)) row.conds)
    (ap (λ (k : ℕ). row_allows vars row k (slice_index s v)) e
    ∙ passes_each (row_allows vars row) 0 s v inside (omega arith))).1))

pub enables_inside : (m : Machine) (r : ℕ) (row : Row) (s : List ℕ) → slice_get m.rows r ≡ Some row
    → fits m.vars s ≡ true → enables m r s ≡ passes (allowed m r) 0 s
enables_inside m r row s at fit =
    let here = row_there m.inputs m.vars m.results m.rows r row m.fitting_rows at in
    let named = (and_parts (list_all (names_codes m.vars) row.conds)
    (list_all (names_result m.inputs m.vars m.results) row.acts) (and_parts _ _ here).0).0 in
    ap (λ (o : Option Row). holds s o) at
    ∙ row_inside m.vars s row named fit
    ∙ ap (λ (o : Option Row). passes (allowed_by m.vars o) 0 s) (sym at)

pub row_stands : (rows : List Row) (r : ℕ) → r < length rows
    → (row : Row) × (slice_get rows r ≡ Some row)
row_stands [] r low = absurd (omega arith)
row_stands (row ∷ rows) zero low = (row, refl)
row_stands (row ∷ rows) (suc r) low = row_stands rows r (omega arith)

-- ---- how many snapshots enable two rows

count_fits : (sizes : List ℕ) (p q : List ℕ → Bool) (xs : List (List ℕ))
    → list_all (fits sizes) xs ≡ true → ((s : List ℕ) → fits sizes s ≡ true → p s ≡ q s)
    → count_by p xs ≡ count_by q xs
count_fits sizes p q [] all same = refl
count_fits sizes p q (x ∷ xs) all same =
    let parts = and_parts (fits sizes x) (list_all (fits sizes) xs) all in
    sum_by-cons (λ s. cond (p s) 1 0) x xs
    ∙ ap (λ (b : Bool). cond b 1 0 + count_by p xs) (same x parts.0)
    ∙ ap (λ (n : ℕ). cond (q x) 1 0 + n) (count_fits sizes p q xs parts.1 same)
    ∙ sym (sum_by-cons (λ s. cond (q s) 1 0) x xs)

pub count_filter : (p q : List ℕ → Bool) (xs : List (List ℕ))
    → count_by p (filter q xs) ≡ count_by (λ s. p s && q s) xs
count_filter p q [] = refl
count_filter p q (x ∷ xs) =
    kept (q x)
    ∙ ap (λ (n : ℕ). cond (p x && q x) 1 0 + n) (count_filter p q xs)
    ∙ sym (sum_by-cons (λ s. cond (p s && q s) 1 0) x xs)
  where
    kept : (b : Bool)
        → count_by p (cond b (x ∷ filter q xs) (filter q xs))
        ≡ cond (p x && b) 1 0 + count_by p (filter q xs)
    kept true =
        sum_by-cons (λ s. cond (p s) 1 0) x (filter q xs)
        ∙ ap (λ (b : Bool). cond b 1 0 + count_by p (filter q xs)) (sym (and_last (p x)))
    kept false =
        (let e : count_by p (filter q xs) ≡ 0 + count_by p (filter q xs) = omega arith in e)
        ∙ ap (λ (b : Bool). cond b 1 0 + count_by p (filter q xs))
        (sym (and_right (p x) false refl))

pub both_rows : (m : Machine) (r k : ℕ) → r < length m.rows → k < length m.rows
    → amount m (λ s. enables m r s && enables m k s)
    + passing_idle (both_allow m r k) (length m.inputs) 0 m.vars
    ≡ passing (both_allow m r k) 0 m.vars
both_rows m r k low less =
    let one = row_stands m.rows r low in
    let two = row_stands m.rows k less in
    let t : List ℕ → Bool = λ s. enables m r s && enables m k s in
    let box = both_allow m r k in
    let inside : (s : List ℕ) → fits m.vars s ≡ true → t s ≡ passes box 0 s = λ s fit.
    ap (λ (b : Bool). b && enables m k s) (enables_inside m r one.0 s one.1 fit)
    ∙ ap (λ (b : Bool). passes (allowed m r) 0 s && b) (enables_inside m k two.0 s two.1 fit)
    ∙ both_pass (allowed m r) (allowed m k) 0 s in
    let idle : count_by t (filter (λ s. not (is_seen m s)) (all_codes m.vars))
    ≡ passing_idle box (length m.inputs) 0 m.vars =
    count_filter t (λ s. not (is_seen m s)) (all_codes m.vars)
    ∙ count_fits m.vars (λ s. t s && not (is_seen m s))
    (λ s. passes box 0 s && begins_idle (length m.inputs) s) (all_codes m.vars)
    (lists_fit m.vars)
    (λ s fit.
    ap (λ (b : Bool). b && not (is_seen m s)) (inside s fit)
    ∙ ap (λ (b : Bool). passes box 0 s && b) (unseen_idle m s))
    ∙ idle_counts box (length m.inputs) 0 m.vars (machine_sizes m) in
    let all : count_by t (all_codes m.vars) ≡ passing box 0 m.vars =
    count_fits m.vars t (passes box 0) (all_codes m.vars) (lists_fit m.vars) inside
    ∙ passing_counts box 0 m.vars in
    let sum = seen_and_idle m t in
    ap (λ (n : ℕ). amount m t + n) (sym idle) ∙ sum ∙ all

-- ---- one row, and rows that are enabled where another isn't

pub allowed_here : (m : Machine) (r var code : ℕ) (row : Row) → slice_get m.rows r ≡ Some row
    → code < slice_index m.vars var
    → allowed m r var code ≡ list_all (allows_code var code) row.conds
allowed_here m r var code row at low =
    ap (λ (o : Option Row). allowed_by m.vars o var code) at
    ∙ ap (λ (b : Bool). b && list_all (allows_code var code) row.conds)
    (lt-ltb code (slice_index m.vars var) low)

and_self : (a : Bool) → (a && a) ≡ a
and_self true = refl
and_self false = refl

pub own_reach : (m : Machine) (r : ℕ)
    → amount m (λ s. enables m r s && enables m r s) ≡ amount m (enables m r)
own_reach m r =
    count_same (λ s. enables m r s && enables m r s) (enables m r) (seen_ones m)
    (λ s. and_self (enables m r s))

apart : (a b : Bool) → cond (a && not b) 1 0 + cond (a && b) 1 0 ≡ cond a 1 0
apart true true = refl
apart true false = refl
apart false b = refl

apart_in : (p q : List ℕ → Bool) (xs : List (List ℕ))
    → count_by (λ s. p s && not (q s)) xs + count_by (λ s. p s && q s) xs ≡ count_by p xs
apart_in p q [] = refl
apart_in p q (x ∷ xs) =
    let a = sum_by-cons (λ s. cond (p s && not (q s)) 1 0) x xs in
    let b = sum_by-cons (λ s. cond (p s && q s) 1 0) x xs in
    let d = sum_by-cons (λ s. cond (p s) 1 0) x xs in
    let here = apart (p x) (q x) in
    let rest = apart_in p q xs in
    omega arith

-- the snapshots that enable r and not k, and those that enable both, are those that enable r
pub only_and_both : (m : Machine) (r k : ℕ)
    → amount m (enables_only m r k) + amount m (λ s. enables m r s && enables m k s)
    ≡ amount m (enables m r)
only_and_both m r k = apart_in (enables m r) (enables m k) (seen_ones m)

and_swapped : (a b : Bool) → (a && b) ≡ (b && a)
and_swapped true true = refl
and_swapped true false = refl
and_swapped false true = refl
and_swapped false false = refl

-- a row that is enabled on more isn't enabled only where the other is
pub only_where_more : (m : Machine) (r k : ℕ) → amount m (enables m k) < amount m (enables m r)
    → eqb (amount m (enables_only m r k)) 0 ≡ false
only_where_more m r k less =
    let one = only_and_both m r k in
    let two = only_and_both m k r in
    let same : amount m (λ s. enables m r s && enables m k s)
    ≡ amount m (λ s. enables m k s && enables m r s) =
    count_same (λ s. enables m r s && enables m k s) (λ s. enables m k s && enables m r s)
    (seen_ones m) (λ s. and_swapped (enables m r s) (enables m k s)) in
    ne_eqb (amount m (enables_only m r k)) 0 (λ none. absurd (omega arith))
