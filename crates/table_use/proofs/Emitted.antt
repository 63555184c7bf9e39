-- Outputs that are emitted by rows that are enabled.
use Rattle.std.proofs.Common.{◌≡◌, ℕ, ◌+◌, ◌<◌, Bool, true, false, cond, not, ◌&&◌, ◌||◌, eqb, List, [], ◌∷◌, length, count_by, slice_get, slice_index, Option, Some, refl, sym, ap, ◌∙◌, arith}
use Rattle.std.specs.List.{list_all, list_any}
use Rattle.std.specs.Int.{bit_at}
use Rattle.std.proofs.lemmas.Bool.{and_parts, eq-eqb, eqb-true, ne_eqb}
use Rattle.std.proofs.lemmas.List.Sums.{sum_by-cons}
use Rattle.polis_base.specs.Lists.{upto}
use Rattle.polis_base.proofs.Lists.{some_item}
use Rattle.journals.proofs.MomentsAfter.{get_or_table}
use Rattle.transition_table.specs.MachineFacts.{has_present, wants}
use Rattle.transition_table.specs.Sources.{code_of}
use Rattle.transition_table.specs.Transitions.{actions, allows, code_given, holds, reading, result}
use Rattle.transition_table.specs.declared.machine.Machine.{Machine}
use Rattle.transition_table.specs.declared.row.Act.{Act}
use Rattle.transition_table.specs.declared.row.Cond.{Cond}
use Rattle.transition_table.specs.declared.row.Row.{Row}
use Rattle.transition_table.specs.declared.row.Source.{Source}
use Rattle.transition_table.specs.declared.row.Source.TheVariants.{Code, Input, Add}
use Rattle.transition_table.proofs.Ranges.{row_there}
use Rattle.table_use.specs.Lint.{amount, emits, seen_ones}
use Rattle.table_use.specs.Use.{enables}
use Rattle.table_use.specs.inner.Emitting.{gives_some, is_some}
use Rattle.table_use.proofs.RowBoxes.{row_stands}
use Rattle.polis_base.proofs.Bools.{not_not}
use Rattle.polis_base.proofs.ListTests.{any_same, any_same_below}

-- the row of this number is enabled on some snapshot that is seen, and emits the output y there
abbrev pub is_emitting : Machine → ℕ → ℕ → Bool
is_emitting m y r =
    not (eqb (amount m (enables m r)) 0)
    && gives_some (actions (slice_get m.rows r)) (1 + length m.states + y)

-- ---- what an enabled row gives

-- an input that a condition wants is present where the conditions hold
wanted : (s : List ℕ) (v : ℕ) (conds : List Cond) → list_any (wants v) conds ≡ true
    → list_all (allows s) conds ≡ true → (slice_index s v ≡ 0 → ⊥)
wanted s v conds some all none =
    let d = some_item (allows s) (wants v) conds all some in
    let parts = and_parts (eqb (d.0).var v) (eqb (bit_at (d.0).codes 0) 0) d.2 in
    let var : (d.0).var ≡ v = eqb-true (d.0).var v parts.0 in
    let absent = eqb-true (bit_at (d.0).codes 0) 0 parts.1 in
    let here : bit_at (d.0).codes (slice_index s (d.0).var) ≡ 1 =
    eqb-true (bit_at (d.0).codes (slice_index s (d.0).var)) 1 d.1 in
    let same : slice_index s (d.0).var ≡ 0 = ap (slice_index s) var ∙ none in
    let there : bit_at (d.0).codes 0 ≡ 1 =
    ap (bit_at (d.0).codes) (sym same) ∙ here in
    absurd (omega arith)

source_some : (m : Machine) (s : List ℕ) (conds : List Cond) (y : ℕ) (source : Source)
    → has_present conds source ≡ true → list_all (allows s) conds ≡ true
    → eqb (code_of m.inputs m.vars s y source) 0 ≡ not (is_some source)
source_some m s conds y (Code code) shown all = sym (not_not (eqb code 0))
source_some m s conds y (Input v) shown all =
    ne_eqb (slice_index s v) 0 (wanted s v conds shown all)
source_some m s conds y (Add k) shown all =
    ne_eqb (code_of m.inputs m.vars s y (Add k)) 0 (λ e. absurd (omega arith))

given_some : (m : Machine) (s : List ℕ) (conds : List Cond) (acts : List Act) (y : ℕ)
    → list_all (λ act. has_present conds act.source) acts ≡ true
    → list_all (allows s) conds ≡ true
    → eqb (code_given m s acts y) 0 ≡ not (gives_some acts y)
given_some m s conds [] y shown all = eq-eqb 0 0 refl
given_some m s conds (act ∷ acts) y shown all =
    let parts = and_parts (has_present conds act.source)
    (list_all (λ act. has_present conds act.source) acts) shown in
    cases (eqb act.result y) (source_some m s conds act.result act.source parts.0 all)
    (given_some m s conds acts y parts.1 all)
  where
    cases : (b : Bool)
        → eqb (code_of m.inputs m.vars s act.result act.source) 0 ≡ not (is_some act.source)
        → eqb (code_given m s acts y) 0 ≡ not (gives_some acts y)
        → eqb (cond b (code_of m.inputs m.vars s act.result act.source) (code_given m s acts y)) 0
        ≡ not (cond b (is_some act.source) (gives_some acts y))
    cases true one rest = one
    cases false one rest = rest

-- the code that a row's result has for an output
out_code : (m : Machine) (r y : ℕ) (s : List ℕ) → y < length m.outputs
    → slice_index (result m r (reading s)).outs y
    ≡ code_given m s (actions (slice_get m.rows r)) (1 + length m.states + y)
out_code m r y s low =
    get_or_table (λ k. code_given m s (actions (slice_get m.rows r)) (1 + length m.states + k))
    (length m.outputs) y 0 low

emits_if : (m : Machine) (r y : ℕ) (s : List ℕ) → r < length m.rows → y < length m.outputs
    → (enables m r s && not (eqb (slice_index (result m r (reading s)).outs y) 0))
    ≡ (enables m r s && gives_some (actions (slice_get m.rows r)) (1 + length m.states + y))
emits_if m r y s low inside = cases (enables m r s) refl
  where
    cases : (b : Bool) → enables m r s ≡ b
        → (b && not (eqb (slice_index (result m r (reading s)).outs y) 0))
        ≡ (b && gives_some (actions (slice_get m.rows r)) (1 + length m.states + y))
    cases false is = refl
    cases true is =
        let there = row_stands m.rows r low in
        let row = there.0 in
        let acts = ap actions there.1 in
        let fact = row_there m.inputs m.vars m.results m.rows r row m.fitting_rows there.1 in
        let shown = (and_parts _ (list_all (λ act. has_present row.conds act.source) row.acts)
        fact).1 in
        let all : list_all (allows s) row.conds ≡ true =
        ap (holds s) (sym there.1) ∙ is in
        ap (λ (k : ℕ). not (eqb k 0))
        (out_code m r y s inside
        ∙ ap (λ (l : List Act). code_given m s l (1 + length m.states + y)) acts)
        ∙ ap not (given_some m s row.conds row.acts (1 + length m.states + y) shown all)
        ∙ not_not (gives_some row.acts (1 + length m.states + y))
        ∙ ap (λ (l : List Act). gives_some l (1 + length m.states + y)) (sym acts)

-- ---- on some snapshot by some row

any_none : {X : Type 0} (xs : List X) → list_any (λ (x : X). false) xs ≡ false
any_none [] = refl
any_none (x ∷ xs) = any_none xs

any_or : (p q : ℕ → Bool) (rs : List ℕ)
    → (list_any p rs || list_any q rs) ≡ list_any (λ r. p r || q r) rs
any_or p q [] = refl
any_or p q (r ∷ rs) =
    mixed (p r) (list_any p rs) (q r) (list_any q rs)
    ∙ ap (λ (b : Bool). (p r || q r) || b) (any_or p q rs)
  where
    mixed : (a b c d : Bool) → ((a || b) || (c || d)) ≡ ((a || c) || (b || d))
    mixed true b c d = refl
    mixed false true true d = refl
    mixed false true false d = refl
    mixed false false c d = refl

shared : (a b g : Bool) → ((a && g) || (b && g)) ≡ ((a || b) && g)
shared true true true = refl
shared true true false = refl
shared true false true = refl
shared true false false = refl
shared false b g = refl

any_swapped : (e : ℕ → List ℕ → Bool) (g : ℕ → Bool) (rs : List ℕ) (xs : List (List ℕ))
    → list_any (λ s. list_any (λ r. e r s && g r) rs) xs
    ≡ list_any (λ r. list_any (e r) xs && g r) rs
any_swapped e g rs [] = sym (any_none rs)
any_swapped e g rs (x ∷ xs) =
    ap (λ (b : Bool). list_any (λ r. e r x && g r) rs || b) (any_swapped e g rs xs)
    ∙ any_or (λ r. e r x && g r) (λ r. list_any (e r) xs && g r) rs
    ∙ any_same (λ r. (e r x && g r) || (list_any (e r) xs && g r))
    (λ r. (e r x || list_any (e r) xs) && g r) rs
    (λ r. shared (e r x) (list_any (e r) xs) (g r))

-- none is counted where none passes
pub none_any : (p : List ℕ → Bool) (xs : List (List ℕ))
    → eqb (count_by p xs) 0 ≡ not (list_any p xs)
none_any p [] = eq-eqb 0 0 refl
none_any p (x ∷ xs) =
    ap (λ (n : ℕ). eqb n 0) (sum_by-cons (λ s. cond (p s) 1 0) x xs)
    ∙ cases (p x) (none_any p xs)
  where
    cases : (b : Bool) → eqb (count_by p xs) 0 ≡ not (list_any p xs)
        → eqb (cond b 1 0 + count_by p xs) 0 ≡ not (b || list_any p xs)
    cases true rest = ne_eqb (1 + count_by p xs) 0 (λ e. absurd (omega arith))
    cases false rest =
        (let e : 0 + count_by p xs ≡ count_by p xs = omega arith in
        ap (λ (n : ℕ). eqb n 0) e) ∙ rest

some_any : (p : List ℕ → Bool) (xs : List (List ℕ))
    → not (eqb (count_by p xs) 0) ≡ list_any p xs
some_any p xs = ap not (none_any p xs) ∙ not_not (list_any p xs)

pub emitted_by_rows : (m : Machine) (y : ℕ) → y < length m.outputs
    → list_any (is_emitting m y) (upto (length m.rows)) ≡ not (eqb (amount m (emits m y)) 0)
emitted_by_rows m y low =
    let g : ℕ → Bool = λ r. gives_some (actions (slice_get m.rows r)) (1 + length m.states + y) in
    let rows = upto (length m.rows) in
    any_same (is_emitting m y) (λ r. list_any (enables m r) (seen_ones m) && g r) rows
    (λ r. ap (λ (b : Bool). b && g r) (some_any (enables m r) (seen_ones m)))
    ∙ sym (any_swapped (enables m) g rows (seen_ones m))
    ∙ any_same (λ s. list_any (λ r. enables m r s && g r) rows) (emits m y) (seen_ones m)
    (λ s. sym (any_same_below
    (λ r. enables m r s && not (eqb (slice_index (result m r (reading s)).outs y) 0))
    (λ r. enables m r s && g r) (length m.rows)
    (λ r inside. emits_if m r y s inside low)))
    ∙ sym (some_any (emits m y) (seen_ones m))

-- ---- one row

pub emitting_is : (m : Machine) (y r : ℕ) (row : Row) (a b : Bool)
    → not (eqb (amount m (enables m r)) 0) ≡ a → slice_get m.rows r ≡ Some row
    → gives_some row.acts (1 + length m.states + y) ≡ b → is_emitting m y r ≡ (a && b)
emitting_is m y r row a b reach at gives =
    ap (λ (z : Bool). z && gives_some (actions (slice_get m.rows r)) (1 + length m.states + y))
    reach
    ∙ ap (λ (z : Bool). a && z)
    (ap (λ (o : Option Row). gives_some (actions o) (1 + length m.states + y)) at ∙ gives)
