-- Rows that say nothing of the variables that aren't fixed: the outcome on all lists that begin
-- with the fixed codes.
use Rattle.std.proofs.Common.{◌≡◌, ℕ, suc, ◌+◌, ◌-◌, ◌%◌, ◌<◌, ◌≤◌, Bool, true, false, cond, not, ◌||◌, ◌==◌, List, [], ◌∷◌, ◌++◌, length, slice_get, slice_index, None, Some, refl, ap, sym, ◌∙◌, arith, nat_lt, subst}
use Rattle.std.specs.List.{list_all}
use Rattle.std.specs.Int.{bit_at}
use Rattle.std.proofs.lemmas.Bool.{and_parts, and_from, lt-ltb, ltb-true, false≢true}
use Rattle.std.proofs.lemmas.Option.{slice_get-get_or}
use Rattle.polis_base.specs.Lists.{places_from}
use Rattle.transition_table.specs.Computed.{outcome_by}
use Rattle.transition_table.specs.Orders.{codes_of}
use Rattle.transition_table.specs.Sources.{code_of, variable_of}
use Rattle.transition_table.specs.Transitions.{allows, outcome_of, blank}
use Rattle.transition_table.specs.declared.machine.Machine.{Machine}
use Rattle.transition_table.specs.declared.row.Cond.{Cond}
use Rattle.transition_table.specs.declared.row.Row.{Row}
use Rattle.transition_table.specs.declared.row.Source.{Source}
use Rattle.transition_table.specs.declared.row.Source.TheVariants.{Code, Input, Add}
use Rattle.outcome_table.specs.inner.Needs.{AreEnds, asks_before, is_before, is_settled, takes_before}
use Rattle.outcome_table.specs.inner.Numbering.{may_hold, may_be_enabled, rows_left}
use Rattle.outcome_table.proofs.BeginWithRows.{same_outcome}
use Rattle.polis_base.proofs.Places.{index_append}

-- ---- conditions
hold_of : (fixed rest : List ℕ) (c : Cond) → allows (fixed ++ rest) c ≡ true
    → may_hold fixed c ≡ true
hold_of fixed rest c h = on (nat_lt c.var (length fixed)) refl
  where
    on : (b : Bool) → nat_lt c.var (length fixed) ≡ b → may_hold fixed c ≡ true
    on true e = ap (λ b. not b || allows fixed c) e
        ∙ ap (λ k. bit_at c.codes k == 1)
        (sym (index_append fixed rest c.var (ltb-true c.var (length fixed) e)))
        ∙ h
    on false e = ap (λ b. not b || allows fixed c) e

conds_of : (fixed rest : List ℕ) (conds : List Cond)
    → list_all (allows (fixed ++ rest)) conds ≡ true → list_all (may_hold fixed) conds ≡ true
conds_of fixed rest [] h = refl
conds_of fixed rest (c ∷ conds) h =
    let parts = and_parts (allows (fixed ++ rest) c) (list_all (allows (fixed ++ rest)) conds) h in
    and_from (may_hold fixed c) (list_all (may_hold fixed) conds) (hold_of fixed rest c parts.0)
    (conds_of fixed rest conds parts.1)

-- a row that can't be enabled any more isn't
not_enabled : (fixed rest : List ℕ) (row : Row) → may_be_enabled fixed row ≡ false
    → list_all (allows (fixed ++ rest)) row.conds ≡ false
not_enabled fixed rest row off = on (list_all (allows (fixed ++ rest)) row.conds) refl
  where
    on : (b : Bool) → list_all (allows (fixed ++ rest)) row.conds ≡ b
        → list_all (allows (fixed ++ rest)) row.conds ≡ false
    on true e = absurd (false≢true (sym off ∙ conds_of fixed rest row.conds e))
    on false e = e

-- and conditions on the fixed variables alone hold where they may
settled_conds : (n : ℕ) (fixed rest : List ℕ) (conds : List Cond) → n ≤ length fixed
    → list_all (asks_before n) conds ≡ true → list_all (may_hold fixed) conds ≡ true
    → list_all (allows (fixed ++ rest)) conds ≡ true
settled_conds n fixed rest [] most h may = refl
settled_conds n fixed rest (c ∷ conds) most h may =
    let parts = and_parts (asks_before n c) (list_all (asks_before n) conds) h in
    let low = ltb-true c.var n parts.0 in
    let both = and_parts (may_hold fixed c) (list_all (may_hold fixed) conds) may in
    let inside : nat_lt c.var (length fixed) ≡ true = lt-ltb c.var (length fixed) (omega arith) in
    let first : allows (fixed ++ rest) c ≡ true =
    ap (λ k. bit_at c.codes k == 1) (index_append fixed rest c.var (omega arith))
    ∙ sym (ap (λ b. not b || allows fixed c) inside) ∙ both.0 in
    and_from (allows (fixed ++ rest) c) (list_all (allows (fixed ++ rest)) conds) first
    (settled_conds n fixed rest conds most parts.1 both.1)

-- ---- no row is left, so none is enabled
none_by : (m : Machine) (fixed rest : List ℕ) (n : ℕ) (rows : List Row)
    → length (places_from n (may_be_enabled fixed) rows) ≡ 0
    → outcome_by m rows (fixed ++ rest) ≡ blank m
none_by m fixed rest n [] none = refl
none_by m fixed rest n (row ∷ rows) none =
    on (may_be_enabled fixed row) refl (λ short. none_by m fixed rest (n + 1) rows short)
  where
    on : (b : Bool) → may_be_enabled fixed row ≡ b
        → (length (places_from (n + 1) (may_be_enabled fixed) rows) ≡ 0
        → outcome_by m rows (fixed ++ rest) ≡ blank m)
        → outcome_by m (row ∷ rows) (fixed ++ rest) ≡ blank m
    on true e later =
        absurd (let f = ap
        (λ b. length (cond b (n ∷ places_from (n + 1) (may_be_enabled fixed) rows)
        (places_from (n + 1) (may_be_enabled fixed) rows))) (sym e) ∙ none in omega arith)
    on false e later =
        ap (λ b. cond b (outcome_of m (fixed ++ rest) true row.acts)
        (outcome_by m rows (fixed ++ rest))) (not_enabled fixed rest row e)
        ∙ later (ap (λ b.
        length (cond b (n ∷ places_from (n + 1) (may_be_enabled fixed) rows)
        (places_from (n + 1) (may_be_enabled fixed) rows))) (sym e) ∙ none)

none_long : (rows : List ℕ) → slice_get rows 0 ≡ None → length rows ≡ 0
none_long [] none = refl
none_long (r ∷ rows) none = cc

pub none_left : (m : Machine) (fixed rest : List ℕ) → slice_get (rows_left m fixed) 0 ≡ None
    → outcome_by m m.rows (fixed ++ rest) ≡ blank m
none_left m fixed rest none = none_by m fixed rest 0 m.rows (none_long (rows_left m fixed) none)

-- ---- the row of this number, whose outcome is that of the rows where it is settled
pub record IsFirst (m : Machine) (fixed : List ℕ) (rows : List Row) (n r : ℕ) : Type 0 where
  pub row : Row
  pub from : n ≤ r
  pub at : slice_get rows (r - n) ≡ Some row
  pub gives : (end : ℕ) → end ≤ length fixed → is_settled m.inputs end row ≡ true
      → (rest : List ℕ)
      → outcome_by m rows (fixed ++ rest) ≡ outcome_of m (fixed ++ rest) true row.acts

first_by : (m : Machine) (fixed : List ℕ) (n r : ℕ) (rows : List Row)
    → slice_get (places_from n (may_be_enabled fixed) rows) 0 ≡ Some r → IsFirst m fixed rows n r
first_by m fixed n r [] first = cc
first_by m fixed n r (row ∷ rows) first =
    on (may_be_enabled fixed row) refl (λ at. first_by m fixed (n + 1) r rows at)
  where
    on : (b : Bool) → may_be_enabled fixed row ≡ b
        → (slice_get (places_from (n + 1) (may_be_enabled fixed) rows) 0 ≡ Some r
        → IsFirst m fixed rows (n + 1) r) → IsFirst m fixed (row ∷ rows) n r
    on true e later =
        let f : Some n ≡ Some r =
        ap (λ b. slice_get
        (cond b (n ∷ places_from (n + 1) (may_be_enabled fixed) rows)
        (places_from (n + 1) (may_be_enabled fixed) rows)) 0) (sym e) ∙ first in
        let here : n ≡ r = cc in
        let zero_off : 0 ≡ r - n = omega arith in
        record {
          row = row;
          from = omega arith;
          at = subst (λ k. slice_get (row ∷ rows) k ≡ Some row) zero_off refl;
          gives = λ end most settled rest.
              ap (λ b. cond b (outcome_of m (fixed ++ rest) true row.acts)
              (outcome_by m rows (fixed ++ rest)))
              (settled_conds end fixed rest row.conds most
              (and_parts (list_all (asks_before end) row.conds)
              (list_all (takes_before m.inputs end) row.acts) settled).0 e);
        }
    on false e later =
        let h = later (ap
        (λ b. slice_get
        (cond b (n ∷ places_from (n + 1) (may_be_enabled fixed) rows)
        (places_from (n + 1) (may_be_enabled fixed) rows)) 0) (sym e) ∙ first) in
        let from = h.from in
        let off : suc (r - (n + 1)) ≡ r - n = omega arith in
        record {
          row = h.row;
          from = omega arith;
          at = subst (λ k. slice_get (row ∷ rows) k ≡ Some h.row) off h.at;
          gives = λ end most settled rest.
              ap (λ b. cond b (outcome_of m (fixed ++ rest) true row.acts)
              (outcome_by m rows (fixed ++ rest))) (not_enabled fixed rest row e)
              ∙ h.gives end most settled rest;
        }

pub first_left : (m : Machine) (fixed : List ℕ) (r : ℕ)
    → slice_get (rows_left m fixed) 0 ≡ Some r → IsFirst m fixed m.rows 0 r
first_left m fixed r first = first_by m fixed 0 r m.rows first

-- ---- what the actions of a settled row give
same_source : (m : Machine) (fixed rest more : List ℕ) (n y : ℕ) (source : Source)
    → n ≤ length fixed → is_before m.inputs n y source ≡ true
    → code_of m.inputs m.vars (fixed ++ rest) y source
    ≡ code_of m.inputs m.vars (fixed ++ more) y source
same_source m fixed rest more n y (Code code) most h = refl
same_source m fixed rest more n y (Input v) most h =
    let low = ltb-true v n h in
    index_append fixed rest v (omega arith) ∙ sym (index_append fixed more v (omega arith))
same_source m fixed rest more n y (Add k) most h =
    let w = variable_of m.inputs y in
    let low = ltb-true w n h in
    ap (λ c. 1 + (c + k) % slice_index m.vars w)
    (index_append fixed rest w (omega arith) ∙ sym (index_append fixed more w (omega arith)))

pub same_results : (m : Machine) (fixed rest more : List ℕ) (end : ℕ) (row : Row)
    → end ≤ length fixed → is_settled m.inputs end row ≡ true
    → codes_of (outcome_of m (fixed ++ rest) true row.acts)
    ≡ codes_of (outcome_of m (fixed ++ more) true row.acts)
same_results m fixed rest more end row most settled =
    same_outcome m (fixed ++ rest) (fixed ++ more) (takes_before m.inputs end)
    (λ act h. same_source m fixed rest more end act.result act.source most h) row.acts
    (and_parts (list_all (asks_before end) row.conds)
    (list_all (takes_before m.inputs end) row.acts) settled).1

-- ---- the number of variables that a row needs
pub end_within : (m : Machine) (ends : List ℕ) (r : ℕ) → AreEnds m ends → r < length ends
    → slice_index ends r ≤ length m.vars
end_within m ends r are low =
    let long = are.long in
    let get = slice_get-get_or m.rows r (record { conds = []; acts = []; actions = refl })
    (omega arith) in
    (are.each r _ get).0
