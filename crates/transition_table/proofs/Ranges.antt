-- That the codes of sources are in range.
use Rattle.std.proofs.Common.{◌≡◌, ◌<◌, ◌≤◌, ℕ, zero, suc, ◌+◌, ◌-◌, true, ◌&&◌, ◌==◌, nat_lt, nat_le, List, [], ◌∷◌, map, length, take, drop, slice_get, slice_index, Some, arith, sym, ap, subst, ◌∙◌, inl, inr}
use Rattle.std.specs.List.{list_all, list_any}
use Rattle.std.specs.Int.{bit_at}
use Rattle.std.specs.Cmp.Lexicographic.{pointwise, same_text}
use Rattle.std.proofs.Math.Nat.{mod-lt}
use Rattle.std.proofs.lemmas.Bool.{and_parts, eqb-true, ltb-true, cases_Bool}
use Rattle.std.proofs.lemmas.List.{get_or-take, get_or-drop, get_or-map, length-drop}
use Rattle.domains.specs.Tables.{fits, are_sizes}
use Rattle.transition_table.specs.MachineFacts.{names_codes, names_result, is_row, is_source, has_present, wants}
use Rattle.transition_table.specs.Sources.{code_of, variable_of}
use Rattle.transition_table.specs.Transitions.{allows}
use Rattle.transition_table.specs.declared.row.Act.{Act}
use Rattle.transition_table.specs.declared.row.Cond.{Cond}
use Rattle.transition_table.specs.declared.row.Row.{Row}
use Rattle.transition_table.specs.declared.row.Source.{Source}
use Rattle.transition_table.specs.declared.row.Source.TheVariants.{Code, Input, Add}
use Rattle.transition_table.specs.declared.machine.Machine.{Machine}
use Rattle.polis_base.proofs.Bools.{and_first, and_second}

-- codes that fit are below their sizes
pub below_size : (sizes codes : List ℕ) (k : ℕ) → fits sizes codes ≡ true → k < length sizes
    → slice_index codes k < slice_index sizes k
below_size [] codes k h below = absurd (omega arith)
below_size (size ∷ sizes) [] k h below = cc
below_size (size ∷ sizes) (code ∷ codes) zero h below =
    ltb-true code size (and_first (nat_lt code size) _ h)
below_size (size ∷ sizes) (code ∷ codes) (suc k) h below =
    below_size sizes codes k (and_second (nat_lt code size) _ h) (omega arith)

-- a machine has one size for each input and each state variable
pub vars_length : (m : Machine) → length m.vars ≡ length m.inputs + length m.states
vars_length m =
    eqb-true _ _ (and_second (are_sizes m.vars) _
    (and_first _ (list_all (nat_le 2) (take (length m.inputs) m.vars))
    (and_first _ _ m.sized_vars)))

pub results_parts : (m : Machine) → (length m.results ≡ 1 + length m.states + length m.outputs)
    × ((2 ∷ map (λ size. 1 + size) (drop (length m.inputs) m.vars))
    ≡ take (1 + length m.states) m.results)
results_parts m =
    let n = 1 + length m.states in
    let lengths = length m.results == 1 + length m.states + length m.outputs in
    let prefix = pointwise ◌==◌ (2 ∷ map (λ size. 1 + size) (drop (length m.inputs) m.vars))
    (take n m.results) in
    let after = list_all (nat_le 2) (drop n m.results) in
    let parts = and_parts lengths prefix
    (and_parts (lengths && prefix) after m.sized_results).0 in (
      eqb-true (length m.results) (1 + length m.states + length m.outputs) parts.0,
      same_text (2 ∷ map (λ size. 1 + size) (drop (length m.inputs) m.vars)) (take n m.results)
          (sym parts.1),
    )

-- the result of a state variable has one code more than the variable
pub state_result : (m : Machine) (x : ℕ) → x < length m.states
    → slice_index m.results (1 + x) ≡ 1 + slice_index m.vars (length m.inputs + x)
state_result m x h =
    let parts = results_parts m in
    let lengths = vars_length m in
    let size = length-drop (length m.inputs) m.vars in
    let next : 1 + x ≡ suc x = omega arith in
    sym (get_or-take (1 + length m.states) m.results (1 + x) 0 (omega arith))
    ∙ ap (λ l. slice_index l (1 + x)) (sym parts.1)
    ∙ ap (λ k. slice_index (2 ∷ map (λ size. 1 + size) (drop (length m.inputs) m.vars)) k) next
    ∙ get_or-map (λ size. 1 + size) (drop (length m.inputs) m.vars) x 0 0 (omega arith)
    ∙ ap (λ n. 1 + n) (get_or-drop (length m.inputs) m.vars x 0)

-- what an addition needs: the variable is there, and its code and the step are below its size
pub record Adds (m : Machine) (y k : ℕ) : Type 0 where
  pub some : 0 < y
  pub state : y - 1 < length m.states
  pub var : variable_of m.inputs y < length m.vars
  pub step : k < slice_index m.vars (variable_of m.inputs y)
  pub size : slice_index m.results y ≡ 1 + slice_index m.vars (variable_of m.inputs y)

pub adds : (m : Machine) (y k : ℕ) → is_source m.inputs m.vars m.results y (Add k) ≡ true
    → Adds m y k
adds m y k h =
    let some : 0 < y =
    ltb-true 0 y (and_first _ _
    (and_first _ (nat_lt k (slice_index m.vars (variable_of m.inputs y))) h)) in
    let var : variable_of m.inputs y < length m.vars =
    ltb-true _ _ (and_second (nat_lt 0 y) _
    (and_first _ (nat_lt k (slice_index m.vars (variable_of m.inputs y))) h)) in
    let lengths = vars_length m in
    let state : y - 1 < length m.states = omega arith in
    let own : 1 + (y - 1) ≡ y = omega arith in
    record {
      some = some;
      state = state;
      var = var;
      step = ltb-true _ _
          (and_second (nat_lt 0 y && nat_lt (variable_of m.inputs y) (length m.vars)) _ h);
      size = rw own at (state_result m (y - 1) state);
    }

-- what a copied input needs: it is a variable of the result's size
pub reads : (m : Machine) (y v : ℕ) → is_source m.inputs m.vars m.results y (Input v) ≡ true
    → (v < length m.inputs) × (v < length m.vars) × (slice_index m.vars v ≡ slice_index m.results y)
reads m y v h =
    let parts = and_parts (nat_lt v (length m.inputs))
    (slice_index m.vars v == slice_index m.results y) h in
    let input : v < length m.inputs = ltb-true _ _ parts.0 in
    let lengths = vars_length m in
    (input, omega arith, eqb-true _ _ parts.1)

-- a source's code is a code of the result
pub source_below : (m : Machine) (codes : List ℕ) (y : ℕ) (source : Source)
    → fits m.vars codes ≡ true → is_source m.inputs m.vars m.results y source ≡ true
    → code_of m.inputs m.vars codes y source < slice_index m.results y
source_below m codes y (Code code) fit h = ltb-true _ _ h
source_below m codes y (Input v) fit h =
    let read = reads m y v h in
    let below = below_size m.vars codes v fit read.1 in
    let same = read.2 in
    omega arith
source_below m codes y (Add k) fit h =
    let a = adds m y k h in
    let step = a.step in
    let size = a.size in
    let below = mod-lt (slice_index codes (variable_of m.inputs y) + k)
    {m = slice_index m.vars (variable_of m.inputs y)} (omega arith) in
    omega arith

some_code : (mask code : ℕ) → bit_at mask 0 ≡ 0 → bit_at mask code ≡ 1 → 1 ≤ code
some_code mask zero clear set = absurd (omega arith)
some_code mask (suc code) clear set = omega arith

-- a row's conditions want an input present from which it takes a code
absent_fails : (codes : List ℕ) (v : ℕ) (conds : List Cond) → list_any (wants v) conds ≡ true
    → list_all (allows codes) conds ≡ true → 1 ≤ slice_index codes v
absent_fails codes v [] some all = cc
absent_fails codes v (c ∷ conds) some all =
    let parts = and_parts (allows codes c) (list_all (allows codes) conds) all in
    elim (cases_Bool (wants v c)) [
      | inl here ↦
          let own = and_parts (c.var == v) (bit_at c.codes 0 == 0) here in
          let same = eqb-true c.var v own.0 in
          let clear = eqb-true (bit_at c.codes 0) 0 own.1 in
          let set = eqb-true (bit_at c.codes (slice_index codes c.var)) 1 parts.0 in
          subst (λ k. 1 ≤ slice_index codes k) same
          (some_code c.codes (slice_index codes c.var) clear set)
      | inr other ↦ absent_fails codes v conds (rw other at some) parts.1
    ]

pub is_present : (codes : List ℕ) (v : ℕ) (conds : List Cond) (acts : List Act) (k : ℕ) (act : Act)
    → list_all (λ act. has_present conds act.source) acts ≡ true → slice_get acts k ≡ Some act
    → act.source ≡ Input v → list_all (allows codes) conds ≡ true → 1 ≤ slice_index codes v
is_present codes v conds [] k act h at reads held = cc
is_present codes v conds (a ∷ acts) zero act h at reads held =
    let same : a ≡ act = cc in
    let own = and_first (has_present conds a.source) _ h in
    let wanted : has_present conds (Input v) ≡ true =
    subst (λ source. has_present conds source ≡ true) (ap (λ (x : Act). x.source) same ∙ reads)
    own in
    absent_fails codes v conds wanted held
is_present codes v conds (a ∷ acts) (suc k) act h at reads held =
    is_present codes v conds acts k act (and_second (has_present conds a.source) _ h) at reads held

-- a row of the machine, and its actions
pub row_there : (inputs vars results : List ℕ) (rows : List Row) (k : ℕ) (row : Row)
    → list_all (is_row inputs vars results) rows ≡ true → slice_get rows k ≡ Some row
    → is_row inputs vars results row ≡ true
row_there inputs vars results [] k row all at = cc
row_there inputs vars results (r ∷ rows) zero row all at =
    let e : r ≡ row = cc in
    rw e at (and_first (is_row inputs vars results r) _ all)
row_there inputs vars results (r ∷ rows) (suc k) row all at =
    row_there inputs vars results rows k row (and_second (is_row inputs vars results r) _ all) at

pub acts_of : (inputs vars results : List ℕ) (row : Row) → is_row inputs vars results row ≡ true
    → list_all (names_result inputs vars results) row.acts ≡ true
acts_of inputs vars results row h =
    and_second (list_all (names_codes vars) row.conds) _
    (and_first _ (list_all (λ act. has_present row.conds act.source) row.acts) h)

-- an action whose source is an input or an addition
pub reads_of : (m : Machine) (act : Act) (v : ℕ) → names_result m.inputs m.vars m.results act ≡ true
    → act.source ≡ Input v → (v < length m.inputs) × (v < length m.vars)
    × (slice_index m.vars v ≡ slice_index m.results act.result)
reads_of m act v named is =
    reads m act.result v
    (subst (λ source. is_source m.inputs m.vars m.results act.result source ≡ true) is
    (and_second (nat_lt act.result (length m.results)) _ named))

pub adds_of : (m : Machine) (act : Act) (k : ℕ) → names_result m.inputs m.vars m.results act ≡ true
    → act.source ≡ Add k → Adds m act.result k
adds_of m act k named is =
    adds m act.result k
    (subst (λ source. is_source m.inputs m.vars m.results act.result source ≡ true) is
    (and_second (nat_lt act.result (length m.results)) _ named))
