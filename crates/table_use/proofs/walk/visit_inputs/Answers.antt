use Rattle.std.proofs.Common.{◌≡◌, ℕ, slice_get, Some, refl, sym, ap, subst, ◌∙◌, arith}
use Rattle.std.proofs.lemmas.List.{length-set}
use Rattle.std.proofs.lemmas.Option.{get_or_from_slice_get, slice_get-get_or, slice_get_within}
use Rattle.table_use.specs.inner.Walking.{InputIsFew, input_met}
use Rattle.table_use.specs.declared.finding.InputLint.{InputLint}
use Rattle.table_use.proofs.Sets.{none_judged, set_judged, was_left}
use Rattle.table_use.proofs.walk.visit_inputs.Goals.{After-index_mut}
use Rattle.table_use.proofs.walk.visit_inputs.Goals as goal

-- the input that is judged
here : (c : After-index_mut)
    → slice_get c.loop-i.inputs.items c.loop-i.i ≡ Some c.index_mut.result.now
here c =
    let now = c.loop-i.inputs.items in
    let input = c.index_mut.result.now in
    let end = c.len-i-end.ensures in
    let test = c.loop-i-test.true in
    let long = c.loop-i.invariant.long in
    slice_get-get_or now c.loop-i.i input (omega arith)
    ∙ ap (λ (x : InputLint). Some x) (sym c.index_mut.ensures.value)

pub loop-i-init : goal.loop-i-init
loop-i-init c = record {
  long = refl;
  judged =
      none_judged (λ i x. input_met c.args.lookup.now.machine.now c.args.codes.now i x)
      c.args.inputs.now.items;
}

pub visit_input-requires-clause-few : goal.visit_input-requires-clause-few
visit_input-requires-clause-few c =
    let old = c.args.inputs.now.items in
    let i = c.loop-i.i in
    let input = c.index_mut.result.now in
    let f : ℕ → InputLint → InputLint =
    λ i x. input_met c.args.lookup.now.machine.now c.args.codes.now i x in
    let at = was_left f i old c.loop-i.inputs.items input c.loop-i.invariant.judged
    (here (goal.at.visit_input-requires-clause-few c).After-index_mut) in
    subst (InputIsFew c.args.n) (get_or_from_slice_get old i input input at)
    (c.requires.few i input (slice_get_within old i input at))

pub loop-i-preserved : goal.loop-i-preserved
loop-i-preserved c =
    let now = c.loop-i.inputs.items in
    let i = c.loop-i.i in
    let input = c.index_mut.result.now in
    let made = c.visit_input.new.input in
    let at = here (goal.at.loop-i-preserved c).After-index_mut in
    record {
      long = length-set now i made ∙ c.loop-i.invariant.long;
      judged =
          set_judged (λ i x. input_met c.args.lookup.now.machine.now c.args.codes.now i x) i
          c.args.inputs.now.items now _ input made c.loop-i.invariant.judged
          at (slice_get_within now i input at) refl c.in_ok-visit_input.ensures;
    }

pub returns-clause-each : goal.returns-clause-each
returns-clause-each c =
    let end = c.len-i-end.ensures in
    let test = c.loop-i-test.false in
    λ i x at.
    let within = slice_get_within c.args.inputs.now.items i x at in
    c.loop-i.invariant.judged.done i x (omega arith) at
