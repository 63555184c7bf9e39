use Rattle.std.proofs.Common.{ℕ, true, List, length, refl, ap, subst, ◌∙◌, arith}
use Rattle.std.proofs.lemmas.List.{length-set}
use Rattle.std.proofs.lemmas.Option.{get_or_from_slice_get, slice_get_within}
use Rattle.table_use.specs.inner.Steps.{InputIsFew, input_after}
use Rattle.table_use.specs.declared.used.InputUse.{InputUse}
use Rattle.table_use.proofs.Sets.{none_judged, set_judged, was_left}
use Rattle.table_use.proofs.cover.count_inputs.Goals as goal

pub loop-i-init : goal.loop-i-init
loop-i-init c = record {
  long = refl;
  judged = none_judged (λ i t. input_after c.args.machine.now c.args.p c.args.s.now.codes true i t)
      c.args.inputs.now;
}

pub next_input-after-requires-clause-few : goal.next_input-after-requires-clause-few
next_input-after-requires-clause-few c =
    let old = c.args.inputs.now in
    let i = c.loop-i.i in
    let input = c.get.result.now in
    let f : ℕ → InputUse → InputUse =
    λ i t. input_after c.args.machine.now c.args.p c.args.s.now.codes true i t in
    let at = was_left f i old c.loop-i.inputs input c.loop-i.invariant.judged c.get.ensures in
    subst (InputIsFew c.args.p) (get_or_from_slice_get old i input input at)
    (c.requires.few i input (slice_get_within old i input at))

pub loop-i-preserved : goal.loop-i-preserved
loop-i-preserved c =
    let now = c.loop-i.inputs in
    let i = c.loop-i.i in
    let input = c.get.result.now in
    let made = c.next_input-after.result in
    record {
      long =
          ap (λ (l : List InputUse). length l) c.set.ensures ∙ length-set now i made
          ∙ c.loop-i.invariant.long;
      judged =
          set_judged
          (λ i t. input_after c.args.machine.now c.args.p c.args.s.now.codes true i t) i
          c.args.inputs.now now c.set.new.self input made c.loop-i.invariant.judged c.get.ensures
          (slice_get_within now i input c.get.ensures) c.set.ensures c.next_input-after.ensures;
    }

pub returns-clause-each : goal.returns-clause-each
returns-clause-each c =
    let end = c.len-i-end.ensures in
    let test = c.loop-i-test.false in
    let many = c.requires.many in
    λ i t at.
    let within = slice_get_within c.args.inputs.now i t at in
    c.loop-i.invariant.judged.done i t (omega arith) at
