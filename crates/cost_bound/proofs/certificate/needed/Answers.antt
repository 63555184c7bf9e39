use Rattle.std.proofs.Common.{◌≡◌, ◌-◌, ◌^◌, ◌∙◌, ap, arith, map, length, slice_get, slice_index, suc, Some, sym}
use Rattle.task_code.specs.declared.instr.Instr.{Instr}
use Rattle.task_code.specs.Facts.{goes_on}
use Rattle.cost_bound.specs.Certificates.{greatest}
use Rattle.cost_bound.proofs.LabelSteps.{ahead_few, one_place}
use Rattle.cost_bound.proofs.certificate.needed.Goals as goal
use Rattle.cost_bound.proofs.certificate.needed.Goals.{in-Test, in-Set, in-Goto, in-Halt}

-- of an instruction that is known
on : (c : goal.After-row_known-2-1) {x : Instr} → c.args.instr.now ≡ x
    → greatest (map (slice_index c.args.labels.now) (goes_on c.args.at (Some x)))
    ≡ greatest (map (slice_index c.args.labels.now) (goes_on c.args.at (Some c.args.instr.now)))
on c e =
    ap (λ (y : Instr). greatest (map (slice_index c.args.labels.now) (goes_on c.args.at (Some y))))
    (sym e)

-- what is ahead
ahead : (c : goal.After-row_known-2-1)
    → c.match-instr.ahead
    ≡ greatest (map (slice_index c.args.labels.now) (goes_on c.args.at (Some c.args.instr.now)))
ahead c =
    elim c.match-instr.branch [
      | in-Test w ↦ w.ahead-is ∙ w.greatest_of-ahead.ensures ∙ on c w.in-Test.is
      | in-Set w ↦
          let next : slice_get c.args.labels.now (suc c.args.at) ≡ Some w.get.result.now =
          ap (slice_get c.args.labels.now) (omega arith) ∙ w.get.ensures in
          w.ahead-is ∙ one_place c.args.labels.now (suc c.args.at) w.get.result.now next
          ∙ on c w.in-Set.is
      | in-Goto w ↦
          w.ahead-is
          ∙ one_place c.args.labels.now w.in-Goto.target w.get-in-Goto.result.now
          w.get-in-Goto.ensures ∙ on c w.in-Goto.is
      | in-Halt w ↦ w.ahead-is ∙ on c w.in-Halt.is
    ]

pub overflow_add-result : goal.overflow_add-result
overflow_add-result c =
    let few = ahead_few c.args.labels.now (length c.args.labels.now) c.args.at (2 ^ 62 - 1)
    c.args.instr.now c.requires.goes_on
    (λ p late within. let s = c.requires.small p late within in omega arith) in
    let own = c.of.ensures.few in
    omega (arith, ahead c)

pub returns : goal.returns
returns c = omega (arith, ahead c, c.of.ensures.cost)
