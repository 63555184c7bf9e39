use Rattle.std.proofs.Common.{◌≡◌, sym, ◌∙◌, arith, add-one, None}
use Rattle.std.specs.List.{find}
use Rattle.std.proofs.lemmas.List.{take_all}
use Rattle.journals.specs.Journals.{is_woken}
use Rattle.scheduler_gen.proofs.FirstOfPlan.{find_at, find_past, first_of_plan}
use Rattle.scheduler_gen.proofs.next.first_to_react.Goals as goal
use Rattle.transition_table.proofs.MachineCounts.{has_at}

pub woken-requires : goal.woken-requires
woken-requires c =
    (c.requires.machines c.get-machine.result.now).0
    (has_at c.args.plan.now c.loop-i.i c.get-machine.result.now c.get-machine.ensures)

pub returns-then-woken-clause-first : goal.returns-then-woken-clause-first
returns-then-woken-clause-first c =
    let test = is_woken c.args.config.now.journal in
    sym (find_at test c.args.plan.now c.loop-i.i c.get-machine.result.now c.loop-i.invariant
    c.get-machine.ensures (sym c.woken.ensures ∙ c.if-woken.true))
    ∙ first_of_plan c.args.config.now.net c.args.plan.now test c.requires

pub loop-i-preserved : goal.loop-i-preserved
loop-i-preserved c =
    let next = find_past (is_woken c.args.config.now.journal) c.args.plan.now c.loop-i.i
    c.get-machine.result.now c.loop-i.invariant c.get-machine.ensures
    (sym c.woken.ensures ∙ c.if-woken.false) in
    rw add-one next

pub returns-clause-first : goal.returns-clause-first
returns-clause-first c =
    let test = is_woken c.args.config.now.journal in
    let whole = take_all c.loop-i.i c.args.plan.now (omega arith) in
    let none : find test c.args.plan.now ≡ None = rw whole at c.loop-i.invariant in
    sym none ∙ first_of_plan c.args.config.now.net c.args.plan.now test c.requires

pub returns-then-woken-clause-below : goal.returns-then-woken-clause-below
returns-then-woken-clause-below c =
    (c.requires.machines c.get-machine.result.now).0
    (has_at c.args.plan.now c.loop-i.i c.get-machine.result.now c.get-machine.ensures)
