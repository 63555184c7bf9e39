-- The laws, put together.
use Rattle.std.proofs.Common.{◌≤◌, List, length, replicate, sym, subst, arith, ap}
use Rattle.transition_table.specs.Transitions.{Transition, reading}
use Rattle.transition_table.proofs.FewItems.{few_items}
use Rattle.sgraph.specs.Laws.{NumberedGoesOn}
use Rattle.sgraph.specs.Graphs.{with_codes}
use Rattle.task_code.specs.declared.instr.Instr.{Instr}
use Rattle.task_code.specs.Codes.{start, Exec, StepsOf}
use Rattle.task_machine.specs.Running.{CodeFits}
use Rattle.task_machine.specs.Laws.{LoweredFits, LoweredComputes, FewSteps}
use Rattle.task_machine.proofs.CodeFits.{layout_fits}
use Rattle.task_machine.proofs.Layouts.{same_codes}
use Rattle.task_machine.proofs.StepBounds.{steps_by_items}

pub lowered_fits : LoweredFits
lowered_fits m g c is fit = subst (CodeFits m) (sym is) (layout_fits m g fit (start g))

pub lowered_computes : NumberedGoesOn → LoweredComputes
lowered_computes goes m g c ok numbered is right s fit =
    subst (λ (code : List Instr). Transition m (reading s) (Exec m code s)) (sym is)
    (subst (Transition m (reading s))
    (sym (ap (with_codes m)
    (same_codes g s (goes g ok numbered) (replicate (length m.results) 0)))) (right s fit))

pub few_steps : NumberedGoesOn → FewSteps
few_steps goes m g c s ok numbered once fit is =
    let all = steps_by_items g s m fit (goes g ok numbered) ok once in
    let items = few_items m in
    subst (λ (code : List Instr). StepsOf code s ≤ 75) (sym is) (omega arith)
