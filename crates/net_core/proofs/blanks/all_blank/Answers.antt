use Rattle.std.proofs.Common.{List, ◌∷◌, ◌++◌, [], map, take, ap, sym, ◌∙◌, arith}
use Rattle.std.proofs.lemmas.List.{map-append, take_all}
use Rattle.transition_table.specs.Transitions.{blank}
use Rattle.transition_table.specs.declared.machine.Machine.{Machine}
use Rattle.transition_table.specs.declared.snapshot.Outcome.{Outcome}
use Rattle.net_core.proofs.Prefixes.{blanks_are_wide}
use Rattle.journals.proofs.StampSteps.{prefix_more}
use Rattle.net_core.proofs.blanks.all_blank.Goals as goal

pub loop-m-preserved : goal.loop-m-preserved
loop-m-preserved c =
    let machines = c.args.net.now.machines in
    let o = c.in_ok-blank.blank in
    c.in_ok-push.ensures.items ∙ ap (λ (l : List Outcome). l ++ o ∷ []) c.loop-m.invariant
    ∙ ap (λ (x : Outcome). map blank (take c.loop-m.m machines) ++ x ∷ [])
    c.in_ok-blank.ensures.blank
    ∙ sym (ap (λ (l : List Machine). map blank l)
    (prefix_more machines c.loop-m.m c.get.result.now (omega arith) c.get.ensures)
    ∙ map-append blank (take c.loop-m.m machines) (c.get.result.now ∷ []))

pub returns : goal.returns
returns c =
    let machines = c.args.net.now.machines in
    blanks_are_wide c.args.net.now c.loop-m.outcomes.items
    (c.loop-m.invariant ∙ ap (λ (l : List Machine). map blank l)
    (take_all c.loop-m.m machines (omega arith)))
