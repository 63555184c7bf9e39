use Rattle.std.proofs.Common.{◌++◌}
use Rattle.net_names.specs.Places.{sooner, least_place}
use Rattle.net_names.specs.Numbers.{repeated, no_name, is_name_of}
use Rattle.net_names.specs.Scopes.{state_words}
use Rattle.net_names.proofs.IfOk.{IfOk_same}
use Rattle.rule_judge.proofs.FoundInParts.{three_found}
use Rattle.rule_judge.proofs.ports.OnceCheckRawMachine.check.Goals as goal

pub returns : goal.returns
returns c =
    let m = c.args.machine.now in
    three_found c.args.found c.in_ok-found.found c.in_ok-found-2.found c.repeated.result
    (repeated no_name m.inputs) (repeated no_name m.outputs)
    (repeated (is_name_of (m.inputs ++ m.outputs)) (state_words m))
    c.in_ok-found.ensures c.in_ok-found-2.ensures
    (IfOk_same c.repeated.result _ _ (λ i.
    sooner c.in_ok-found-2.found
    (least_place (repeated (is_name_of (c.in_ok-taken.ensures i)) (c.in_ok-states.ensures i))))
    c.repeated.ensures)
