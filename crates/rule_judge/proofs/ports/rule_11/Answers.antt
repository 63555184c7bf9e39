use Rattle.net_names.specs.Places.{least_place}
use Rattle.net_names.specs.Numbers.{repeated, is_name_of}
use Rattle.net_names.proofs.IfOk.{IfOk_same}
use Rattle.rule_judge.proofs.ports.rule_11.Goals as goal

pub returns : goal.returns
returns c = IfOk_same c.repeated.result _ _
    (λ i. least_place (repeated (is_name_of (c.in_ok-taken.ensures i)) (c.in_ok-words.ensures i)))
    c.repeated.ensures
