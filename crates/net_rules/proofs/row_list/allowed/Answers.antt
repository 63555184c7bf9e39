use Rattle.std.proofs.Common.{◌∙◌, ap, sym}
use Rattle.net_rules.specs.Networks.{allows}
use Rattle.net_rules.proofs.AllowedCodes.{only_zero, all_but_zero}
use Rattle.net_rules.proofs.row_list.allowed.Goals as goal

pub returns-in-Present : goal.returns-in-Present
returns-in-Present c = λ k h. c.without.ensures k
    ∙ all_but_zero c.first.result k h c.first.ensures
    ∙ ap (λ q. allows c.args.names.now.scope.now.raw.now c.args.names.now.machine.now q k)
    (sym c.in-Present.is)

pub returns-in-Absent : goal.returns-in-Absent
returns-in-Absent c = λ k h. c.with.ensures k
    ∙ only_zero c.empty.result k c.empty.ensures
    ∙ ap (λ q. allows c.args.names.now.scope.now.raw.now c.args.names.now.machine.now q k)
    (sym c.in-Absent.is)
