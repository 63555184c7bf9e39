use Rattle.std.proofs.Common.{◌∙◌, sym, arith}
use Rattle.net_rules.proofs.ValueIn.{value_below}
use Rattle.net_rules.proofs.codes.value_or_zero.Goals as goal

pub returns-in-Some-clause-small : goal.returns-in-Some-clause-small
returns-in-Some-clause-small c =
    omega (
      arith,
      value_below c.args.shape.now c.args.value.now c.in-Some.number
          (sym c.value_in.ensures ∙ c.in-Some.is),
      c.requires,
    )
