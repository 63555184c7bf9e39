use Rattle.std.proofs.Common.{arith}
use Rattle.net_rules.proofs.Counts.{under_cap, event_few}
use Rattle.net_rules.proofs.sizes.event_size.Goals as goal

pub overflow_cast-result : goal.overflow_cast-result
overflow_cast-result c =
    omega (
      arith,
      under_cap c.event_codes.result _ c.event_codes.ensures
          (event_few c.args.scope.now.raw.now c.requires c.args.word.now),
      event_few c.args.scope.now.raw.now c.requires c.args.word.now,
    )

pub returns-clause-codes : goal.returns-clause-codes
returns-clause-codes c =
    under_cap c.event_codes.result _ c.event_codes.ensures
    (event_few c.args.scope.now.raw.now c.requires c.args.word.now)

pub returns-clause-few : goal.returns-clause-few
returns-clause-few c =
    omega (
      arith,
      under_cap c.event_codes.result _ c.event_codes.ensures
          (event_few c.args.scope.now.raw.now c.requires c.args.word.now),
      event_few c.args.scope.now.raw.now c.requires c.args.word.now,
    )
