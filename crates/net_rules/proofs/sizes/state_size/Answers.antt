use Rattle.std.proofs.Common.{arith}
use Rattle.net_rules.proofs.Counts.{under_cap, state_in, state_few}
use Rattle.net_rules.proofs.sizes.state_size.Goals as goal

pub overflow_cast-result : goal.overflow_cast-result
overflow_cast-result c =
    omega (
      arith,
      under_cap c.count_at.result _ c.count_at.ensures
          (state_few c.args.scope.now.raw.now c.args.state.now.domain c.requires.sound
          c.requires.declared),
      (state_in c.args.scope.now.raw.now c.args.state.now.domain c.requires.sound
          c.requires.declared).1,
    )

pub returns-clause-codes : goal.returns-clause-codes
returns-clause-codes c =
    under_cap c.count_at.result _ c.count_at.ensures
    (state_few c.args.scope.now.raw.now c.args.state.now.domain c.requires.sound
    c.requires.declared)

pub returns-clause-some : goal.returns-clause-some
returns-clause-some c =
    omega (
      arith,
      under_cap c.count_at.result _ c.count_at.ensures
          (state_few c.args.scope.now.raw.now c.args.state.now.domain c.requires.sound
          c.requires.declared),
      (state_in c.args.scope.now.raw.now c.args.state.now.domain c.requires.sound
          c.requires.declared).0,
    )

pub returns-clause-few : goal.returns-clause-few
returns-clause-few c =
    omega (
      arith,
      under_cap c.count_at.result _ c.count_at.ensures
          (state_few c.args.scope.now.raw.now c.args.state.now.domain c.requires.sound
          c.requires.declared),
      (state_in c.args.scope.now.raw.now c.args.state.now.domain c.requires.sound
          c.requires.declared).1,
    )
