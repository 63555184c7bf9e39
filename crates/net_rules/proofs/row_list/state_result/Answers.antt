use Rattle.std.proofs.Common.{arith}
use Rattle.net_rules.proofs.AllowedCodes.{states_most}
use Rattle.net_rules.proofs.MachineFacts.{few_states}
use Rattle.net_rules.proofs.row_list.state_result.Goals as goal

pub overflow_add-result : goal.overflow_add-result
overflow_add-result c =
    let raw = c.args.names.now.scope.now.raw.now in
    let m = c.args.names.now.machine.now in
    omega (
      arith,
      c.state_number.ensures,
      states_most m c.args.name,
      few_states raw m c.requires.sound c.requires.kept,
    )

pub overflow_cast-result : goal.overflow_cast-result
overflow_cast-result c =
    let raw = c.args.names.now.scope.now.raw.now in
    let m = c.args.names.now.machine.now in
    omega (
      arith,
      c.state_number.ensures,
      states_most m c.args.name,
      few_states raw m c.requires.sound c.requires.kept,
    )
