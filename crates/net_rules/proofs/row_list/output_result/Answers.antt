use Rattle.std.proofs.Common.{arith}
use Rattle.net_rules.proofs.AllowedCodes.{number_most}
use Rattle.net_rules.proofs.MachineFacts.{few_outputs, few_states}
use Rattle.net_rules.proofs.row_list.output_result.Goals as goal

pub overflow_add-result-2 : goal.overflow_add-result-2
overflow_add-result-2 c =
    let raw = c.args.names.now.scope.now.raw.now in
    let m = c.args.names.now.machine.now in
    omega (
      arith,
      c.len.ensures,
      c.output_number.ensures,
      number_most m.outputs c.args.name,
      few_outputs raw m c.requires.sound c.requires.kept,
      few_states raw m c.requires.sound c.requires.kept,
    )

pub overflow_cast-result : goal.overflow_cast-result
overflow_cast-result c =
    let raw = c.args.names.now.scope.now.raw.now in
    let m = c.args.names.now.machine.now in
    omega (
      arith,
      c.len.ensures,
      c.output_number.ensures,
      number_most m.outputs c.args.name,
      few_outputs raw m c.requires.sound c.requires.kept,
      few_states raw m c.requires.sound c.requires.kept,
    )
