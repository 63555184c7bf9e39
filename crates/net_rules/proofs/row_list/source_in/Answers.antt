use Rattle.std.proofs.Common.{◌++◌, arith}
use Rattle.std.proofs.lemmas.List.{length-append, length-map}
use Rattle.net_reader.specs.declared.raw.RawState.{RawState}
use Rattle.net_names.specs.Scopes.{state_words}
use Rattle.net_rules.proofs.AllowedCodes.{number_most}
use Rattle.net_rules.proofs.MachineFacts.{few_inputs, few_states}
use Rattle.net_rules.proofs.row_list.source_in.Goals as goal

pub overflow_cast-result-in-Input : goal.overflow_cast-result-in-Input
overflow_cast-result-in-Input c =
    let raw = c.args.names.now.scope.now.raw.now in
    let m = c.args.names.now.machine.now in
    omega (
      arith,
      c.variable_number.ensures,
      number_most (m.inputs ++ state_words m) c.in-Input.word.name,
      length-append m.inputs (state_words m),
      length-map m.states (λ (s : RawState). s.name),
      few_inputs raw m c.requires.sound c.requires.kept,
      few_states raw m c.requires.sound c.requires.kept,
    )
