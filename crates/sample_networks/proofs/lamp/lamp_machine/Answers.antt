use Rattle.std.proofs.Common.{rules, ◌∙◌}
use Rattle.transition_table.specs.samples.Lamp.{lamp_machine as the_machine}
use Rattle.sample_networks.proofs.SameRows.{same_rows}
use Rattle.sample_networks.proofs.lamp.lamp_machine.Goals as goal

pub returns : goal.returns
returns c =
    let made = c.in_ok-made in
    c.laws_of_data.ensures.same_machine made.made the_machine
    (record {
      name = made.ensures.name;
      priority = made.ensures.priority;
      inputs = made.ensures.inputs;
      outputs = made.ensures.outputs;
      states = made.ensures.states ∙ search rules;
      vars = made.ensures.vars;
      results = made.ensures.results;
      rows = made.ensures.rows ∙ same_rows _ _ (search rules) (search rules);
    })
