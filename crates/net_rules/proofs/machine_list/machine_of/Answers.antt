use Rattle.std.proofs.Common.{◌∙◌, ap, refl, map}
use Rattle.std.specs.List.{list_all}
use Rattle.transition_table.specs.MachineFacts.{are_vars, are_results, is_row, is_small}
use Rattle.net_rules.specs.Networks.{state_of}
use Rattle.net_rules.proofs.AllowedCodes.{declared_each}
use Rattle.net_rules.proofs.IsSoundMachine.{small_kept}
use Rattle.net_rules.proofs.MachineFacts.{vars_fit, results_fit, rows_fit}
use Rattle.net_rules.proofs.NetworkFacts.{domain_count, event_count}
use Rattle.net_rules.proofs.machine_list.machine_of.Goals as goal

pub ports_of-requires : goal.ports_of-requires
ports_of-requires c = event_count c.args.names.now.scope.now.raw.now c.requires.sound

pub states_of-requires-clause-domains : goal.states_of-requires-clause-domains
states_of-requires-clause-domains c =
    domain_count c.args.names.now.scope.now.raw.now c.requires.sound

pub sizes_of-requires-clause-declared : goal.sizes_of-requires-clause-declared
sizes_of-requires-clause-declared c =
    declared_each c.args.names.now.scope.now.raw.now c.args.names.now.machine.now.states
    c.requires.machine.domains

pub invariant_of-result : goal.invariant_of-result
invariant_of-result c =
    let raw = c.args.names.now.scope.now.raw.now in
    let m = c.args.names.now.machine.now in
    let sound = c.requires.sound in
    let kept = c.requires.machine in
    let made = c.in_ok-rows.rows in
    let rows = c.in_ok-rows.ensures in
    let ins = c.in_ok-inputs.ensures.inputs in
    let outs = c.in_ok-inputs.ensures.outputs in
    let states = c.in_ok-states.ensures ∙ ap (map (state_of raw)) c.as_slice.ensures in
    let vars = c.in_ok-vars.ensures.vars in
    let results = c.in_ok-vars.ensures.results in
    record {
      sized_vars = (λ i. are_vars (ins i) (states i) (vars i)) ∙ vars_fit raw m sound kept;
      sized_results = (λ i. are_results (ins i) (outs i) (states i) (vars i) (results i))
          ∙ results_fit raw m sound kept;
      fitting_rows = (λ i. list_all (is_row (ins i) (vars i) (results i)) made)
          ∙ rows_fit raw m sound kept m.rows made rows kept.rows;
      small = (λ i. is_small (ins i) (outs i) (states i) (vars i) made)
          ∙ small_kept raw m sound kept made rows;
    }

pub returns : goal.returns
returns c =
    record {
      name = refl;
      priority = refl;
      inputs = c.in_ok-inputs.ensures.inputs;
      outputs = c.in_ok-inputs.ensures.outputs;
      states = c.in_ok-states.ensures
          ∙ ap (map (state_of c.args.names.now.scope.now.raw.now)) c.as_slice.ensures;
      vars = c.in_ok-vars.ensures.vars;
      results = c.in_ok-vars.ensures.results;
      rows = c.in_ok-rows.ensures;
    }
