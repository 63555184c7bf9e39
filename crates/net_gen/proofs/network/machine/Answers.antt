use Rattle.std.proofs.Common.{◌≡◌, ℕ, rules, ap, ◌∙◌}
use Rattle.polis_base.specs.Draws.{after}
use Rattle.net_gen.specs.Networks.{num, rows, machine}
use Rattle.polis_base.proofs.DrawsAfter.{after_first, after_more}
use Rattle.net_gen.proofs.network.machine.Goals as goal

pub returns-clause-machine : goal.returns-clause-machine
returns-clause-machine c =
    let i = c.args.i in
    let j = c.args.j in
    let x = c.args.draws.now.x in
    let made = machine i j x in
    let priority : c.num-priority.result ≡ made.priority =
    c.num-priority.ensures ∙ ap num c.draw.ensures.answer in
    let inputs : c.in_ok-inputs.inputs ≡ made.inputs = search rules in
    let outputs : c.in_ok-outputs.outputs ≡ made.outputs = search rules in
    let states : c.in_ok-states.states ≡ made.states = search rules in
    let list : c.in_ok-rows.rows ≡ made.rows =
    c.in_ok-rows.ensures.rows ∙ ap (rows i j) (c.draw.ensures.moves ∙ after_first x) in
    λ k. record {
      name = c.machine.ensures k;
      priority = priority k;
      inputs = inputs k;
      outputs = outputs k;
      states = states k;
      rows = list k;
    }

pub returns-clause-moves : goal.returns-clause-moves
returns-clause-moves c =
    let x = c.args.draws.now.x in
    c.in_ok-rows.ensures.moves
    ∙ ap (λ (s : ℕ). after s 24) (c.draw.ensures.moves ∙ after_first x)
    ∙ after_more x 1 24
