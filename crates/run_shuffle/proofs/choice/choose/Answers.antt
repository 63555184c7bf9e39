use Rattle.std.proofs.Common.{◌≤◌, ℕ, List, sym, subst, ◌∙◌, arith}
use Rattle.std.proofs.lemmas.Nat.{mul-le}
use Rattle.transition_table.specs.declared.decl.Party.TheVariants.{Env}
use Rattle.journals.specs.declared.entry.Pick.{Pick}
use Rattle.run_shuffle.specs.Moves.{next_delivery}
use Rattle.run_shuffle.specs.Orders.{env_offered, network_offered}
use Rattle.run_shuffle.proofs.ChosenMoves.{chosen_of_env, chosen_of_network, drawn_by_counts}
use Rattle.run_shuffle.proofs.Few.{network_offered_few}
use Rattle.run_shuffle.proofs.GivenMoves.{gives_many}
use Rattle.run_shuffle.proofs.choice.choose.Goals as goal

pub overflow_mul-rule : goal.overflow_mul-rule
overflow_mul-rule c =
    let now = c.args.config.now in
    let few =
    network_offered_few now.net now.trace now.journal c.args.rule.order now.net.few_machines in
    let many : c.args.network ≤ 4160 = subst (λ (k : ℕ). k ≤ 4160) (sym c.requires.network) few in
    let product = mul-le c.args.rule.pace c.args.network 16 4160 c.requires.pace_small many in
    omega (arith, product)

pub overflow_add-env : goal.overflow_add-env
overflow_add-env c =
    let now = c.args.config.now in
    let few =
    network_offered_few now.net now.trace now.journal c.args.rule.order now.net.few_machines in
    let many : c.args.network ≤ 4160 = subst (λ (k : ℕ). k ≤ 4160) (sym c.requires.network) few in
    let product = mul-le c.args.rule.pace c.args.network 16 4160 c.requires.pace_small many in
    let own = c.len-env.ensures.few in
    omega (arith, product, own)

pub returns-then-r-env-clause-chosen : goal.returns-then-r-env-clause-chosen
returns-then-r-env-clause-chosen c =
    let now = c.args.config.now in
    let env : List Pick = env_offered c.args.rule.order now.net now.trace now.journal in
    let network : List Pick = network_offered c.args.rule.order now.net now.trace now.journal in
    let own =
    c.len-env.ensures.members
    ∙ gives_many now.net (next_delivery now.net now.trace now.journal Env) c.args.receivers env
    c.requires.gives in
    (drawn_by_counts env network c.args.rule.pace c.args.draws.now.x c.draw-r.result
    c.len-env.result c.args.network c.env_chance.result c.requires.pace own c.requires.network
    c.draw-r.ensures.answer c.draw-r.ensures.below
    (c.env_chance.ensures
    ∙ chosen_of_env env network c.args.rule.pace c.draw-r.result c.len-env.result own
    c.if-r-env.true)).0

pub returns-then-r-env-clause-member : goal.returns-then-r-env-clause-member
returns-then-r-env-clause-member c =
    let now = c.args.config.now in
    let env : List Pick = env_offered c.args.rule.order now.net now.trace now.journal in
    let network : List Pick = network_offered c.args.rule.order now.net now.trace now.journal in
    let own =
    c.len-env.ensures.members
    ∙ gives_many now.net (next_delivery now.net now.trace now.journal Env) c.args.receivers env
    c.requires.gives in
    (drawn_by_counts env network c.args.rule.pace c.args.draws.now.x c.draw-r.result
    c.len-env.result c.args.network c.env_chance.result c.requires.pace own c.requires.network
    c.draw-r.ensures.answer c.draw-r.ensures.below
    (c.env_chance.ensures
    ∙ chosen_of_env env network c.args.rule.pace c.draw-r.result c.len-env.result own
    c.if-r-env.true)).1

pub returns-clause-chosen : goal.returns-clause-chosen
returns-clause-chosen c =
    let now = c.args.config.now in
    let env : List Pick = env_offered c.args.rule.order now.net now.trace now.journal in
    let network : List Pick = network_offered c.args.rule.order now.net now.trace now.journal in
    let own =
    c.len-env.ensures.members
    ∙ gives_many now.net (next_delivery now.net now.trace now.journal Env) c.args.receivers env
    c.requires.gives in
    (drawn_by_counts env network c.args.rule.pace c.args.draws.now.x c.draw-r.result
    c.len-env.result c.args.network c.network_chance.result c.requires.pace own c.requires.network
    c.draw-r.ensures.answer c.draw-r.ensures.below
    (c.network_chance.ensures
    ∙ chosen_of_network env network c.args.rule.pace c.draw-r.result c.len-env.result own
    c.if-r-env.false)).0

pub returns-clause-member : goal.returns-clause-member
returns-clause-member c =
    let now = c.args.config.now in
    let env : List Pick = env_offered c.args.rule.order now.net now.trace now.journal in
    let network : List Pick = network_offered c.args.rule.order now.net now.trace now.journal in
    let own =
    c.len-env.ensures.members
    ∙ gives_many now.net (next_delivery now.net now.trace now.journal Env) c.args.receivers env
    c.requires.gives in
    (drawn_by_counts env network c.args.rule.pace c.args.draws.now.x c.draw-r.result
    c.len-env.result c.args.network c.network_chance.result c.requires.pace own c.requires.network
    c.draw-r.ensures.answer c.draw-r.ensures.below
    (c.network_chance.ensures
    ∙ chosen_of_network env network c.args.rule.pace c.draw-r.result c.len-env.result own
    c.if-r-env.false)).1
