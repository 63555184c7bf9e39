use Rattle.std.proofs.Common.{ℕ, List, Bool, [], ◌∷◌, ◌++◌, false, length, replicate, None, ap, subst, sym, ◌∙◌}
use Rattle.transition_table.specs.declared.network.Network.{Network}
use Rattle.scheduler_gen.specs.Plans.{IsPlanOf}
use Rattle.run_shuffle.specs.inner.Blocks.{settles}
use Rattle.run_shuffle.specs.inner.Ways.{AreWays, blocks_table}
use Rattle.run_shuffle.proofs.FirstWays.{first_ways}
use Rattle.run_shuffle.proofs.ways.Ways.start.Goals as goal

pub returns : goal.returns
returns c =
    let now = c.args.config.now in
    subst (λ (n : ℕ). AreWays now (record {
      plan = c.in_ok-plan.plan;
      sends = c.in_ok-sends.sends;
      owed = 0;
      env = c.owed_by_env.result;
      woken = n;
      blocks = c.in_ok-blocks.blocks;
      begun = c.push.new.self;
      of_block = n;
      block = None;
    })) (sym c.empty-none.ensures)
    (first_ways now c.in_ok-plan.plan c.in_ok-sends.sends c.owed_by_env.result
    c.in_ok-blocks.blocks c.push.new.self c.requires
    (subst (λ (net : Network). IsPlanOf net c.in_ok-plan.plan) c.network-net.ensures
    c.in_ok-plan.ensures)
    (c.in_ok-sends.ensures
    ∙ ap (λ (n : ℕ). replicate c.len.result n) c.empty-none.ensures
    ∙ ap (λ (k : ℕ). replicate {A = ℕ} k 0)
    (c.len.ensures ∙ ap (λ (net : Network). length net.machines) c.network-net.ensures))
    c.owed_by_env.ensures
    (c.in_ok-blocks.ensures.blocks ∙ ap blocks_table c.trace.ensures.trace)
    (c.in_ok-push.ensures.ok
    ∙ ap (λ (l : List Bool). l ++ false ∷ [])
    (c.in_ok-begun.ensures
    ∙ ap (λ (k : ℕ). replicate k false)
    (c.in_ok-blocks.ensures.all ∙ ap settles c.trace.ensures.trace))))
