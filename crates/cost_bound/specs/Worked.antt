-- What the definitions say of the lamp and of two joined events.
use Rattle.std.specs.Prelude.{[], ◌∷◌}
use Rattle.transition_table.specs.samples.Join.{join_machine}
use Rattle.transition_table.specs.samples.Lamp.{lamp_machine}
use Rattle.task_code.specs.Codes.{StepsOf}
use Rattle.task_code.specs.SampleCodes.{small_code}
use Rattle.cost_bound.specs.Bounds.{IsWorst, IsBest}
use Rattle.cost_bound.specs.Certificates.{Covers}
use Rattle.cost_bound.specs.Costs.{CostOf}
use Rattle.cost_bound.specs.SampleCosts.{join_code, one_each, tests_and_sets, bound_at}

-- where the lamp is pressed while off it takes 6 instructions, and 2 where it isn't pressed
pub record Lamp : Type 0 where
  pub steps : IsWorst lamp_machine (StepsOf small_code) (bound_at 6 (1 ∷ 0 ∷ []))
  pub most : IsWorst lamp_machine (CostOf one_each small_code) (bound_at 6 (1 ∷ 0 ∷ []))
  pub least : IsBest lamp_machine (CostOf one_each small_code) (bound_at 2 (0 ∷ 0 ∷ []))
  pub dear : IsWorst lamp_machine (CostOf tests_and_sets small_code) (bound_at 14 (1 ∷ 0 ∷ []))
  pub cheap : IsBest lamp_machine (CostOf tests_and_sets small_code) (bound_at 3 (0 ∷ 0 ∷ []))
  pub later : ¬ IsBest lamp_machine (CostOf one_each small_code) (bound_at 2 (0 ∷ 1 ∷ []))
  pub all_added : ¬ IsWorst lamp_machine (CostOf one_each small_code) (bound_at 7 (1 ∷ 0 ∷ []))

-- both events together take 5 instructions, and 2 where the first is absent
pub record Join : Type 0 where
  pub most : IsWorst join_machine (CostOf one_each join_code) (bound_at 5 (1 ∷ 1 ∷ []))
  pub least : IsBest join_machine (CostOf one_each join_code) (bound_at 2 (0 ∷ 0 ∷ []))

-- the least numbers that cover the lamp's code, and numbers of which the second is one too small
pub record Numbers : Type 0 where
  pub exact : Covers one_each small_code (6 ∷ 5 ∷ 4 ∷ 3 ∷ 2 ∷ 1 ∷ [])
  pub generous : Covers one_each small_code (9 ∷ 5 ∷ 4 ∷ 3 ∷ 2 ∷ 1 ∷ [])
  pub short : ¬ Covers one_each small_code (6 ∷ 4 ∷ 4 ∷ 3 ∷ 2 ∷ 1 ∷ [])
