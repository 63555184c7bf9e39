use Rattle.std.proofs.Common.{◌≡◌, ℕ, [], ◌∷◌, map, take}
use Rattle.run_survey.specs.Spreads.{spread_of}
use Rattle.run_survey.proofs.spread.spreads_of_one.Given as goal

-- those of the numbers before this one
abbrev pub invariant-loop-number : goal.invariant-loop-number
invariant-loop-number l =
    l.spreads ≡ map (λ (n : ℕ). spread_of l.seed (n ∷ [])) (take l.number-index l.numbers)
