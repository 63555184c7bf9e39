-- How the numbers of later runs are added.
use Rattle.std.specs.Prelude.{◌≡◌, ℕ, ◌+◌, ◌<◌, ◌^◌, cond, nat_lt, min, List, [], ◌∷◌, map, length, slice_get, Some}
use Rattle.run_survey.specs.declared.told.Spread.{Spread}
use Rattle.run_survey.specs.Spreads.{spread_of}

-- these numbers of one run, of this seed
abbrev pub singles : ℕ → List ℕ → List Spread
singles seed numbers = map (λ (n : ℕ). spread_of seed (n ∷ [])) numbers

-- over the runs of the one and then those of the other
abbrev pub joined : Spread → Spread → Spread
joined one next =
    record {
      least = min one.least next.least;
      most = cond (nat_lt one.most next.most) next.most one.most;
      seed = cond (nat_lt one.most next.most) next.seed one.seed;
      runs = one.runs + next.runs;
    }

-- so at each place
pub record AreJoined (one next new : List Spread) : Type 0 where
  pub long : length new ≡ length one
  pub each : (k : ℕ) (s t : Spread) → slice_get one k ≡ Some s → slice_get next k ≡ Some t
      → slice_get new k ≡ Some (joined s t)

-- the sums of how many runs have one above 0 are numbers of 64 bits
abbrev pub HaveRoom : List Spread → List Spread → Type 0
HaveRoom one next =
    (k : ℕ) (s t : Spread) → slice_get one k ≡ Some s → slice_get next k ≡ Some t
    → s.runs + t.runs < 2 ^ 64
