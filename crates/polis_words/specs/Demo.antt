-- The command line `demo SEED`.
use Rattle.std.specs.Prelude.{◌≡◌, ℕ, ◌<◌, ◌^◌, List, [], ◌∷◌, codes, decimal}

-- what a demo is asked for: the seed from which its network and its trace are drawn
pub record DemoWords : Type 0 where
  pub seed : ℕ

-- the command line asks for this demo: the seed stands in decimal, and is below 2^64
pub record AsksDemo (words : List (List ℕ)) (demo : DemoWords) : Type 0 where
  pub form : words ≡ codes "demo" ∷ decimal demo.seed ∷ []
  pub seed : demo.seed < 2 ^ 64
