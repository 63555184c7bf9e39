-- Sizes that were worked out by hand.
use Rattle.std.specs.Prelude.{◌≡◌, ◌&&◌, [], ◌∷◌}
use Rattle.decision_diagram.specs.Samples.{is_odd, is_repeated, is_mirrored, lamp_row, join_row, four, rising}
use Rattle.decision_diagram.specs.Sizes.{size_along}

pub record KnownSizes : Type 0 where
  pub lamp : size_along lamp_row (2 ∷ 2 ∷ 2 ∷ 3 ∷ 2 ∷ []) (0 ∷ 1 ∷ 2 ∷ 3 ∷ 4 ∷ []) ≡ 8
  pub join : size_along join_row four rising ≡ 6
  -- one node for the first variable, two for each one after
  pub odd : size_along is_odd four rising ≡ 7
  pub odd_mixed : size_along is_odd four (2 ∷ 0 ∷ 3 ∷ 1 ∷ []) ≡ 7
  -- a tree of three for the first two codes, then four and two
  pub repeated : size_along is_repeated four rising ≡ 9
  pub mirrored : size_along is_mirrored four rising ≡ 9
  -- three for each pair of codes that stand together
  pub in_pairs : size_along is_repeated four (0 ∷ 2 ∷ 1 ∷ 3 ∷ []) ≡ 6
  -- all four codes are the same
  pub both : size_along (λ codes. is_repeated codes && is_mirrored codes) four rising ≡ 7
