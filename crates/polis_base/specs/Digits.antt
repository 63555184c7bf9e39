-- Decimal digits.
use Rattle.std.specs.Prelude.{ℕ, ◌+◌, ◌-◌, ◌*◌, Bool, false, not, ◌&&◌, ◌||◌, ◌==◌, nat_le, List, [], ◌∷◌, length, fold}
use Rattle.std.specs.List.{list_all}

-- a byte `0` to `9`
abbrev pub is_digit : ℕ → Bool
is_digit c = nat_le 48 c && nat_le c 57

-- the number that decimal digits write
abbrev pub number_of : List ℕ → ℕ
number_of digits = fold (λ n c. n * 10 + (c - 48)) 0 digits

-- digits with no zero at the start, or `0` alone
abbrev pub is_plain : List ℕ → Bool
is_plain [] = false
is_plain (c ∷ cs) = list_all is_digit (c ∷ cs) && (not (c == 48) || length cs == 0)
