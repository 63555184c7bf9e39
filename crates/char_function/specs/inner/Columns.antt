-- Columns of codes, one for each list of codes of some variables.
use Rattle.std.specs.Prelude.{ℕ, zero, suc, ◌+◌, ◌-◌, ◌*◌, ◌/◌, Bool, false, not, List, [], ◌∷◌, length, take, slice_range}
use Rattle.std.specs.List.{list_any}
use Rattle.polis_base.specs.Lists.{upto}
use Rattle.domains.specs.Names.{is_same}

-- one of so many parts of a list
abbrev pub part : ℕ → List ℕ → ℕ → List ℕ
part size column code =
    slice_range column (code * (length column / size))
    (code * (length column / size) + length column / size)

-- In a column over these variables some two neighbours differ, whose codes of this variable follow
-- each other and whose other codes are the same.
abbrev pub varies : List ℕ → ℕ → List ℕ → Bool
varies [] v column = false
varies (size ∷ sizes) zero column =
    not (is_same (take (length column - length column / size) column)
    (slice_range column (length column / size) (length column)))
varies (size ∷ sizes) (suc v) column =
    list_any (λ code. varies sizes v (part size column code)) (upto size)
