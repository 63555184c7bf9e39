-- What an action gives its result on a snapshot. Nothing else knows the kinds of sources.
use Rattle.std.specs.Prelude.{ℕ, ◌+◌, ◌-◌, ◌%◌, List, length, slice_index}
use Rattle.transition_table.specs.declared.row.Source.{Source}
use Rattle.transition_table.specs.declared.row.Source.TheVariants.{Code, Input, Add}

-- the state variable of the result y: the results of state variables follow on `go`, the variables
-- on the inputs
abbrev pub variable_of : List ℕ → ℕ → ℕ
variable_of inputs y = length inputs + (y - 1)

-- the code that a source has for the result y, over the codes of a snapshot
abbrev pub code_of : List ℕ → List ℕ → List ℕ → ℕ → Source → ℕ
code_of inputs vars codes y (Code code) = code
code_of inputs vars codes y (Input v) = slice_index codes v
code_of inputs vars codes y (Add k) =
    1 + (slice_index codes (variable_of inputs y) + k) % slice_index vars (variable_of inputs y)
