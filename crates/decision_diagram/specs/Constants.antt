-- The nodes that are the same on all codes.
use Rattle.std.specs.Prelude.{ℕ, Bool, true, false}

abbrev pub constant_node : Bool → ℕ
constant_node false = 0
constant_node true = 1
