use Rattle.std.proofs.Common.{◌≡◌, map, take, slice_index}
use Rattle.char_function.proofs.column.codes_of.Given as goal

abbrev pub invariant-loop-k : goal.invariant-loop-k
invariant-loop-k l =
    l.codes ≡ map (λ outcome. slice_index outcome l.y) (take l.k l.table.outcomes)
