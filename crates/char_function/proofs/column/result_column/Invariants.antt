use Rattle.std.proofs.Common.{◌≡◌, [], map, take, length, get_or, slice_index}
use Rattle.char_function.proofs.column.result_column.Given as goal

-- those before this one
abbrev pub invariant-loop-i : goal.invariant-loop-i
invariant-loop-i l = record {
  long : length l.codes.items ≡ length l.numbers;
  codes : take l.i l.codes.items
      ≡ map (λ k. slice_index (get_or l.table.outcomes k []) l.y) (take l.i l.numbers);
}
