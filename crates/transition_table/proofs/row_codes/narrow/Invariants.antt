use Rattle.std.proofs.Common.{◌≡◌, ◌<◌, ◌&&◌, ◌==◌, ℕ, length, slice_index, drop}
use Rattle.std.specs.List.{list_all}
use Rattle.std.specs.Int.{bit_at}
use Rattle.transition_table.specs.RowCodes.{allows_code}
use Rattle.transition_table.proofs.row_codes.narrow.Given as goal

-- what the conditions from this one on leave of what is left is what all leave of the sets
abbrev pub invariant-loop-cond : goal.invariant-loop-cond
invariant-loop-cond l = record {
  long : length l.sets ≡ length l.fn.sets;
  left : (var code : ℕ) → var < length l.fn.sets
      → (bit_at (slice_index l.sets var) code == 1
      && list_all (allows_code var code) (drop l.cond-index l.conds))
      ≡ (bit_at (slice_index l.fn.sets var) code == 1 && list_all (allows_code var code) l.conds);
}
