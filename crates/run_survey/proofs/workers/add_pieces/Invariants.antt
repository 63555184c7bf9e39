use Rattle.std.proofs.Common.{◌≡◌, ℕ, ◌+◌, All, length}
use Rattle.std.specs.Vec.Iter.{into_iter_items, into_iter_len}
use Rattle.run_survey.specs.inner.Workers.{ComesTo, Knows, Task}
use Rattle.run_survey.proofs.workers.add_pieces.Given as goal

-- the pieces before this one are joined
abbrev pub invariant-loop-piece : goal.invariant-loop-piece
invariant-loop-piece l = record {
  comes : (task : Task) (runs : ℕ)
      → ComesTo task runs l.fn.so_far (into_iter_items l.initial.piece-iterator)
      → ComesTo task runs l.so_far (into_iter_items l.piece-iterator);
  knows : (task : Task) (runs : ℕ)
      → ComesTo task runs l.fn.so_far (into_iter_items l.initial.piece-iterator)
      → All (Knows task.net task.tables) l.fn.memos.items
      → All (Knows task.net task.tables) l.memos.items;
  count : into_iter_len l.piece-iterator ≡ length (into_iter_items l.piece-iterator);
  many : length l.memos.items + length (into_iter_items l.piece-iterator)
      ≡ length l.fn.memos.items + length (into_iter_items l.initial.piece-iterator);
}
