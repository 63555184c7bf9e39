use Rattle.std.proofs.Common.{◌≡◌, ◌≢◌, ◌<◌, ℕ, List, slice_index}
use Rattle.determinism.specs.inner.Boxes.{IsIn}
use Rattle.determinism.specs.inner.Pairs.{Differ}
use Rattle.determinism.proofs.difference.first_code.Given as goal

-- at no code before this one does the result differ
abbrev pub invariant-loop-code : goal.invariant-loop-code
invariant-loop-code l = record {
  inside : IsIn l.pair.sets.now l.s.codes;
  same : (k : ℕ) → k ≢ l.v → slice_index l.s.codes k ≡ slice_index l.fn.s.codes k;
  none : (t : List ℕ) → IsIn l.pair.sets.now t
      → (l.u ≢ l.v → slice_index t l.u ≡ slice_index l.fn.s.codes l.u) → slice_index t l.v < l.code
      → ¬ Differ l.pair l.y t;
}
