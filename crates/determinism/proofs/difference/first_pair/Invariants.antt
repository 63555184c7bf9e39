use Rattle.std.proofs.Common.{◌<◌, ℕ, List, slice_index}
use Rattle.determinism.specs.inner.Boxes.{IsIn, SameBut}
use Rattle.determinism.specs.inner.Pairs.{Differ}
use Rattle.determinism.proofs.difference.first_pair.Given as goal

-- at no code before this one does the result differ
abbrev pub invariant-loop-code : goal.invariant-loop-code
invariant-loop-code l = record {
  inside : IsIn l.pair.sets.now l.s.codes;
  same : SameBut l.u l.v l.s.codes l.fn.s.codes;
  none : (t : List ℕ) → IsIn l.pair.sets.now t → slice_index t l.u < l.code
      → ¬ Differ l.pair l.y t;
}
