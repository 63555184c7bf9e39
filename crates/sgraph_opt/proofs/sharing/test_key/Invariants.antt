use Rattle.std.proofs.Common.{◌≡◌, ◌∷◌, map, take, slice_index}
use Rattle.sgraph_opt.proofs.sharing.test_key.Given as goal

abbrev pub invariant-loop-i : goal.invariant-loop-i
invariant-loop-i l = l.key.items ≡ 1 ∷ l.var ∷ map (slice_index l.reps) (take l.i l.kids)
