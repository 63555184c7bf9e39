use Rattle.std.proofs.Common.{◌≡◌, ◌++◌, take}
use Rattle.char_function.proofs.root.all_sizes.Given as goal

abbrev pub invariant-loop-v : goal.invariant-loop-v
invariant-loop-v l = l.sizes ≡ take l.v l.m.vars

abbrev pub invariant-loop-y : goal.invariant-loop-y
invariant-loop-y l = l.sizes ≡ l.m.vars ++ take l.y l.m.results
