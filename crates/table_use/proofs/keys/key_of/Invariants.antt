use Rattle.std.proofs.Common.{◌≡◌, take}
use Rattle.table_use.proofs.keys.key_of.Given as goal

-- the codes before this one
abbrev pub invariant-loop-code : goal.invariant-loop-code
invariant-loop-code l = l.key.items ≡ take l.code-index l.codes
