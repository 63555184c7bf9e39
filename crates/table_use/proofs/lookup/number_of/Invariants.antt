use Rattle.std.proofs.Common.{◌≡◌, drop}
use Rattle.domains.specs.Tables.{product, rank}
use Rattle.table_use.proofs.lookup.number_of.Given as goal

-- the number of the codes of the later variables, and how many lists of these there are
abbrev pub invariant-loop-v : goal.invariant-loop-v
invariant-loop-v l =
    (l.number ≡ rank (drop l.v l.vars) (drop l.v l.codes)) × (l.step ≡ product (drop l.v l.vars))
