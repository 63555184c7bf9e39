use Rattle.std.proofs.Common.{◌≡◌, ◌++◌, drop}
use Rattle.machine_compiler.specs.Parts.{codes_in, parts_of}
use Rattle.machine_compiler.proofs.compiled.codes_of.Given as goal

-- the codes so far, with those that are left, are all
abbrev pub invariant-loop-k : goal.invariant-loop-k
invariant-loop-k l = l.codes ++ codes_in (parts_of (drop l.k l.compiled))
    ≡ codes_in (parts_of l.compiled)
