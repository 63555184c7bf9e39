use Rattle.std.proofs.Common.{◌≡◌}
use Rattle.machine_compiler.specs.Parts.{codes_in}
use Rattle.machine_compiler.proofs.PartsSoFar.{PartsSoFar}
use Rattle.machine_compiler.proofs.kept.compile_codes.Given as goal

abbrev pub invariant-loop-k : goal.invariant-loop-k
invariant-loop-k l = PartsSoFar l.net l.k (λ parts. l.codes ≡ codes_in parts)
