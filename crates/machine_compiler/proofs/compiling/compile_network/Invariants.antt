use Rattle.std.proofs.Common.{◌≡◌, length}
use Rattle.machine_compiler.proofs.RightParts.{RightSoFar}
use Rattle.machine_compiler.proofs.compiling.compile_network.Given as goal

abbrev pub invariant-loop-k : goal.invariant-loop-k
invariant-loop-k l =
    record { right : RightSoFar l.net.machines l.compiled; long : length l.compiled ≡ l.k }
