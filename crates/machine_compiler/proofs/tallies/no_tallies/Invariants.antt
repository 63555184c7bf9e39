use Rattle.std.proofs.Common.{◌≡◌, length}
use Rattle.machine_compiler.proofs.RightParts.{Paired, IsNoTally}
use Rattle.machine_compiler.proofs.tallies.no_tallies.Given as goal

abbrev pub invariant-loop-k : goal.invariant-loop-k
invariant-loop-k l =
    record {
      none : Paired IsNoTally l.net.machines l.tallies.items;
      long : length l.tallies.items ≡ l.k;
    }
