use Rattle.std.proofs.Common.{◌≡◌, ◌*◌, ◌≤◌, map}
use Rattle.polis_base.specs.Lists.{upto}
use Rattle.task_code.specs.Codes.{start}
use Rattle.task_code.proofs.layout.starts.Given as goal

-- the places of the vertices so far, and that of the next one
abbrev pub invariant-loop-k : goal.invariant-loop-k
invariant-loop-k l =
    record {
      places : l.places ≡ map (start l.g) (upto l.k);
      next : l.next ≡ start l.g l.k;
      few : l.next ≤ 2 * l.k;
    }
