use Rattle.std.proofs.Common.{◌-◌, length}
use Rattle.fault_text.proofs.LastBefore.{Walked}
use Rattle.fault_text.proofs.token.last_before.Given as goal

abbrev pub invariant-loop-token : goal.invariant-loop-token
invariant-loop-token l = Walked l.text l.place l.from l.last

abbrev pub decreases-loop-token : goal.decreases-loop-token
decreases-loop-token l = length l.text - l.from
