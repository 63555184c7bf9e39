use Rattle.std.proofs.Common.{◌<◌, length}
use Rattle.order_sift.specs.inner.Settings.{IsAt}
use Rattle.order_sift.specs.inner.Turns.{ComesTo}
use Rattle.domains.specs.Tables.{product}
use Rattle.order_sift.specs.inner.Pairs.{HasRoom}
use Rattle.order_sift.proofs.turns.sift_items.Given as goal

abbrev pub invariant-loop-first : goal.invariant-loop-first
invariant-loop-first l = record {
  room : HasRoom (product l.sifting.machine.now.vars) l.seen;
  at : IsAt l.sifting.machine.now l.known l.at.order l.at.count l.at.chain;
  next : l.first < length l.at.order;
  comes : ComesTo l.sifting.machine.now l.fn.at.order 0 (length l.fn.at.order) l.at.order l.first
      (length l.at.order);
}

abbrev pub decreases-loop-first : goal.decreases-loop-first
decreases-loop-first l = l.at.count
