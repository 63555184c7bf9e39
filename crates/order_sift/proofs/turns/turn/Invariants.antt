use Rattle.std.proofs.Common.{◌≡◌, ◌-◌, ◌<◌, length}
use Rattle.order_sift.specs.inner.Settings.{IsAt}
use Rattle.order_sift.specs.inner.Turns.{ComesTo}
use Rattle.domains.specs.Tables.{product}
use Rattle.order_sift.specs.inner.Pairs.{HasRoom}
use Rattle.order_sift.proofs.turns.turn.Given as goal

abbrev pub invariant-loop-k : goal.invariant-loop-k
invariant-loop-k l = record {
  room : HasRoom (product l.sifting.machine.now.vars) l.seen;
  at : IsAt l.sifting.machine.now l.known l.at.order l.at.count l.at.chain;
  count : l.at.count ≡ l.fn.at.count;
  long : length l.at.order ≡ l.items;
  within : l.item < l.items;
  comes : ComesTo l.sifting.machine.now l.fn.at.order l.fn.first (length l.fn.at.order) l.at.order
      l.item (l.items - l._k);
}
