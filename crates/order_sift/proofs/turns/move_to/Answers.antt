use Rattle.std.proofs.Common.{◌∙◌, ap, sym, subst}
use Rattle.transition_table.specs.Orders.{Allowed}
use Rattle.char_function.specs.Sizes.{Size}
use Rattle.order_sift.proofs.turns.move_to.Goals as goal

pub moved-requires-clause-i : goal.moved-requires-clause-i
moved-requires-clause-i c = c.requires.i

pub moved-requires-clause-j : goal.moved-requires-clause-j
moved-requires-clause-j c = c.requires.j

pub chain_of-requires-clause-few : goal.chain_of-requires-clause-few
chain_of-requires-clause-few c = c.requires.sifting.few

pub chain_of-requires-clause-prepared : goal.chain_of-requires-clause-prepared
chain_of-requires-clause-prepared c = c.requires.sifting.prepared

pub chain_of-requires-clause-room : goal.chain_of-requires-clause-room
chain_of-requires-clause-room c = c.requires.sets.room

pub chain_of-requires-clause-known : goal.chain_of-requires-clause-known
chain_of-requires-clause-known c = c.requires.sets.known

pub chain_of-requires-clause-sure : goal.chain_of-requires-clause-sure
chain_of-requires-clause-sure c = c.requires.sifting.sure

pub chain_of-requires-clause-allowed : goal.chain_of-requires-clause-allowed
chain_of-requires-clause-allowed c =
    subst (Allowed c.args.sifting.now.machine.now) (sym c.in_ok-order.ensures)
    c.requires.counted.allowed

pub returns-clause-at : goal.returns-clause-at
returns-clause-at c =
    let m = c.args.sifting.now.machine.now in
    let is = sym c.in_ok-order.ensures in
    record {
      known = c.in_ok-chain.ensures.known;
      counted = record {
        allowed = subst (Allowed m) is c.requires.counted.allowed;
        counted = c.requires.counted.counted ∙ ap (Size m) is;
      };
      chain = c.in_ok-chain.ensures.chain;
    }

pub returns-clause-order : goal.returns-clause-order
returns-clause-order c = c.in_ok-order.ensures
