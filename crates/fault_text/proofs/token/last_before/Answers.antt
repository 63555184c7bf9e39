use Rattle.fault_text.proofs.LastBefore.{begin_walk, walk_on, walk_stops}
use Rattle.fault_text.proofs.token.last_before.Goals as goal

pub loop-token-init : goal.loop-token-init
loop-token-init c = begin_walk c.args.text.now c.args.place c.requires

pub returns-then-token-place-clause-last : goal.returns-then-token-place-clause-last
returns-then-token-place-clause-last c =
    walk_stops c.args.text.now c.args.place c.loop-token.from c.loop-token.last c.in-Some.token
    c.loop-token.invariant c.in-Some.ensures.some c.if-token-place.true

pub loop-token-preserved : goal.loop-token-preserved
loop-token-preserved c =
    walk_on c.args.text.now c.args.place c.loop-token.from c.loop-token.last c.in-Some.token
    c.loop-token.invariant c.in-Some.ensures.some c.if-token-place.false
