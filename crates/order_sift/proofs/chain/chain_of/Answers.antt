use Rattle.std.proofs.Common.{◌≡◌, ℕ, length, arith, subst}
use Rattle.order_sift.specs.inner.Chains.{AreChain}
use Rattle.domains.specs.Tables.{product}
use Rattle.order_sift.proofs.PairKeys.{room_kept}
use Rattle.order_sift.proofs.chain.chain_of.Goals as goal

pub loop-t-init : goal.loop-t-init
loop-t-init c = record {
  room = c.requires.room;
  known = c.requires.known;
  chain = c.in_ok-chain.ensures;
}

pub extend-requires-clause-points : goal.extend-requires-clause-points
extend-requires-clause-points c = record {
  few = c.requires.few;
  prepared = c.requires.prepared;
}

pub extend-requires-clause-sets : goal.extend-requires-clause-sets
extend-requires-clause-sets c = record {
  room = c.loop-t.invariant.room;
  known = c.loop-t.invariant.known;
}

pub extend-requires-clause-t : goal.extend-requires-clause-t
extend-requires-clause-t c =
    let l = c.len-t-end.ensures.len in let a = c.loop-t-test.true in omega arith

pub loop-t-preserved : goal.loop-t-preserved
loop-t-preserved c = record {
  room = room_kept (product c.args.m.now.vars) _ _ c.extend.auto.seen c.loop-t.invariant.room;
  known = c.in_ok-extend.ensures.known;
  chain = c.in_ok-extend.ensures.chain;
}

pub returns-clause-chain : goal.returns-clause-chain
returns-clause-chain c =
    let o = c.args.order.now in
    let l = c.len-t-end.ensures.len in
    let all : c.loop-t.t ≡ length o = let a = c.loop-t-test.false in let b = c.loop-t.auto.t-end in
    omega arith in
    subst (λ (n : ℕ). AreChain c.args.m.now o n c.loop-t.chain.classes c.loop-t.chain.backs) all
    c.loop-t.invariant.chain
