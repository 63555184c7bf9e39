use Rattle.order_sift.specs.inner.Chains.{AreChain}
use Rattle.domains.specs.Tables.{product}
use Rattle.order_sift.specs.inner.Known.{AreKnown}
use Rattle.order_sift.specs.inner.Pairs.{HasRoom}
use Rattle.order_sift.proofs.chain.chain_of.Given as goal

abbrev pub invariant-loop-t : goal.invariant-loop-t
invariant-loop-t l = record {
  room : HasRoom (product l.m.vars) l.seen;
  known : AreKnown l.m l.known;
  chain : AreChain l.m l.order l.t l.chain.classes l.chain.backs;
}
