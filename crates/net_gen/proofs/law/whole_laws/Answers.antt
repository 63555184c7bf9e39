use Rattle.std.proofs.Common.{ℕ, arith, sym, subst}
use Rattle.transition_table.specs.declared.network.Network.{Network}
use Rattle.net_reader.specs.declared.raw.RawNet.{RawNet}
use Rattle.net_reader.specs.Layout.{IsOfSentence}
use Rattle.net_rules.specs.Networks.{IsNetworkOf}
use Rattle.net_rules.specs.Unique.{SomeNetwork}
use Rattle.polis_base.specs.Draws.{after}
use Rattle.net_gen.specs.Items.{trace_items}
use Rattle.net_gen.specs.Networks.{count, network}
use Rattle.net_gen.specs.Whole.{SeedsHaveNetwork}
use Rattle.net_gen.proofs.SeedsKeepRules.{seeds_keep}
use Rattle.net_gen.proofs.Sentence.{sentence}
use Rattle.net_gen.proofs.law.whole_laws.Goals as goal

seed_sentence : (seed : ℕ) → IsOfSentence (network seed)
unfolding network
seed_sentence seed = sentence (count seed) (after seed 1) (omega arith)

given : SomeNetwork → SeedsHaveNetwork
given some seed = some (network seed) (seed_sentence seed) (seeds_keep seed)

pub returns-clause-some : goal.returns-clause-some
returns-clause-some c = given c.network_laws.ensures.some

pub returns-clause-whole : goal.returns-clause-whole
returns-clause-whole c seed text declares =
    let found = given c.network_laws.ensures.some seed in
    let net : Network = found.0 in
    let is : IsNetworkOf (network seed) net = found.1 in
    let own : RawNet = declares.same in
    record {
      net = net;
      trace = trace_items seed;
      declared = (
        own,
        declares.read,
        (
          c.text_laws.ensures.keeps seed own declares.is,
          (c.text_laws.ensures.networks own net).0
              (subst (λ (r : RawNet). IsNetworkOf r net) (sym declares.is)
              ((c.text_laws.ensures.networks (network seed) net).1 is)),
        ),
      );
      deterministic = c.machine_laws.ensures.deterministic seed net is;
      read = c.trace_laws.ensures.items seed net is;
      short = λ journal. c.run_laws.ensures.end seed net journal is;
      complete = λ journal. c.run_laws.ensures.complete seed net journal is;
    }
