use Rattle.std.proofs.Common.{◌&&◌, ap, sym, ◌∙◌, arith}
use Rattle.std.proofs.lemmas.Bool.{le-ltb}
use Rattle.polis_base.proofs.SmallSets.{no_bits}
use Rattle.journals.specs.Journals.{reads}
use Rattle.net_core.proofs.ReceiversOf.{marked}
use Rattle.net_core.proofs.config.readers.readers_of.Goals as goal

pub loop-m-init : goal.loop-m-init
loop-m-init c = λ k. no_bits c.empty-set.result k c.empty-set.ensures
    ∙ sym (ap (λ b. b && reads c.args.net.now k c.args.event) (le-ltb k 0 (omega arith)))

pub loop-m-preserved : goal.loop-m-preserved
loop-m-preserved c =
    marked c.args.net.now c.args.event c.loop-m.m c.loop-m.set c.marked-set.result c.get.result.now
    c.is_reader.result c.get.ensures c.is_reader.ensures c.marked-set.ensures.same
    c.marked-set.ensures.others c.loop-m.invariant
