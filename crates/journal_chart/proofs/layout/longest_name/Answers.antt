use Rattle.journal_chart.proofs.Columns.{column_within, longest_more, name_of_machine}
use Rattle.journal_chart.proofs.layout.longest_name.Goals as goal

pub get-machine-requires : goal.get-machine-requires
get-machine-requires c =
    column_within c.args.net.now c.args.entries.now c.args.machines.now c.loop-k.k c.get.result.now
    c.requires c.get.ensures

pub loop-k-preserved : goal.loop-k-preserved
loop-k-preserved c = (
  longest_more c.args.net.now c.args.machines.now c.loop-k.k c.get.result.now c.loop-k.longest
      c.longer-longest.result c.bytes.result.now c.get.ensures
      (name_of_machine c.args.net.now c.get.result.now c.get-machine.result.now c.bytes.result.now
      c.get-machine.ensures c.bytes.ensures.bytes)
      c.loop-k.invariant.0 c.longer-longest.ensures.is,
  c.longer-longest.ensures.small,
)
