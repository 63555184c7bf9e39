use Rattle.std.proofs.Common.{◌≡◌, arith, length}
use Rattle.transition_table.specs.NetworkFacts.{has_vars}
use Rattle.commands.proofs.RangeLines.{shown_none, shown_more, shown_all}
use Rattle.commands.proofs.ranges.print_ranges.Goals as goal
use Rattle.polis_base.proofs.ListTests.{all_get}

pub loop-k-init : goal.loop-k-init
loop-k-init c =
    shown_none c.args.costs.now c.args.net.now c.new-text.result c.new-text.ensures

pub push_range_of-requires-clause-sized : goal.push_range_of-requires-clause-sized
push_range_of-requires-clause-sized c =
    let net = c.args.net.now in
    all_get (has_vars net.domains net.events) net.machines c.loop-k.k c.get.result.now
    net.sized_vars c.get.ensures

pub loop-k-preserved : goal.loop-k-preserved
loop-k-preserved c =
    let more = c.in_ok-push_range_of.ensures in
    shown_more c.args.costs.now c.args.net.now c.loop-k.k c.loop-k.text c.push_range_of.new.into
    c.get.result.now more.range c.loop-k.invariant c.get.ensures more.is more.added

pub returns : goal.returns
returns c =
    let all : c.loop-k.k ≡ length c.args.net.now.machines =
    let a = c.loop-k-test.false in let b = c.loop-k.auto.k-end in let d = c.len-k-end.ensures in
    omega arith in
    shown_all c.args.costs.now c.args.net.now c.loop-k.k c.loop-k.text c.loop-k.invariant all
