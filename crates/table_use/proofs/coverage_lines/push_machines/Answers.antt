use Rattle.std.proofs.Common.{◌++◌, flat_map, arith}
use Rattle.std.specs.List.{zip}
use Rattle.table_use.specs.CoverageLines.{machine_text}
use Rattle.table_use.proofs.Written.{paired_all, paired_more}
use Rattle.table_use.proofs.coverage_lines.push_machines.Goals as goal

pub push_machine-requires : goal.push_machine-requires
push_machine-requires c = (c.loop-m.m, c.get.ensures)

pub loop-m-preserved : goal.loop-m-preserved
loop-m-preserved c =
    let net = c.args.net.now in
    let used = c.args.used.now in
    paired_more (machine_text net) net.machines used c.loop-m.m c.get.result.now
    c.get-in-loop-m.result.now c.loop-m.into c.push_machine.new.into
    (c.args.into.now ++ flat_map (machine_text net) (zip net.machines used)) c.get.ensures
    c.get-in-loop-m.ensures c.in_ok-push_machine.ensures c.loop-m.invariant

pub returns : goal.returns
returns c =
    let net = c.args.net.now in
    let used = c.args.used.now in
    let one = c.len.ensures in
    let other = c.len-2.ensures in
    let count = c.min-count.ensures in
    let test = c.loop-m-test.false in
    paired_all (machine_text net) net.machines used c.loop-m.m c.loop-m.into
    (c.args.into.now ++ flat_map (machine_text net) (zip net.machines used)) (omega arith)
    c.loop-m.invariant
