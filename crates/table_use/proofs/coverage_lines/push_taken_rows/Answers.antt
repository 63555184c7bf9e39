use Rattle.std.proofs.Common.{◌++◌, flat_map, arith}
use Rattle.std.specs.List.{enumerate_from}
use Rattle.table_use.specs.CoverageLines.{taken_line}
use Rattle.table_use.proofs.Written.{numbered_all, numbered_more}
use Rattle.table_use.proofs.coverage_lines.push_taken_rows.Goals as goal

pub loop-r-preserved : goal.loop-r-preserved
loop-r-preserved c =
    let f = taken_line c.args.machine.now in
    numbered_more f c.args.rows.now c.loop-r.r c.get.result.now c.loop-r.into
    c.push_taken.new.into (c.args.into.now ++ flat_map f (enumerate_from 0 c.args.rows.now))
    c.get.ensures c.in_ok-push_taken.ensures c.loop-r.invariant

pub returns : goal.returns
returns c =
    let f = taken_line c.args.machine.now in
    let end = c.len-r-end.ensures in
    let test = c.loop-r-test.false in
    numbered_all f c.args.rows.now c.loop-r.r c.loop-r.into
    (c.args.into.now ++ flat_map f (enumerate_from 0 c.args.rows.now)) (omega arith)
    c.loop-r.invariant
