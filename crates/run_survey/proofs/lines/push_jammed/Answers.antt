use Rattle.std.proofs.Common.{◌++◌, flat_map, arith}
use Rattle.std.specs.List.{zip}
use Rattle.table_use.proofs.Written.{paired_all, paired_more}
use Rattle.run_survey.specs.SurveyLines.{jammed_line}
use Rattle.run_survey.proofs.lines.push_jammed.Goals as goal

pub loop-m-preserved : goal.loop-m-preserved
loop-m-preserved c =
    let machines = c.args.net.now.machines in
    let spreads = c.args.spreads.now in
    paired_more jammed_line machines spreads c.loop-m.m c.get.result.now
    c.get-in-loop-m.result.now c.loop-m.into c.push_jammed_one.new.into
    (c.args.into.now ++ flat_map jammed_line (zip machines spreads)) c.get.ensures
    c.get-in-loop-m.ensures c.in_ok-push_jammed_one.ensures c.loop-m.invariant

pub returns : goal.returns
returns c =
    let machines = c.args.net.now.machines in
    let spreads = c.args.spreads.now in
    let one = c.len.ensures in
    let other = c.len-2.ensures in
    let count = c.min-count.ensures in
    let test = c.loop-m-test.false in
    paired_all jammed_line machines spreads c.loop-m.m c.loop-m.into
    (c.args.into.now ++ flat_map jammed_line (zip machines spreads)) (omega arith)
    c.loop-m.invariant
