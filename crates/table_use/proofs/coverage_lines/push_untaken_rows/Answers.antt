use Rattle.std.proofs.Common.{◌++◌, arith}
use Rattle.polis_base.specs.Lists.{places_where}
use Rattle.table_use.specs.CoverageLines.{is_untaken, number_text, numbers_text}
use Rattle.table_use.proofs.Written.{passing_all, passing_more}
use Rattle.table_use.proofs.coverage_lines.push_untaken_rows.Goals as goal

pub loop-r-preserved : goal.loop-r-preserved
loop-r-preserved c =
    let rows = c.args.rows.now in
    passing_more number_text is_untaken rows c.loop-r.r c.get.result.now c.loop-r.into
    c.push_untaken.new.into (c.args.into.now ++ numbers_text (places_where is_untaken rows))
    c.get.ensures c.in_ok-push_untaken.ensures c.loop-r.invariant

pub returns : goal.returns
returns c =
    let rows = c.args.rows.now in
    let end = c.len-r-end.ensures in
    let test = c.loop-r-test.false in
    passing_all number_text is_untaken rows c.loop-r.r c.loop-r.into
    (c.args.into.now ++ numbers_text (places_where is_untaken rows)) (omega arith)
    c.loop-r.invariant
