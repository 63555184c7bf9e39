use Rattle.std.proofs.Common.{◌+◌, List, ◌++◌, ap, ◌∙◌, arith}
use Rattle.table_use.specs.CoverageLines.{never_line}
use Rattle.table_use.specs.declared.tally.Tally.{Tally}
use Rattle.run_survey.specs.SurveyLines.{never_lines}
use Rattle.run_survey.proofs.NeverLines.{never_more, rows_next, rows_within}
use Rattle.run_survey.proofs.lines.push_never_taken.Goals as goal

pub most_of-requires : goal.most_of-requires
most_of-requires c =
    let machines = c.args.net.now.machines in
    let next = rows_next machines c.loop-m.m c.get-machine.result.now c.get-machine.ensures in
    let within = rows_within machines (c.loop-m.m + 1) in
    let place = c.loop-m.invariant.place in
    let count = c.len-count-in-loop-m.ensures in
    let all = c.requires in
    omega arith

pub overflow_add-first : goal.overflow_add-first
overflow_add-first c =
    let machines = c.args.net.now.machines in
    let next = rows_next machines c.loop-m.m c.get-machine.result.now c.get-machine.ensures in
    let within = rows_within machines (c.loop-m.m + 1) in
    let place = c.loop-m.invariant.place in
    let count = c.len-count-in-loop-m.ensures in
    let size = c.len-count.ensures in
    let all = c.requires in
    omega arith

pub loop-m-preserved : goal.loop-m-preserved
loop-m-preserved c =
    let machines = c.args.net.now.machines in
    let rows = c.args.rows.now in
    let machine = c.get-machine.result.now in
    let next = rows_next machines c.loop-m.m machine c.get-machine.ensures in
    record {
      place =
          (let place = c.loop-m.invariant.place in
          let count = c.len-count-in-loop-m.ensures in
          omega arith);
      lines =
          never_more machines rows c.loop-m.m c.loop-m.first c.len-count-in-loop-m.result machine
          c.loop-m.into c.push_never.new.into (c.args.into.now ++ never_lines machines rows)
          c.get-machine.ensures c.len-count-in-loop-m.ensures
          (c.in_ok-push_never.ensures.ok
          ∙ ap (λ (l : List Tally). c.loop-m.into ++ never_line machine l)
          c.in_ok-tallies.ensures)
          c.loop-m.invariant.lines;
    }
