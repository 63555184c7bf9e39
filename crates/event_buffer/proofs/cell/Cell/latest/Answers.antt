use Rattle.std.proofs.Common.{arith}
use Rattle.event_buffer.specs.Cells.{filled}
use Rattle.event_buffer.proofs.LegalLogs.{clock_small}
use Rattle.event_buffer.proofs.cell.Cell.latest.Goals as goal

pub returns-clause-small : goal.returns-clause-small
returns-clause-small c =
    let i = c.self.inside in
    let kept = c.self.invariant.0 in
    let small =
    clock_small i.net.now i.machine (filled i.net.now i.machine i.moment i.pending i.log)
    kept.legal in
    let clock = kept.time_is in
    let is = c.later.ensures in
    let other = c.requires in
    omega arith
