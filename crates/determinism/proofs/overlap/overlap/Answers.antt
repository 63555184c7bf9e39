use Rattle.std.proofs.Common.{◌∙◌}
use Rattle.determinism.proofs.Overlaps.{none_enables, box_is}
use Rattle.determinism.proofs.overlap.overlap.Goals as goal
use Rattle.transition_table.proofs.MachineCounts.{row_fits}

pub returns-clause-area : goal.returns-clause-area
returns-clause-area c = λ h.
    let m = c.args.machine.now in
    let rows = c.requires.rows in
    box_is m c.args.first.now c.args.second.now c.args.of_first.now c.args.of_second.now
    c.common.new.sets (row_fits m rows.of_first.0 c.args.first.now rows.of_first.1)
    (row_fits m rows.of_second.0 c.args.second.now rows.of_second.1)
    c.requires.of_first c.requires.of_second (c.common.ensures.long ∙ c.requires.long)
    (c.common.ensures.both h)

pub returns-clause-none : goal.returns-clause-none
returns-clause-none c = λ h codes e.
    let none = c.common.ensures.none h in
    none_enables c.args.machine.now c.args.first.now c.args.second.now c.args.of_first.now
    c.args.of_second.now none.0 c.requires.of_first c.requires.of_second none.1 none.2 codes e
