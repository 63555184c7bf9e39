use Rattle.wave_text.specs.inner.Writable.{is_writable}
use Rattle.wave_text.proofs.lines.push_change_lines.Goals as goal
use Rattle.polis_base.proofs.ListTests.{all_get_or}

pub push_change-requires-clause-change : goal.push_change-requires-clause-change
push_change-requires-clause-change c =
    all_get_or (is_writable c.args.net.now) c.args.changes.now c.loop-change.change-index _
    c.requires.changes
    c.loop-change-test.true
