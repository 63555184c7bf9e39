use Rattle.commands.proofs.IsJudged.{rising_stamps}
use Rattle.commands.proofs.stamp.stamped_text.Goals as goal

pub print_journal-requires-clause-stamps : goal.print_journal-requires-clause-stamps
print_journal-requires-clause-stamps c =
    rising_stamps c.args.inputs.now.net c.args.journal.now c.in_ok-stamps.stamps
    c.in_ok-stamps.ensures.rising
