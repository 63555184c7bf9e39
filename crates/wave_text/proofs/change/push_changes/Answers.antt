use Rattle.std.proofs.Common.{length, ap, sym, ◌∙◌}
use Rattle.journals.proofs.MomentsAfter.{length_table}
use Rattle.wave_text.proofs.change.push_changes.Goals as goal

pub push_code_changes-requires-clause-same : goal.push_code_changes-requires-clause-same
push_code_changes-requires-clause-same c =
    sym (ap length c.requires.after ∙ length_table _ (length c.args.before.now))
