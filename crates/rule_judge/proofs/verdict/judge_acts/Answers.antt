use Rattle.std.proofs.Common.{◌∙◌, sym}
use Rattle.rule_judge.proofs.Plain.{plain_keeps}
use Rattle.rule_judge.proofs.verdict.judge_acts.Goals as goal

pub returns-then-all_plain : goal.returns-then-all_plain
returns-then-all_plain c =
    plain_keeps c.args.raw.now (sym c.all_plain.ensures ∙ c.if-all_plain.true)
