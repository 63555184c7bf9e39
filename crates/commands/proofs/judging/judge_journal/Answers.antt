use Rattle.std.proofs.lemmas.Result.{IfErr-weaker, IfOk-weaker}
use Rattle.commands.specs.inner.Judging.{IsJudgmentOf, IsUnlawful}
use Rattle.commands.proofs.IsExplained.{unlawful_judged, unlawful_read}
use Rattle.commands.proofs.IsJudged.{judgment_deterministic, judgment_few, judgment_is, judgment_legal}
use Rattle.commands.proofs.judging.judge_journal.Goals as goal

pub returns-in-Ok-clause-judged : goal.returns-in-Ok-clause-judged
returns-in-Ok-clause-judged g c =
    IfOk-weaker c.judge_loaded.result (IsJudgmentOf c.in-Ok.loaded) _
    (λ judged j. judgment_is (g.H.Host.files c.args.host.now) c.args.asked.now c.in-Ok.loaded
    judged c.in-Ok.ensures.loaded j) c.judge_loaded.ensures.judged

pub returns-in-Ok-clause-legal : goal.returns-in-Ok-clause-legal
returns-in-Ok-clause-legal g c =
    IfOk-weaker c.judge_loaded.result (IsJudgmentOf c.in-Ok.loaded) _
    (λ judged j. judgment_legal c.in-Ok.loaded judged j) c.judge_loaded.ensures.judged

pub returns-in-Ok-clause-few : goal.returns-in-Ok-clause-few
returns-in-Ok-clause-few g c =
    IfOk-weaker c.judge_loaded.result (IsJudgmentOf c.in-Ok.loaded) _
    (λ judged j. judgment_few c.in-Ok.loaded judged c.in-Ok.ensures.loaded.fit j)
    c.judge_loaded.ensures.judged

pub returns-in-Ok-clause-deterministic : goal.returns-in-Ok-clause-deterministic
returns-in-Ok-clause-deterministic g c =
    IfOk-weaker c.judge_loaded.result (IsJudgmentOf c.in-Ok.loaded) _
    (λ judged j. judgment_deterministic c.in-Ok.loaded judged c.in-Ok.ensures.loaded.fit j)
    c.judge_loaded.ensures.judged

pub returns-in-Ok-clause-failed : goal.returns-in-Ok-clause-failed
returns-in-Ok-clause-failed g c =
    IfErr-weaker c.judge_loaded.result
    (IsUnlawful c.args.asked.now.journal c.in-Ok.loaded c.args.detail) _
    (λ failure h. unlawful_judged c.args.detail (g.H.Host.files c.args.host.now)
    c.args.asked.now c.in-Ok.loaded failure c.in-Ok.ensures.loaded h)
    (rw c.journal.ensures at c.judge_loaded.ensures.failed)

pub returns-in-Ok-clause-left : goal.returns-in-Ok-clause-left
returns-in-Ok-clause-left g c =
    rw (unlawful_read c.journal.result.now c.in-Ok.loaded c.args.detail c.judge_loaded.result
    c.judge_loaded.ensures.failed) c.in-Ok.ensures.left
