use Rattle.std.proofs.Common.{refl, sym, subst}
use Rattle.polis_words.specs.declared.cause.Failure.{Failure}
use Rattle.commands.specs.inner.Equiv.{IsEquivFailure}
use Rattle.commands.proofs.equiv.compare_loaded.Goals as goal

pub returns-in-Err-Cause-clause-failed : goal.returns-in-Err-Cause-clause-failed
returns-in-Err-Cause-clause-failed c =
    subst (λ (f : Failure). IsEquivFailure c.args.name.now c.args.net.now c.args.other.now f)
    (sym c.of.ensures)
    (refl, rw c.in-Err-Cause.field-0-is at c.in-Err-Cause.ensures.failed, refl)
