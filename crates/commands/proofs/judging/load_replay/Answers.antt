use Rattle.commands.proofs.IsExplained.{inputs_judged, journal_judged}
use Rattle.commands.proofs.judging.load_replay.Goals as goal

pub returns-in-Ok-load_journal-clause-loaded : goal.returns-in-Ok-load_journal-clause-loaded
returns-in-Ok-load_journal-clause-loaded g c =
    let file = c.in-Ok-load_journal.ensures in
    record {
      held = rw (c.net.ensures, c.trace.ensures) at c.in-Ok.ensures.held;
      one = rw c.net.ensures at c.in-Ok.ensures.one;
      text = rw (c.in-Ok.ensures.left.files, c.journal.ensures) at file.held;
      read = file.read;
      fit = record {
        trace = c.in-Ok.ensures.fits.0;
        deterministic = c.in-Ok.ensures.fits.1;
        journal = file.fits;
        few = file.few;
        stamps = file.stamps;
      };
    }

pub returns-in-Err-clause-failed : goal.returns-in-Err-clause-failed
returns-in-Err-clause-failed g c =
    inputs_judged c.args.detail (g.H.Host.files c.args.host.now) c.args.asked.now c.in-Err.failure
    (rw (c.net.ensures, c.trace.ensures) at c.in-Err.ensures.failed)
    (rw (c.net.ensures, c.trace.ensures) at c.in-Err.ensures.named)

pub returns-clause-failed : goal.returns-clause-failed
returns-clause-failed g c =
    journal_judged c.args.detail (g.H.Host.files c.args.host.now) c.args.asked.now
    c.in-Ok.inputs.net c.in-Ok.inputs.trace c.in-Err-load_journal.failure
    (rw (c.net.ensures, c.trace.ensures) at c.in-Ok.ensures.held)
    (rw c.net.ensures at c.in-Ok.ensures.one)
    (rw (c.in-Ok.ensures.left.files, c.journal.ensures) at c.in-Err-load_journal.ensures.failed)
