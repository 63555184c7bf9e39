use Rattle.std.proofs.Common.{sym, subst}
use Rattle.transition_table.specs.declared.network.Network.{Network}
use Rattle.journals.specs.Journals.{IsTrace}
use Rattle.journals.specs.Legality.{Legal}
use Rattle.worker_run.proofs.gathering.gather_alone.Goals as goal

pub core_alone-requires-clause-fits : goal.core_alone-requires-clause-fits
core_alone-requires-clause-fits g c = c.requires.trace

pub core_alone-requires-clause-count : goal.core_alone-requires-clause-count
core_alone-requires-clause-count g c = c.requires.least

pub resume-requires-clause-trace : goal.resume-requires-clause-trace
resume-requires-clause-trace g c =
    subst (λ (n : Network). IsTrace n c.args.trace.now) (sym c.network.ensures) c.requires.trace

pub resume-requires-clause-legal : goal.resume-requires-clause-legal
resume-requires-clause-legal g c =
    subst (λ (n : Network). Legal n c.args.trace.now c.in_ok-journal.journal)
    (sym c.network.ensures) c.in_ok-journal.ensures.legal
