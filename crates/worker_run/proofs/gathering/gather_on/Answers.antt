use Rattle.std.proofs.Common.{sym, subst, ◌∙◌}
use Rattle.transition_table.specs.declared.network.Network.{Network}
use Rattle.journals.specs.Journals.{IsTrace}
use Rattle.worker_core.specs.Merges.{merged}
use Rattle.worker_run.specs.inner.Gathered.{AreAlone}
use Rattle.worker_run.proofs.IsAdopted.{adopted_most}
use Rattle.worker_run.proofs.gathering.gather_on.Goals as goal

pub or_alone-requires-clause-found : goal.or_alone-requires-clause-found
or_alone-requires-clause-found g c =
    let found = c.in_ok-found.found in
    let told = c.in_ok-found.ensures in
    record {
      network = told.network ∙ c.network.ensures;
      trace_is = told.trace;
      most = adopted_most c.network.result.now c.args.trace.now (merged c.in_ok-logs.logs)
          c.args.limit found.config.journal found.merged told.adopted told.kept;
    }

pub adopt_merge-requires-clause-trace : goal.adopt_merge-requires-clause-trace
adopt_merge-requires-clause-trace g c =
    subst (λ (n : Network). IsTrace n c.args.trace.now) (sym c.network.ensures) c.requires.trace

pub adopt_merge-requires-clause-alone : goal.adopt_merge-requires-clause-alone
adopt_merge-requires-clause-alone g c =
    subst (λ (n : Network). AreAlone n c.in_ok-logs.logs) (sym c.network.ensures)
    c.in_ok-logs.ensures.alone

pub or_alone-requires-clause-fits : goal.or_alone-requires-clause-fits
or_alone-requires-clause-fits g c = c.requires.trace

pub returns-clause-legal : goal.returns-clause-legal
returns-clause-legal g c = c.or_alone.ensures.legal

pub returns-clause-enough : goal.returns-clause-enough
returns-clause-enough g c = c.or_alone.ensures.enough
