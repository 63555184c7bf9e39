use Rattle.std.proofs.Common.{◌≤◌, ℕ, List, inl, inr, subst}
use Rattle.transition_table.specs.declared.network.Network.{Network}
use Rattle.journals.specs.declared.entry.TraceItem.{TraceItem}
use Rattle.journals.specs.Legality.{Complete, Legal}
use Rattle.worker_run.proofs.gathering.or_alone.Goals as goal

pub returns-then-len-least-clause-found : goal.returns-then-len-least-clause-found
returns-then-len-least-clause-found g c = c.requires.found

pub returns-then-len-least-clause-legal : goal.returns-then-len-least-clause-legal
returns-then-len-least-clause-legal g c =
    let config = c.args.found.config in
    subst (λ (n : Network). Legal n c.args.trace.now config.journal) c.requires.found.network
    (subst (λ (t : List TraceItem). Legal config.net t config.journal) c.requires.found.trace_is
    c.len.ensures.legal)

pub returns-then-len-least-clause-enough : goal.returns-then-len-least-clause-enough
returns-then-len-least-clause-enough g c =
    inl (subst (λ (n : ℕ). c.args.least ≤ n) c.len.ensures.len c.if-len-least.true)

pub returns-then-is_complete-clause-found : goal.returns-then-is_complete-clause-found
returns-then-is_complete-clause-found g c = c.requires.found

pub returns-then-is_complete-clause-legal : goal.returns-then-is_complete-clause-legal
returns-then-is_complete-clause-legal g c =
    let config = c.args.found.config in
    subst (λ (n : Network). Legal n c.args.trace.now config.journal) c.requires.found.network
    (subst (λ (t : List TraceItem). Legal config.net t config.journal) c.requires.found.trace_is
    c.len.ensures.legal)

pub returns-then-is_complete-clause-enough : goal.returns-then-is_complete-clause-enough
returns-then-is_complete-clause-enough g c =
    let config = c.args.found.config in
    inr
    (subst (λ (n : Network). Complete n c.args.trace.now config.journal) c.requires.found.network
    (subst (λ (t : List TraceItem). Complete config.net t config.journal)
    c.requires.found.trace_is (c.is_complete.ensures.0 c.if-is_complete.true)))

pub gather_alone-requires-clause-least : goal.gather_alone-requires-clause-least
gather_alone-requires-clause-least g c = c.requires.least.1

pub gather_alone-requires-clause-trace : goal.gather_alone-requires-clause-trace
gather_alone-requires-clause-trace g c = c.requires.fits

pub returns-clause-legal : goal.returns-clause-legal
returns-clause-legal g c = c.gather_alone.ensures.legal

pub returns-clause-enough : goal.returns-clause-enough
returns-clause-enough g c = c.gather_alone.ensures.enough
