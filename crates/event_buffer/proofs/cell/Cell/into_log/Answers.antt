use Rattle.std.proofs.Common.{sym, ap, subst, refl, ◌∙◌}
use Rattle.transition_table.specs.Transitions.{OfMachine, IsSnapshot}
use Rattle.transition_table.specs.declared.network.Network.{Network}
use Rattle.journals.specs.Alone.{LegalAlone}
use Rattle.event_buffer.specs.Cells.{CellState}
use Rattle.event_buffer.proofs.FreezingKeepsCell.{pending_fits}
use Rattle.event_buffer.proofs.SettlingKeepsCell.{some_pending, settled_log, written_is}
use Rattle.event_buffer.proofs.cell.Cell.into_log.Goals as goal

pub react-requires-clause-snapshot : goal.react-requires-clause-snapshot
react-requires-clause-snapshot g c =
    let i = c.self.inside in
    let kept = some_pending _ _ _ _ _ _ _ _ c.in-Some.is c.self.invariant.0 in
    let net = c.requires ∙ sym (ap (λ (s : CellState). s.net) c.self.view_is) in
    subst (λ (n : Network). OfMachine n i.machine (λ machine. IsSnapshot machine i.moment))
    (sym net) (pending_fits _ _ _ _ _ _ _ kept)

pub returns-in-Some-clause-log : goal.returns-in-Some-clause-log
returns-in-Some-clause-log g c =
    let i = c.self.inside in
    let p = c.in-Some.p in
    let kept = some_pending _ _ _ _ _ _ _ _ c.in-Some.is c.self.invariant.0 in
    let net = c.requires ∙ sym (ap (λ (s : CellState). s.net) c.self.view_is) in
    let fits =
    subst (λ (n : Network). OfMachine n i.machine (λ machine. IsSnapshot machine i.moment))
    (sym net) (pending_fits _ _ _ _ _ _ _ kept) in
    let is =
    written_is i.net.now i.machine i.moment p (g.R.Reactor.meaning c.args.r.now) i.machine p.stamp
    i.moment c.react.new.o c.laws.ensures.one_outcome c.laws-2.ensures.gives_transition
    kept.deterministic fits c.react.ensures net refl refl refl in
    settled_log i.net.now i.machine i.moment i.busy i.pending i.log c.set.new.self p c.args.self _
    c.self.view_is c.in-Some.is c.set.ensures is

pub returns-in-Some-clause-legal : goal.returns-in-Some-clause-legal
returns-in-Some-clause-legal g c =
    let log = returns-in-Some-clause-log g c in
    subst (λ l. LegalAlone c.args.self.net c.args.self.machine l) (sym log)
    (subst (λ (s : CellState). LegalAlone s.net s.machine s.log) c.self.view_is
    c.self.invariant.0.legal)
