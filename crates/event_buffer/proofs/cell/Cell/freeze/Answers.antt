use Rattle.std.proofs.Common.{◌+◌, List, refl, sym, subst, ap, ◌∙◌, arith}
use Rattle.journals.specs.declared.stamped.Stamped.{Stamped}
use Rattle.journals.specs.Logs.{clock}
use Rattle.event_buffer.specs.Cells.{CellState, IsCell}
use Rattle.event_buffer.proofs.FreezingKeepsCell.{ready_cell, moment_fits, frozen_kept, frozen_view}
use Rattle.event_buffer.proofs.cell.Cell.freeze.Goals as goal

pub prepare-requires-clause-snapshot : goal.prepare-requires-clause-snapshot
prepare-requires-clause-snapshot g c =
    let ready = ready_cell _ _ _ _ _ _ _ _ _ c.self.invariant.0 c.self.view_is c.requires in
    moment_fits _ _ _ _ _ _ c.laws.ensures.snap_fits ready.2

pub invariant_of-self-in-Ok-push : goal.invariant_of-self-in-Ok-push
invariant_of-self-in-Ok-push g c =
    let i = c.self.inside in
    let ready = ready_cell _ _ _ _ _ _ _ _ _ c.self.invariant.0 c.self.view_is c.requires in
    let same =
    c.self.invariant.0.time_is ∙ ap (λ (s : CellState). clock s.log) c.self.view_is in
    let most = c.latest.ensures.is in (
      frozen_kept _ _ _ _ _ _ _ (record { place = c.len-place.result; stamp = i.time + 1 }) _
          c.laws.ensures.gives_transition c.laws.ensures.reaction_fits
          c.laws.ensures.alone_steps c.moving_laws.ensures.moves_waking ready.2 ready.1
          (omega arith) c.len-place.ensures refl c.in-Ok-push.ensures.ok,
      c.self.invariant.1,
    )

pub returns-in-Ok-push-clause-reacts : goal.returns-in-Ok-push-clause-reacts
returns-in-Ok-push-clause-reacts g c =
    let i = c.self.inside in
    let ready = ready_cell _ _ _ _ _ _ _ _ _ c.self.invariant.0 c.self.view_is c.requires in
    frozen_view _ _ _ _ _ _ _ _ _ (record { place = c.len-place.result; stamp = i.time + 1 }) _ _
    ready.2 ready.0 c.self.view_is c.len-place.ensures refl c.in-Ok-push.ensures.ok

pub prepare-requires-clause-exists : goal.prepare-requires-clause-exists
prepare-requires-clause-exists g c = c.self.invariant.0.exists

pub invariant_of-self : goal.invariant_of-self
invariant_of-self g c =
    let i = c.self.inside in (
      subst
          (λ (l : List Stamped).
          IsCell i.net.now i.machine i.moment i.woken i.time i.pending l)
          (sym c.in-Err-push.ensures.err) c.self.invariant.0,
      c.self.invariant.1,
    )
