use Rattle.std.proofs.Common.{◌≡◌, ◌+◌, ◌++◌, ◌∷◌, [], List, Some, length, take, slice_get, ap, sym, subst, ◌∙◌, add-one}
use Rattle.transition_table.specs.declared.snapshot.Snapshot.{Snapshot}
use Rattle.journals.specs.declared.stamped.Stamped.{Stamped}
use Rattle.journals.specs.Journals.{snap}
use Rattle.journals.specs.Logs.{entries}
use Rattle.event_buffer.proofs.Lists.{take_next}
use Rattle.event_buffer.proofs.LegalLogs.{own_machine, item_of_legal}
use Rattle.journals.proofs.StampSteps.{entries_more}
use Rattle.event_buffer.proofs.cell.catch_up.Goals as goal

pub move_on-requires-clause-width : goal.move_on-requires-clause-width
move_on-requires-clause-width c =
    ap (λ (s : Snapshot). length s.codes) c.loop-k.invariant
    ∙ c.moving_laws.ensures.snap_width c.args.net.now c.args.m c.get-machine.result.now
    (entries (take c.loop-k.k c.args.log.now)) c.get-machine.ensures

pub move_on-requires-clause-entry : goal.move_on-requires-clause-entry
move_on-requires-clause-entry c =
    let net = c.args.net.now in
    let m = c.args.m in
    let x : Stamped = c.get.result.now in
    let item = item_of_legal net m c.args.log.now c.loop-k.k x c.requires.legal c.get.ensures in
    let own = own_machine net m x.entry item.1 in
    let there =
    subst (λ j. slice_get net.machines j ≡ Some c.get-machine.result.now) (sym own)
    c.get-machine.ensures in
    c.moving_laws.ensures.fitting_suits net c.get-machine.result.now x.entry item.0 there

pub loop-k-preserved : goal.loop-k-preserved
loop-k-preserved c =
    let net = c.args.net.now in
    let m = c.args.m in
    let log = c.args.log.now in
    let k = c.loop-k.k in
    let x : Stamped = c.get.result.now in
    let item = item_of_legal net m log k x c.requires.legal c.get.ensures in
    let own = own_machine net m x.entry item.1 in
    let there =
    subst (λ j. slice_get net.machines j ≡ Some c.get-machine.result.now) (sym own)
    c.get-machine.ensures in
    let was = c.loop-k.invariant ∙ ap (snap net (entries (take k log))) (sym own) in
    let next : take (k + 1) log ≡ take k log ++ x ∷ [] =
    rw add-one (take_next log k x c.get.ensures) in
    c.moving_laws.ensures.moves_moment net c.get-machine.result.now (entries (take k log)) x.entry
    c.move_on.new.s c.loop-k.moment there was c.move_on.ensures
    ∙ ap (snap net (entries (take k log) ++ x.entry ∷ [])) own
    ∙ sym
    (ap (λ (l : List Stamped). snap net (entries l) m) next
    ∙ ap (λ j. snap net j m) (entries_more (take k log) x))
