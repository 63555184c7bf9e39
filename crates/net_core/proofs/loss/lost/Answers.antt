use Rattle.std.proofs.Common.{refl, ◌≡◌, ◌+◌, ◌<◌, ℕ, true, false, List, Some, length, set, take, drop, slice_get, ap, sym, subst, ◌∙◌, arith}
use Rattle.transition_table.specs.declared.snapshot.Snapshot.{Snapshot}
use Rattle.journals.specs.Journals.{snap}
use Rattle.journals.specs.Moved.{moments_of}
use Rattle.journals.specs.Outputs.{lost_after, overwrites}
use Rattle.net_core.proofs.Losses.{overwrites_is, losses_more}
use Rattle.journals.proofs.EntriesAt.{fits_at, suits_machine, prefix_more, moment_of}
use Rattle.journals.proofs.MomentsAfter.{length_table, moment_width}
use Rattle.net_core.proofs.loss.lost.Goals.{then-overwrites, else-overwrites}
use Rattle.journals.proofs.CursorsAfter.{machine_within}
use Rattle.net_core.proofs.loss.lost.Goals as goal

pub get-machine-requires : goal.get-machine-requires
get-machine-requires c =
    let within = machine_within c.args.net.now c.get-entry.result.now
    (fits_at c.args.net.now c.args.j.now c.loop-i.i c.get-entry.result.now c.requires
    c.get-entry.ensures) in
    omega arith

pub index-requires : goal.index-requires
index-requires c =
    let net = c.args.net.now in
    let within = machine_within net c.get-entry.result.now
    (fits_at net c.args.j.now c.loop-i.i c.get-entry.result.now c.requires
    c.get-entry.ensures) in
    let size = ap length c.loop-i.invariant.moments_are
    ∙ length_table (snap net (take c.loop-i.i c.args.j.now)) (length net.machines) in
    omega arith

pub index_mut-requires : goal.index_mut-requires
index_mut-requires c =
    let net = c.args.net.now in
    let within = machine_within net c.get-entry.result.now
    (fits_at net c.args.j.now c.loop-i.i c.get-entry.result.now c.requires
    c.get-entry.ensures) in
    let size = ap length c.loop-i.invariant.moments_are
    ∙ length_table (snap net (take c.loop-i.i c.args.j.now)) (length net.machines) in
    omega arith

pub move_on-requires-clause-width : goal.move_on-requires-clause-width
move_on-requires-clause-width c =
    let net = c.args.net.now in
    let prefix = take c.loop-i.i c.args.j.now in
    let below : c.machine-m.result < length net.machines = let within =
    machine_within net c.get-entry.result.now
    (fits_at net c.args.j.now c.loop-i.i c.get-entry.result.now c.requires
    c.get-entry.ensures) in omega arith in
    moment_width net prefix c.machine-m.result c.get-machine.result.now c.index_mut.result.now
    c.get-machine.ensures
    (moment_of net prefix c.loop-i.moments.items c.machine-m.result c.index_mut.result.now
    c.loop-i.invariant.moments_are below c.index_mut.ensures.value)

pub move_on-requires-clause-entry : goal.move_on-requires-clause-entry
move_on-requires-clause-entry c =
    let net = c.args.net.now in
    suits_machine net c.get-machine.result.now c.get-entry.result.now
    (fits_at net c.args.j.now c.loop-i.i c.get-entry.result.now c.requires c.get-entry.ensures)
    (subst (λ (k : ℕ). slice_get net.machines k ≡ Some c.get-machine.result.now) c.machine-m.ensures
    c.get-machine.ensures)

pub overwrites-requires : goal.overwrites-requires
overwrites-requires c =
    let net = c.args.net.now in
    let prefix = take c.loop-i.i c.args.j.now in
    let below : c.machine-m.result < length net.machines = let within =
    machine_within net c.get-entry.result.now
    (fits_at net c.args.j.now c.loop-i.i c.get-entry.result.now c.requires
    c.get-entry.ensures) in omega arith in
    let width = moment_width net prefix c.machine-m.result c.get-machine.result.now
    c.index.result.now c.get-machine.ensures
    (moment_of net prefix c.loop-i.moments.items c.machine-m.result c.index.result.now
    c.loop-i.invariant.moments_are below c.index.ensures) in
    omega arith

pub loop-i-preserved : goal.loop-i-preserved
loop-i-preserved c =
    let net = c.args.net.now in
    let j = c.args.j.now in
    let i = c.loop-i.i in
    let prefix = take i j in
    let entry = c.get-entry.result.now in
    let machine = c.get-machine.result.now in
    let m = c.machine-m.result in
    let s : Snapshot = c.move_on.new.s in
    let within = machine_within net entry (fits_at net j i entry c.requires c.get-entry.ensures) in
    let below : m < length net.machines = let same = c.machine-m.ensures in omega arith in
    let there = subst (λ (k : ℕ). slice_get net.machines k ≡ Some machine) c.machine-m.ensures
    c.get-machine.ensures in
    let before = moment_of net prefix c.loop-i.moments.items m c.index_mut.result.now
    c.loop-i.invariant.moments_are below c.index_mut.ensures.value
    ∙ ap (snap net prefix) c.machine-m.ensures in
    let again = moment_of net prefix c.loop-i.moments.items m c.index.result.now
    c.loop-i.invariant.moments_are below c.index.ensures
    ∙ ap (snap net prefix) c.machine-m.ensures in
    let moment = c.moving_laws.ensures.moves_moment net machine prefix entry s
    c.index_mut.result.now there before c.move_on.ensures in
    let one = losses_more net j i entry c.get-entry.ensures in
    let says = overwrites_is net prefix machine c.index.result.now entry c.overwrites.result there
    again c.overwrites.ensures in
    let few = c.loop-i.invariant.few in
    let counted = c.loop-i.invariant.counted in
    let are = ap (λ (l : List Snapshot). set l m s) c.loop-i.invariant.moments_are
    ∙ ap (λ (k : ℕ). set (moments_of net prefix) k s) c.machine-m.ensures
    ∙ c.moving_laws.ensures.moves_moments net prefix entry s within moment
    ∙ ap (moments_of net) (sym (prefix_more j i entry c.get-entry.ensures)) in
    elim c.if-overwrites.branch [
      | then-overwrites w ↦
          let yes : overwrites net prefix entry ≡ true = sym says ∙ w.if-overwrites.true in
          let more : lost_after net prefix (drop i j)
          ≡ 1 + lost_after net (take (i + 1) j) (drop (i + 1) j) = one ∙ rw yes refl in
          let count = w.count-is in
          record { moments_are = are; counted = omega arith; few = omega arith }
      | else-overwrites w ↦
          let none : overwrites net prefix entry ≡ false = sym says ∙ w.if-overwrites.false in
          let more : lost_after net prefix (drop i j)
          ≡ 0 + lost_after net (take (i + 1) j) (drop (i + 1) j) = one ∙ rw none refl in
          let count = w.count-is in
          record { moments_are = are; counted = omega arith; few = omega arith }
    ]
