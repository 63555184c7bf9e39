use Rattle.std.proofs.Common.{◌≡◌, ◌<◌, ◌≤◌, ℕ, List, Some, slice_get, length, set, ap, subst, ◌∙◌, arith}
use Rattle.transition_table.specs.declared.snapshot.Snapshot.{Snapshot}
use Rattle.journals.specs.Journals.{snap}
use Rattle.journals.specs.Cursors.{cursors_after, cursor}
use Rattle.journals.specs.Moved.{moments_of}
use Rattle.journals.proofs.MomentsAfter.{length_table, moment_width}
use Rattle.net_core.proofs.Wakings.{woken_after, others_after}
use Rattle.journals.proofs.EntriesAt.{suits_machine, moment_of}
use Rattle.net_core.specs.inner.Marks.{marked_after}
use Rattle.net_core.proofs.Marks.{marked_cursors, lands_in}
use Rattle.net_core.proofs.Tables.{owed_after}
use Rattle.journals.proofs.CursorsAfter.{machine_within}
use Rattle.net_core.proofs.config.tables.Tables.pass.Goals as goal

pub get-requires : goal.get-requires
get-requires c =
    let below = machine_within c.args.net.now c.args.entry.now c.requires.fits in
    omega arith

pub index_mut-requires : goal.index_mut-requires
index_mut-requires c =
    let below = machine_within c.args.net.now c.args.entry.now c.requires.fits in
    let size = ap length c.requires.current.1.tables.moments_are
    ∙ length_table (snap c.args.net.now c.requires.current.0)
    (length c.args.net.now.machines) in
    omega arith

pub move_on-requires-clause-width : goal.move_on-requires-clause-width
move_on-requires-clause-width c =
    let net = c.args.net.now in
    let journal = c.requires.current.0 in
    let m = c.machine-m.result in
    let below : m < length net.machines = let within =
    machine_within net c.args.entry.now c.requires.fits in omega arith in
    let is = moment_of net journal c.args.self.now.moments.items m c.index_mut.result.now
    c.requires.current.1.tables.moments_are below c.index_mut.ensures.value in
    moment_width net journal m c.get.result.now c.index_mut.result.now c.get.ensures is

pub move_on-requires-clause-entry : goal.move_on-requires-clause-entry
move_on-requires-clause-entry c =
    suits_machine c.args.net.now c.get.result.now c.args.entry.now c.requires.fits
    (subst (λ (k : ℕ). slice_get c.args.net.now.machines k ≡ Some c.get.result.now)
    c.machine-m.ensures c.get.ensures)

pub land-requires-clause-below : goal.land-requires-clause-below
land-requires-clause-below c =
    lands_in c.args.net.now c.args.entry.now (length c.args.self.now.cursors) c.requires.fits
    (ap length c.requires.current.1.tables.cursors_are
    ∙ length_table (cursor c.args.net.now c.args.trace.now c.requires.current.0)
    (length c.args.net.now.machines))

pub land-requires-clause-few : goal.land-requires-clause-few
land-requires-clause-few c =
    let size = ap length c.requires.current.1.tables.cursors_are
    ∙ length_table (cursor c.args.net.now c.args.trace.now c.requires.current.0)
    (length c.args.net.now.machines) in
    let sixty_four : length c.args.net.now.machines ≤ 64 = c.args.net.now.few_machines in
    omega arith

pub marked-self-requires : goal.marked-self-requires
marked-self-requires c =
    let below = machine_within c.args.net.now c.args.entry.now c.requires.fits in
    let same = c.machine-m.ensures in
    let sixty_four : length c.args.net.now.machines ≤ 64 = c.args.net.now.few_machines in
    omega arith

pub returns : goal.returns
returns c = λ journal current.
    let net = c.args.net.now in
    let trace = c.args.trace.now in
    let entry = c.args.entry.now in
    let m = c.machine-m.result in
    let is = c.machine-m.ensures in
    let within = machine_within net entry c.requires.fits in
    let tables = current.tables in
    let below : m < length net.machines = omega arith in
    let s : Snapshot = c.move_on.new.s in
    let before = moment_of net journal c.args.self.now.moments.items m c.index_mut.result.now
    tables.moments_are below c.index_mut.ensures.value in
    let moment = c.moving_laws.ensures.moves_moment net c.get.result.now journal entry s
    c.index_mut.result.now
    (subst (λ (k : ℕ). slice_get net.machines k ≡ Some c.get.result.now) is c.get.ensures)
    (before ∙ ap (snap net journal) is) c.move_on.ensures in
    record {
      fits = tables.fits;
      legal = (c.laws.ensures.steps net trace journal entry).1
          (tables.legal, c.requires.fits, current.follows);
      readers_are = tables.readers_are;
      moments_are = ap (λ (l : List Snapshot). set l m s) tables.moments_are
          ∙ ap (λ (k : ℕ). set (moments_of net journal) k s) is
          ∙ c.moving_laws.ensures.moves_moments net journal entry s within moment;
      woken_are = woken_after (length net.machines) m c.args.self.now.woken c.marked-self.result
          journal entry c.is_delivery.result c.moving_laws.ensures.moves_waking is
          c.is_delivery.ensures tables.woken_are c.marked-self.ensures.same
          c.marked-self.ensures.others;
      no_others = others_after (length net.machines) m c.args.self.now.woken c.marked-self.result
          below tables.no_others c.marked-self.ensures.others;
      cursors_are = c.land.ensures.cursors
          ∙ ap (λ (l : List ℕ). marked_after l trace entry c.args.self.now.cursors)
          c.deref.ensures.value
          ∙ marked_cursors net c.args.self.now.readers.items trace entry c.args.self.now.cursors
          tables.readers_are tables.fits c.requires.fits
          ∙ ap (cursors_after net trace entry) tables.cursors_are
          ∙ c.moving_laws.ensures.moves_cursors net trace journal entry c.requires.fits tables.legal
          current.follows;
      owed_are = owed_after net trace journal entry c.args.self.now.owed c.land.new.owed
          c.moving_laws.ensures.moves_owed tables.legal current.owed_are c.land.ensures.owed;
    }
