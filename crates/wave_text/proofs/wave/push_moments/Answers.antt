use Rattle.std.proofs.Common.{◌≡◌, ℕ, ◌+◌, ◌<◌, List, length, take, slice_get, Some, true, refl, sym, ap, ◌∙◌, subst, arith}
use Rattle.std.specs.List.{list_all}
use Rattle.std.proofs.lemmas.Option.{slice_get_read}
use Rattle.transition_table.specs.declared.snapshot.Snapshot.{Snapshot}
use Rattle.journals.specs.declared.entry.Entry.{Entry}
use Rattle.journals.specs.Journals.{snap}
use Rattle.journals.proofs.CursorsAfter.{machine_within}
use Rattle.journals.proofs.MomentsAfter.{length_table, moment_width}
use Rattle.journals.proofs.EntriesAt.{fits_at, prefix_more, suits_machine, moment_of}
use Rattle.wave_text.specs.inner.Changing.{AreValues, IsNumbering}
use Rattle.wave_text.specs.inner.Writable.{is_writable}
use Rattle.wave_text.specs.declared.signal.Change.{Change}
use Rattle.wave_text.proofs.HasCode.{journal_front, signals_fit}
use Rattle.wave_text.proofs.IsWritable.{all_writable}
use Rattle.wave_text.proofs.MomentSteps.{changes_next, moments_next, shows, values_next, written_next}
use Rattle.wave_text.proofs.wave.push_moments.Goals as goal

pub get-entry-requires : goal.get-entry-requires
get-entry-requires c = subst (λ (n : ℕ). c.loop-p.p < n) c.len-p-end.ensures c.loop-p-test.true

pub push_moment-requires-clause-signals : goal.push_moment-requires-clause-signals
push_moment-requires-clause-signals c = c.requires.signals

pub get-requires : goal.get-requires
get-requires c =
    let net = c.args.net.now in
    let j = c.args.j.now in
    let p = c.loop-p.p in
    let entry = c.get-entry.result.now in
    let m = c.machine-m.result in
    let own = c.machine-m.ensures in
    let fits = fits_at net j p entry c.requires.journal c.get-entry.ensures in
    let within = machine_within net entry fits in
    let below : m < length net.machines = omega arith in
    below

pub bounds-numberings-m : goal.bounds-numberings-m
bounds-numberings-m c =
    let net = c.args.net.now in
    let j = c.args.j.now in
    let p = c.loop-p.p in
    let entry = c.get-entry.result.now in
    let m = c.machine-m.result in
    let own = c.machine-m.ensures in
    let fits = fits_at net j p entry c.requires.journal c.get-entry.ensures in
    let within = machine_within net entry fits in
    let below : m < length net.machines = omega arith in
    (let many = c.requires.numberings.many in omega arith)

pub index_mut-requires : goal.index_mut-requires
index_mut-requires c =
    let net = c.args.net.now in
    let j = c.args.j.now in
    let p = c.loop-p.p in
    let entry = c.get-entry.result.now in
    let m = c.machine-m.result in
    let own = c.machine-m.ensures in
    let fits = fits_at net j p entry c.requires.journal c.get-entry.ensures in
    let within = machine_within net entry fits in
    let below : m < length net.machines = omega arith in
    let size = ap length c.loop-p.invariant.moments_are
    ∙ length_table (snap net (take p j)) (length net.machines) in
    omega arith

pub take_entry-requires-clause-suits : goal.take_entry-requires-clause-suits
take_entry-requires-clause-suits c =
    let net = c.args.net.now in
    let j = c.args.j.now in
    let p = c.loop-p.p in
    let entry = c.get-entry.result.now in
    let m = c.machine-m.result in
    let own = c.machine-m.ensures in
    let fits = fits_at net j p entry c.requires.journal c.get-entry.ensures in
    let within = machine_within net entry fits in
    let below : m < length net.machines = omega arith in
    let machine = c.get.result.now in
    let there = subst (λ (k : ℕ). slice_get net.machines k ≡ Some machine) own c.get.ensures in
    suits_machine net machine entry fits there

pub take_entry-requires-clause-width : goal.take_entry-requires-clause-width
take_entry-requires-clause-width c =
    let net = c.args.net.now in
    let j = c.args.j.now in
    let p = c.loop-p.p in
    let entry = c.get-entry.result.now in
    let m = c.machine-m.result in
    let own = c.machine-m.ensures in
    let fits = fits_at net j p entry c.requires.journal c.get-entry.ensures in
    let within = machine_within net entry fits in
    let below : m < length net.machines = omega arith in
    let old : Snapshot = c.index_mut.result.now in
    let was = moment_of net (take p j) c.loop-p.moments.items m old
    c.loop-p.invariant.moments_are below c.index_mut.ensures.value in
    moment_width net (take p j) m c.get.result.now old c.get.ensures was

pub take_entry-requires-clause-shows : goal.take_entry-requires-clause-shows
take_entry-requires-clause-shows c =
    let net = c.args.net.now in
    let j = c.args.j.now in
    let p = c.loop-p.p in
    let entry = c.get-entry.result.now in
    let m = c.machine-m.result in
    let own = c.machine-m.ensures in
    let fits = fits_at net j p entry c.requires.journal c.get-entry.ensures in
    let within = machine_within net entry fits in
    let below : m < length net.machines = omega arith in
    let stands = c.requires.numberings.each m c.index-numberings-m.result
    (slice_get_read c.args.numberings.now (length c.args.numberings.now) m
    c.index-numberings-m.result refl
    (let many = c.requires.numberings.many in omega arith) c.index-numberings-m.is) in
    shows net m c.get.result.now c.index-numberings-m.result (length c.loop-p.values)
    c.get.ensures stands c.requires.room c.loop-p.invariant.values_are.many

pub push_moment-requires-clause-changes : goal.push_moment-requires-clause-changes
push_moment-requires-clause-changes c =
    let net = c.args.net.now in
    let j = c.args.j.now in
    let p = c.loop-p.p in
    let entry = c.get-entry.result.now in
    let m = c.machine-m.result in
    let own = c.machine-m.ensures in
    let fits = fits_at net j p entry c.requires.journal c.get-entry.ensures in
    let within = machine_within net entry fits in
    let below : m < length net.machines = omega arith in
    let machine = c.get.result.now in
    let there = subst (λ (k : ℕ). slice_get net.machines k ≡ Some machine) own c.get.ensures in
    let stands = c.requires.numberings.each m c.index-numberings-m.result
    (slice_get_read c.args.numberings.now (length c.args.numberings.now) m
    c.index-numberings-m.result refl
    (let many = c.requires.numberings.many in omega arith) c.index-numberings-m.is) in
    let old : Snapshot = c.index_mut.result.now in
    let was = moment_of net (take p j) c.loop-p.moments.items m old
    c.loop-p.invariant.moments_are below c.index_mut.ensures.value in
    let new : Snapshot = c.take_entry.new.moment in
    let own_was = was ∙ ap (snap net (take p j)) own in
    let changes = c.deref.ensures.value
    ∙ changes_next net j p entry machine c.index-numberings-m.result old new c.loop-p.values
    c.take_entry.new.changes.items c.get-entry.ensures there
    (subst (λ (k : ℕ). IsNumbering net k c.index-numberings-m.result) own stands) own_was
    c.in_ok-take_entry.ensures.moment c.loop-p.invariant.values_are
    c.in_ok-take_entry.ensures.changes in
    subst (λ (l : List Change). list_all (is_writable net) l ≡ true) (sym changes)
    (all_writable net j p
    (signals_fit net (take (p + 1) j) (journal_front net j (p + 1) c.requires.journal)))

pub loop-p-preserved : goal.loop-p-preserved
loop-p-preserved c =
    let net = c.args.net.now in
    let j = c.args.j.now in
    let p = c.loop-p.p in
    let entry = c.get-entry.result.now in
    let m = c.machine-m.result in
    let own = c.machine-m.ensures in
    let fits = fits_at net j p entry c.requires.journal c.get-entry.ensures in
    let within = machine_within net entry fits in
    let below : m < length net.machines = omega arith in
    let machine = c.get.result.now in
    let there = subst (λ (k : ℕ). slice_get net.machines k ≡ Some machine) own c.get.ensures in
    let stands = c.requires.numberings.each m c.index-numberings-m.result
    (slice_get_read c.args.numberings.now (length c.args.numberings.now) m
    c.index-numberings-m.result refl
    (let many = c.requires.numberings.many in omega arith) c.index-numberings-m.is) in
    let old : Snapshot = c.index_mut.result.now in
    let was = moment_of net (take p j) c.loop-p.moments.items m old
    c.loop-p.invariant.moments_are below c.index_mut.ensures.value in
    let new : Snapshot = c.take_entry.new.moment in
    let own_was = was ∙ ap (snap net (take p j)) own in
    let changes = c.deref.ensures.value
    ∙ changes_next net j p entry machine c.index-numberings-m.result old new c.loop-p.values
    c.take_entry.new.changes.items c.get-entry.ensures there
    (subst (λ (k : ℕ). IsNumbering net k c.index-numberings-m.result) own stands) own_was
    c.in_ok-take_entry.ensures.moment c.loop-p.invariant.values_are
    c.in_ok-take_entry.ensures.changes in
    record {
      moments_are = moments_next net j p m entry machine old new c.loop-p.moments.items
          c.get-entry.ensures there own own_was c.in_ok-take_entry.ensures.moment
          c.loop-p.invariant.moments_are;
      values_are = subst (λ (l : List Entry). AreValues net l c.take_entry.new.values)
          (sym (prefix_more j p entry c.get-entry.ensures))
          (values_next net (take p j) entry machine c.loop-p.values c.take_entry.new.values there
          c.loop-p.invariant.values_are c.in_ok-take_entry.ensures.many
          c.in_ok-take_entry.ensures.each);
      written = written_next net j p c.len-in-loop-p.result c.deref.result.now c.args.into.now
          c.loop-p.into c.push_moment.new.into changes c.len-in-loop-p.ensures
          c.loop-p.invariant.written c.in_ok-push_moment.ensures;
    }
