use Rattle.std.proofs.Common.{◌≡◌, ◌<◌, ◌≤◌, ℕ, Bool, true, false, not, ◌||◌, Option, Some, refl, sym, ◌∙◌, ap}
use Rattle.std.proofs.lemmas.Bool.{lt-ltb, le-ltb}
use Rattle.polis_base.specs.declared.limits.TheConstants.{ENTRIES_MAX}
use Rattle.transition_table.specs.declared.network.Network.{Network}
use Rattle.journal_text.specs.Forms.{EntryForm}
use Rattle.journal_text.specs.Items.{entry_read}
use Rattle.journal_text.specs.Reading.{Bad, entry_says, said_entry}
use Rattle.journal_text.specs.Texts.{is_stamp}
use Rattle.journal_text.proofs.line.read_entry.Goals as goal
use Rattle.journal_text.proofs.line.read_entry.Goals.{else-stamped-via-then-stamped+else-not-is_a_stamp, else-stamped-via-else-stamped, Joined-else-stamped}
use Rattle.journal_text.specs.declared.fault.JournalKind.TheVariants.{Shape, Many, Stamp}

says : (stamped : Bool) (net : Network) (count : ℕ) (o : Option (ℕ × EntryForm)) (stamp : ℕ)
    (form : EntryForm) → o ≡ Some (stamp, form) → count < ENTRIES_MAX
    → (not stamped || is_stamp stamp) ≡ true
    → entry_says stamped net count o ≡ said_entry stamp (entry_read net form)
says stamped net count o stamp form is few good =
    let below = lt-ltb count ENTRIES_MAX few in rw (is, below, good) refl

says_many : (stamped : Bool) (net : Network) (count : ℕ) (o : Option (ℕ × EntryForm)) (stamp : ℕ)
    (form : EntryForm) → o ≡ Some (stamp, form) → ENTRIES_MAX ≤ count
    → entry_says stamped net count o ≡ Bad Many
says_many stamped net count o stamp form is many =
    let full = le-ltb count ENTRIES_MAX many in rw (is, full) refl

says_stamp : (stamped : Bool) (net : Network) (count : ℕ) (o : Option (ℕ × EntryForm)) (stamp : ℕ)
    (form : EntryForm) → o ≡ Some (stamp, form) → count < ENTRIES_MAX → stamped ≡ true
    → is_stamp stamp ≡ false → entry_says stamped net count o ≡ Bad Stamp
says_stamp stamped net count o stamp form is few is_stamped bad =
    let below = lt-ltb count ENTRIES_MAX few in rw (is, below, is_stamped, bad) refl

stamp_is_good : (stamped : Bool) (stamp : ℕ) → stamped ≡ false
    → (not stamped || is_stamp stamp) ≡ true
stamp_is_good stamped stamp h = rw h refl

stamp_passes : (stamped : Bool) (stamp : ℕ) → stamped ≡ true → is_stamp stamp ≡ true
    → (not stamped || is_stamp stamp) ≡ true
stamp_passes stamped stamp h good = rw (h, good) refl

good_stamp : (c : Joined-else-stamped) → (not c.args.stamped || is_stamp c.in-Some.stamp) ≡ true
good_stamp c = elim c.else-stamped.branch [
  | else-stamped-via-then-stamped+else-not-is_a_stamp w ↦
      stamp_passes c.args.stamped c.in-Some.stamp w.if-stamped.true
      (sym w.is_a_stamp.ensures ∙ w.if-not-is_a_stamp.false)
  | else-stamped-via-else-stamped w ↦
      stamp_is_good c.args.stamped c.in-Some.stamp w.if-stamped.false
]

pub entry_of_form-requires : goal.entry_of_form-requires
entry_of_form-requires c = c.in-Some.ensures.lists

pub returns-in-Ok-clause-ok : goal.returns-in-Ok-clause-ok
returns-in-Ok-clause-ok c =
    says c.args.stamped c.args.index.now.net.now c.args.count _ c.in-Some.stamp _
    c.in-Some.ensures.some c.if-count-ge-ENTRIES_MAX.false
    (good_stamp (goal.at.returns-in-Ok-clause-ok c).Joined-else-stamped)
    ∙ ap (said_entry c.in-Some.stamp) c.in-Ok.ensures.ok

pub returns-in-Err-clause-fault : goal.returns-in-Err-clause-fault
returns-in-Err-clause-fault c = λ kind e.
    says c.args.stamped c.args.index.now.net.now c.args.count _ c.in-Some.stamp _
    c.in-Some.ensures.some c.if-count-ge-ENTRIES_MAX.false
    (good_stamp (goal.at.returns-in-Err-clause-fault c).Joined-else-stamped)
    ∙ ap (said_entry c.in-Some.stamp) (c.in-Err.ensures.fault kind (cc))

pub returns-in_default-clause-fault : goal.returns-in_default-clause-fault
returns-in_default-clause-fault c = λ kind e.
    let same : Shape ≡ kind = cc in
    ap (entry_says c.args.stamped c.args.index.now.net.now c.args.count) c.in_default.ensures.none
    ∙ ap Bad same

pub returns-then-count-ge-ENTRIES_MAX-clause-fault : goal.returns-then-count-ge-ENTRIES_MAX-clause-fault
returns-then-count-ge-ENTRIES_MAX-clause-fault c = λ kind e.
    let same : Many ≡ kind = cc in
    says_many c.args.stamped c.args.index.now.net.now c.args.count _ c.in-Some.stamp _
    c.in-Some.ensures.some c.if-count-ge-ENTRIES_MAX.true ∙ ap Bad same

pub returns-then-not-is_a_stamp-clause-fault : goal.returns-then-not-is_a_stamp-clause-fault
returns-then-not-is_a_stamp-clause-fault c = λ kind e.
    let same : Stamp ≡ kind = cc in
    says_stamp c.args.stamped c.args.index.now.net.now c.args.count _ c.in-Some.stamp _
    c.in-Some.ensures.some c.if-count-ge-ENTRIES_MAX.false c.if-stamped.true
    (sym c.is_a_stamp.ensures ∙ c.if-not-is_a_stamp.true) ∙ ap Bad same
