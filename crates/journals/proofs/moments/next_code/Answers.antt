use Rattle.std.proofs.Common.{◌≡◌, ◌<◌, ◌≤◌, ◌+◌, ◌-◌, ℕ, true, false, length, slice_get, Some, refl, subst, arith}
use Rattle.std.proofs.lemmas.Bool.{eq-eqb, lt-ltb}
use Rattle.transition_table.specs.declared.decl.Party.{Party}
use Rattle.transition_table.specs.declared.machine.Machine.{Machine}
use Rattle.transition_table.specs.declared.snapshot.Outcome.{Outcome}
use Rattle.transition_table.specs.declared.snapshot.Snapshot.{Snapshot}
use Rattle.journals.specs.declared.entry.Entry.{Entry}
use Rattle.journals.specs.declared.entry.Entry.TheVariants.{Dep, Rea}
use Rattle.journals.specs.Moved.{SuitsMachine, code_after}
use Rattle.journals.proofs.moments.next_code.Goals as goal

pub get-requires : goal.get-requires
get-requires c = subst (λ (n : ℕ). c.args.k < n) c.len-inputs.ensures c.if-k-inputs.true

-- a reaction that doesn't fire changes nothing
not_fired : (m : Machine) (e : Entry) (k before r : ℕ) (s : Snapshot) (o : Outcome)
    → e ≡ Rea r s o → o.fires ≡ false → before ≡ code_after m e k before
not_fired m e k before r s o is off = rw (is, off) refl

pub returns-then-not-outcome : goal.returns-then-not-outcome
returns-then-not-outcome c =
    not_fired c.args.machine.now c.args.entry.now c.args.k c.args.before c.in-Rea.machine
    c.in-Rea.snapshot c.in-Rea.outcome c.in-Rea.is c.if-not-outcome.true

-- a firing clears each place
cleared : (m : Machine) (e : Entry) (k before r : ℕ) (s : Snapshot) (o : Outcome)
    → e ≡ Rea r s o → o.fires ≡ true → k < length m.inputs → 0 ≡ code_after m e k before
cleared m e k before r s o is on below = rw (is, on, lt-ltb k (length m.inputs) below) refl

pub returns-then-k-inputs-2 : goal.returns-then-k-inputs-2
returns-then-k-inputs-2 c =
    cleared c.args.machine.now c.args.entry.now c.args.k c.args.before c.in-Rea.machine
    c.in-Rea.snapshot c.in-Rea.outcome c.in-Rea.is c.if-not-outcome.false
    (subst (λ (n : ℕ). c.args.k < n) c.len-inputs.ensures c.if-k-inputs-2.true)

within : (k inputs states next n : ℕ) → k < inputs + states → n ≡ inputs → n ≤ k → next ≡ states
    → k - n < next
within k inputs states next n below same past long = omega arith

pub get-requires-in-Rea : goal.get-requires-in-Rea
get-requires-in-Rea c =
    let r = c.in-Rea in
    let m = c.args.machine.now in
    within c.args.k (length m.inputs) (length m.states) (length r.outcome.next)
    c.len-inputs.result c.requires.variable c.len-inputs.ensures c.if-k-inputs-2.false
    (subst (SuitsMachine m) r.is c.requires.entry).next

-- a delivery overwrites the place of its event
written : (m : Machine) (e : Entry) (k before to event code input : ℕ) (from : Party)
    → e ≡ Dep from to event code → slice_get m.inputs k ≡ Some input → event ≡ input
    → code ≡ code_after m e k before
written m e k before to event code input from is at same =
    rw (is, at, eq-eqb event input same) refl

pub returns-then-event-get : goal.returns-then-event-get
returns-then-event-get c =
    let d = c.in-Dep in
    written c.args.machine.now c.args.entry.now c.args.k c.args.before d.to d.event d.code
    c.get.result.now d.from d.is c.get.ensures c.if-event-get.true
