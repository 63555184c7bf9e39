use Rattle.std.proofs.Common.{◌≡◌, ◌<◌, ◌≤◌, ℕ, List, length, Option, slice_set, take, sym, ap, subst, ◌∙◌, arith}
use Rattle.std.proofs.lemmas.List.{length-set, take-set}
use Rattle.transition_table.specs.Transitions.{AreDeterministic}
use Rattle.journals.specs.declared.stamped.Stamped.{Stamped}
use Rattle.journals.specs.Alone.{LegalAlone}
use Rattle.journals.specs.Journals.{snap}
use Rattle.journals.specs.Logs.{entries}
use Rattle.event_buffer.specs.declared.pending.Pending.{Pending}
use Rattle.event_buffer.specs.Cells.{CellState, IsCell}
use Rattle.event_buffer.proofs.SettlingKeepsCell.{fires_in, none_frozen, some_pending, settling_is, settled_kept, settled_log, settled_firing, thawed_view}
use Rattle.event_buffer.proofs.OutcomeIn.{one_written}
use Rattle.event_buffer.proofs.cell.Cell.thaw.Goals as goal

pub catch_up-requires-clause-legal : goal.catch_up-requires-clause-legal
catch_up-requires-clause-legal c =
    let i = c.self.inside in
    let a = c.args in
    let p = c.in-Some.p in
    let some = sym c.take.ensures.value ∙ c.in-Some.is in
    let kept = some_pending _ _ _ _ _ _ _ _ some c.self.invariant.0 in
    let is =
    settling_is _ _ _ _ _ _ _ _ p _ a.machine a.stamp a.snapshot a.outcome
    c.laws.ensures.one_outcome c.laws-2.ensures.gives_transition c.self.invariant.0
    c.self.view_is some c.requires.frozen c.requires.machine c.requires.snapshot
    c.requires.ran in
    subst (LegalAlone i.net.now i.machine)
    (ap (slice_set i.log p.place) (sym is.0) ∙ sym c.set.ensures) kept.legal

pub invariant_of-self-in-Some : goal.invariant_of-self-in-Some
invariant_of-self-in-Some c =
    let i = c.self.inside in
    let a = c.args in
    let p = c.in-Some.p in
    let some = sym c.take.ensures.value ∙ c.in-Some.is in
    let kept = some_pending _ _ _ _ _ _ _ _ some c.self.invariant.0 in
    let is =
    settling_is _ _ _ _ _ _ _ _ p _ a.machine a.stamp a.snapshot a.outcome
    c.laws.ensures.one_outcome c.laws-2.ensures.gives_transition c.self.invariant.0
    c.self.view_is some c.requires.frozen c.requires.machine c.requires.snapshot
    c.requires.ran in (
      subst
          (λ (o : Option Pending).
          IsCell i.net.now i.machine c.catch_up.new.moment i.woken i.time o c.set.new.self)
          (sym c.take.ensures.after)
          (settled_kept _ _ _ _ _ _ _ _ _ kept (c.set.ensures ∙ ap (slice_set i.log p.place) is.0)
          c.catch_up.ensures),
      c.self.invariant.1,
    )

pub returns-in-Some-clause-thawed : goal.returns-in-Some-clause-thawed
returns-in-Some-clause-thawed c =
    let i = c.self.inside in
    let a = c.args in
    let p = c.in-Some.p in
    let some = sym c.take.ensures.value ∙ c.in-Some.is in
    let is =
    settling_is _ _ _ _ _ _ _ _ p _ a.machine a.stamp a.snapshot a.outcome
    c.laws.ensures.one_outcome c.laws-2.ensures.gives_transition c.self.invariant.0
    c.self.view_is some c.requires.frozen c.requires.machine c.requires.snapshot
    c.requires.ran in
    let log =
    settled_log i.net.now i.machine i.moment i.busy i.pending i.log c.set.new.self p a.self.now _
    c.self.view_is some c.set.ensures is.0 in
    thawed_view i.net.now i.machine i.moment c.catch_up.new.moment i.busy i.pending _ i.log
    c.set.new.self a.self.now c.self.view_is c.take.ensures.after log

pub returns-in-Some-clause-firing : goal.returns-in-Some-clause-firing
returns-in-Some-clause-firing c =
    let i = c.self.inside in
    let a = c.args in
    let p = c.in-Some.p in
    let some = sym c.take.ensures.value ∙ c.in-Some.is in
    let is =
    settling_is _ _ _ _ _ _ _ _ p _ a.machine a.stamp a.snapshot a.outcome
    c.laws.ensures.one_outcome c.laws-2.ensures.gives_transition c.self.invariant.0
    c.self.view_is some c.requires.frozen c.requires.machine c.requires.snapshot
    c.requires.ran in
    λ fires.
    settled_firing _ _ _ _ _ _ _ _ _ _ _ c.self.invariant.0 c.self.view_is some is.1
    (sym (ap fires_in is.0) ∙ fires)

pub returns-in-Some-clause-decided : goal.returns-in-Some-clause-decided
returns-in-Some-clause-decided c =
    let a = c.args in
    one_written a.self.now.net a.machine a.snapshot a.outcome c.laws.ensures.one_outcome
    c.laws-2.ensures.gives_transition
    (subst AreDeterministic (ap (λ (s : CellState). s.net) c.self.view_is)
    c.self.invariant.0.deterministic)
    c.requires.snapshot c.requires.ran

pub set-requires : goal.set-requires
set-requires c =
    let some = sym c.take.ensures.value ∙ c.in-Some.is in
    let kept = some_pending _ _ _ _ _ _ _ _ some c.self.invariant.0 in
    kept.pending_is

pub catch_up-requires-clause-exists : goal.catch_up-requires-clause-exists
catch_up-requires-clause-exists c = c.self.invariant.0.exists

up_to : (place n m : ℕ) → place < n → m ≡ n → place ≤ m
up_to place n m below same = omega arith

pub catch_up-requires-clause-from : goal.catch_up-requires-clause-from
catch_up-requires-clause-from c =
    let p = c.in-Some.p in
    let log = c.self.inside.log in
    let new = c.set.new.self in
    let some = sym c.take.ensures.value ∙ c.in-Some.is in
    let kept = some_pending _ _ _ _ _ _ _ _ some c.self.invariant.0 in
    up_to p.place (length log) (length new) kept.pending_is
    (ap (λ (l : List Stamped). length l) c.set.ensures ∙ length-set log p.place _)

pub catch_up-requires-clause-moment : goal.catch_up-requires-clause-moment
catch_up-requires-clause-moment c =
    let i = c.self.inside in
    let p = c.in-Some.p in
    let some = sym c.take.ensures.value ∙ c.in-Some.is in
    let kept = some_pending _ _ _ _ _ _ _ _ some c.self.invariant.0 in
    kept.moment_is
    ∙ ap (λ (l : List Stamped). snap i.net.now (entries l) i.machine)
    (sym (ap (take p.place) c.set.ensures ∙ take-set i.log p.place _))

pub invariant_of-self : goal.invariant_of-self
invariant_of-self c =
    let i = c.self.inside in
    absurd
    (none_frozen i.net.now i.machine i.moment i.busy i.pending i.log c.args.self.now _
    c.self.view_is (sym c.take.ensures.value ∙ c.in-None.is) c.requires.frozen)

pub invariant_of-self-in-None-2 : goal.invariant_of-self-in-None-2
invariant_of-self-in-None-2 c =
    let i = c.self.inside in
    absurd
    (none_frozen i.net.now i.machine i.moment i.busy i.pending i.log c.args.self.now _
    c.self.view_is (sym c.take.ensures.value ∙ c.in-None.is) c.requires.frozen)

pub returns-in-None-clause-thawed : goal.returns-in-None-clause-thawed
returns-in-None-clause-thawed c =
    let i = c.self.inside in
    absurd
    (none_frozen i.net.now i.machine i.moment i.busy i.pending i.log c.args.self.now _
    c.self.view_is (sym c.take.ensures.value ∙ c.in-None.is) c.requires.frozen)

pub returns-in-None-clause-firing : goal.returns-in-None-clause-firing
returns-in-None-clause-firing c =
    let i = c.self.inside in
    absurd
    (none_frozen i.net.now i.machine i.moment i.busy i.pending i.log c.args.self.now _
    c.self.view_is (sym c.take.ensures.value ∙ c.in-None.is) c.requires.frozen)

pub returns-in-None-clause-decided : goal.returns-in-None-clause-decided
returns-in-None-clause-decided c =
    let i = c.self.inside in
    absurd
    (none_frozen i.net.now i.machine i.moment i.busy i.pending i.log c.args.self.now _
    c.self.view_is (sym c.take.ensures.value ∙ c.in-None.is) c.requires.frozen)
