use Rattle.std.proofs.Common.{◌≡◌, ◌<◌, ℕ, List, true, false, length, take, map, Some, sym, ap, subst, ◌∙◌, arith}
use Rattle.std.proofs.lemmas.List.{length-map}
use Rattle.transition_table.specs.declared.network.Network.{Network}
use Rattle.transition_table.specs.Transitions.{OfMachine, IsSnapshot, Transition}
use Rattle.journals.specs.declared.entry.Entry.{Entry}
use Rattle.journals.specs.declared.entry.Entry.TheVariants.{Rea}
use Rattle.journals.specs.Reactions.{outcome_in}
use Rattle.journals.specs.Schedules.{firing_deliveries}
use Rattle.event_buffer.specs.declared.arrival.Arrival.{Arrival}
use Rattle.event_buffer.specs.Arrivals.{OutgoingState, are_arrivals, arrival_of}
use Rattle.event_buffer.specs.Cells.{CellState}
use Rattle.event_buffer.specs.Reacting.{FrozenState, reaction_of}
use Rattle.event_buffer.proofs.LastReaction.{all_arrive, fires_where_sent}
use Rattle.event_buffer.proofs.OutcomeIn.{written_fits}
use Rattle.journals.proofs.StampSteps.{length_prefix}
use Rattle.event_buffer.proofs.cell.Cell.settle.Goals as goal

pub returns-clause-own : goal.returns-clause-own
returns-clause-own c =
    let f = c.f.inside in
    let count = c.write_firing-count.result in
    let room : List Arrival = c.write_firing-count.new.room in
    let made = c.write_firing-count.ensures in
    let entry : Entry = Rea f.machine f.snapshot f.outcome in
    let whole = length_prefix room count made.inside in
    let sent =
    ap (λ (l : List Arrival). length l) made.written
    ∙ length-map (firing_deliveries f.net.now entry) (arrival_of f.stamp) in
    let some : 0 < length (firing_deliveries f.net.now entry) =
    omega (arith, c.if-count-eq0.false) in
    let size = ap (λ (out : OutgoingState). length out.arrivals) c.new.ensures in (
      ap (λ (out : OutgoingState). out.machine) c.new.ensures
          ∙ ap (λ (s : FrozenState). s.machine) c.f.view_is,
      ap (λ (out : OutgoingState). out.stamp) c.new.ensures
          ∙ ap (λ (s : FrozenState). s.stamp) c.f.view_is,
      (omega (arith, c.if-count-eq0.false)),
      c.thaw.ensures.firing (fires_where_sent f.net.now f.machine f.snapshot f.outcome some)
          ∙ ap (λ (s : FrozenState). s.stamp) c.f.view_is,
    )

pub returns-clause-arrivals : goal.returns-clause-arrivals
returns-clause-arrivals c =
    let f = c.f.inside in
    let entry : Entry = Rea f.machine f.snapshot f.outcome in
    let ran =
    subst
    (λ (s : FrozenState).
    OfMachine s.net s.machine (λ machine. Transition machine s.snapshot s.outcome))
    (sym c.f.view_is) c.requires.ran in
    let fits =
    written_fits f.net.now f.machine f.snapshot f.outcome
    c.laws.ensures.transition_fits c.f.invariant.snapshot_fits ran in
    let all =
    all_arrive f.net.now f.stamp (firing_deliveries f.net.now entry) c.f.invariant.small
    (c.sending_laws.ensures.given_may_arrive f.net.now entry fits) in
    subst (λ (s : FrozenState). are_arrivals s.net c.new.result.arrivals ≡ true) c.f.view_is
    (subst (λ (l : List Arrival). are_arrivals f.net.now l ≡ true)
    (sym
    (ap (λ (out : OutgoingState). out.arrivals) c.new.ensures
    ∙ c.write_firing-count.ensures.written)) all)

pub write_firing-count-requires-clause-widths : goal.write_firing-count-requires-clause-widths
write_firing-count-requires-clause-widths c = c.f.invariant.widths

pub write_firing-count-requires-clause-room : goal.write_firing-count-requires-clause-room
write_firing-count-requires-clause-room c = c.f.invariant.has_room

pub thaw-requires-clause-frozen : goal.thaw-requires-clause-frozen
thaw-requires-clause-frozen c =
    c.requires.frozen.0
    ∙ ap (λ (s : FrozenState). Some (s.stamp, s.snapshot)) (sym c.f.view_is)

pub thaw-requires-clause-machine : goal.thaw-requires-clause-machine
thaw-requires-clause-machine c =
    ap (λ (s : FrozenState). s.machine) c.f.view_is ∙ c.requires.frozen.1

pub thaw-requires-clause-snapshot : goal.thaw-requires-clause-snapshot
thaw-requires-clause-snapshot c =
    let f = c.f.inside in
    subst (λ (n : Network). OfMachine n f.machine (λ machine. IsSnapshot machine f.snapshot))
    (ap (λ (s : FrozenState). s.net) c.f.view_is ∙ c.requires.network) c.f.invariant.snapshot_fits

pub thaw-requires-clause-ran : goal.thaw-requires-clause-ran
thaw-requires-clause-ran c =
    let f = c.args.f in
    subst
    (λ (s : FrozenState).
    OfMachine c.args.self.now.net s.machine (λ machine. Transition machine s.snapshot s.outcome))
    (sym c.f.view_is)
    (subst
    (λ (n : Network). OfMachine n f.machine (λ machine. Transition machine f.snapshot f.outcome))
    c.requires.network c.requires.ran)

pub invariant_of-self : goal.invariant_of-self
invariant_of-self c = c.self.invariant

pub invariant_of-self-2 : goal.invariant_of-self-2
invariant_of-self-2 c = c.self.invariant

pub returns-then-count-eq0-clause-settled : goal.returns-then-count-eq0-clause-settled
returns-then-count-eq0-clause-settled c =
    ap (λ (s : CellState). record s { busy = false }) (c.self.view_is ∙ c.thaw.ensures.thawed)

pub returns-clause-settled : goal.returns-clause-settled
returns-clause-settled c =
    ap (λ (s : CellState). record s { busy = true }) (c.self.view_is ∙ c.thaw.ensures.thawed)

pub returns-then-count-eq0-clause-given : goal.returns-then-count-eq0-clause-given
returns-then-count-eq0-clause-given c =
    let room : List Arrival = c.write_firing-count.new.room in
    ap (λ (n : ℕ). take n room) (sym c.if-count-eq0.true)
    ∙ c.write_firing-count.ensures.written
    ∙ ap
    (λ (s : FrozenState). map (arrival_of s.stamp) (firing_deliveries s.net (reaction_of s)))
    c.f.view_is

pub returns-clause-given : goal.returns-clause-given
returns-clause-given c =
    ap (λ (out : OutgoingState). out.arrivals) c.new.ensures
    ∙ c.write_firing-count.ensures.written
    ∙ ap
    (λ (s : FrozenState). map (arrival_of s.stamp) (firing_deliveries s.net (reaction_of s)))
    c.f.view_is

-- the outcome that the cell's network gives is the one that the reaction's network gives
same_decided : (s : FrozenState) (f : FrozenState) (net : Network) → s ≡ f → f.net ≡ net
    → s.outcome ≡ outcome_in net s.machine s.snapshot
    → f.outcome ≡ outcome_in f.net f.machine f.snapshot
same_decided s f net same network decided =
    subst (λ (n : Network). f.outcome ≡ outcome_in n f.machine f.snapshot) (sym network)
    (subst (λ (t : FrozenState). t.outcome ≡ outcome_in net t.machine t.snapshot) same decided)

pub returns-then-count-eq0-clause-decided : goal.returns-then-count-eq0-clause-decided
returns-then-count-eq0-clause-decided c =
    same_decided _ c.args.f c.args.self.now.net c.f.view_is c.requires.network
    c.thaw.ensures.decided

pub returns-clause-decided : goal.returns-clause-decided
returns-clause-decided c =
    same_decided _ c.args.f c.args.self.now.net c.f.view_is c.requires.network
    c.thaw.ensures.decided

pub new-requires : goal.new-requires
new-requires c = c.write_firing-count.ensures.inside
