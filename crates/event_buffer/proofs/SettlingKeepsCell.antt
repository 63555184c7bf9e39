-- What is kept as a reaction is settled.
use Rattle.std.specs.Prelude.{◌≡◌, ℕ, Bool, true, false, unwrap_or, slice_set, List, Option, Some, None}
use Rattle.std.proofs.Common.{sym, ap, ◌∙◌, subst}
use Rattle.std.proofs.lemmas.Option.{none-some}
use Rattle.transition_table.specs.Laws.{OneOutcome}
use Rattle.transition_table.specs.Transitions.{OfMachine, IsSnapshot, Transition, AreDeterministic}
use Rattle.transition_table.specs.declared.network.Network.{Network}
use Rattle.transition_table.specs.declared.snapshot.Snapshot.{Snapshot}
use Rattle.transition_table.specs.declared.snapshot.Outcome.{Outcome}
use Rattle.journals.specs.declared.entry.Entry.{Entry}
use Rattle.journals.specs.declared.entry.Entry.TheVariants.{Dep, Rea}
use Rattle.journals.specs.declared.stamped.Stamped.{Stamped}
use Rattle.journals.specs.Alone.{LegalAlone}
use Rattle.journals.specs.Journals.{is_woken, snap}
use Rattle.journals.specs.Laws.{GivesTransition}
use Rattle.journals.specs.Logs.{clock, entries, stamped}
use Rattle.journals.specs.Reactions.{outcome_in}
use Rattle.event_buffer.specs.declared.pending.Pending.{Pending}
use Rattle.event_buffer.specs.Cells.{CellState, firing_stamp, decided, filled, frozen_of, shown, IsCell}
use Rattle.event_buffer.proofs.OutcomeIn.{one_written}

-- what is written is the pending reaction with its outcome
pub written_is :
    (net : Network) (m : ℕ) (moment : Snapshot) (p : Pending) (other : Network)
    (machine stamp : ℕ) (snapshot : Snapshot) (outcome : Outcome)
    → OneOutcome
    → GivesTransition
    → AreDeterministic net
    → OfMachine other machine (λ machine. IsSnapshot machine snapshot)
    → OfMachine other machine (λ machine. Transition machine snapshot outcome)
    → other ≡ net
    → machine ≡ m
    → stamp ≡ p.stamp
    → snapshot ≡ moment
    → stamped stamp (Rea machine snapshot outcome) ≡ decided net m moment p
written_is net m moment p other machine stamp snapshot outcome one gives all fits written same_net
    same_machine same_stamp same_snapshot =
    let fit =
    subst (λ (n : Network). OfMachine n machine (λ machine. IsSnapshot machine snapshot))
    same_net fits in
    let fit' =
    subst (λ (k : ℕ). OfMachine net k (λ machine. IsSnapshot machine snapshot)) same_machine fit in
    let done =
    subst (λ (n : Network). OfMachine n machine (λ machine. Transition machine snapshot outcome))
    same_net written in
    let done' =
    subst (λ (k : ℕ). OfMachine net k (λ machine. Transition machine snapshot outcome))
    same_machine done in
    let is : outcome ≡ outcome_in net m moment =
    one_written net m snapshot outcome one gives all fit' done'
    ∙ ap (outcome_in net m) same_snapshot in
    λ i. stamped (same_stamp i) (Rea (same_machine i) (same_snapshot i) (is i))

pub settled_kept :
    (net : Network) (m : ℕ) (moment after : Snapshot) (woken : Bool) (time : ℕ) (p : Pending)
    (log more : List Stamped)
    → IsCell net m moment woken time (Some p) log
    → more ≡ filled net m moment (Some p) log
    → after ≡ snap net (entries more) m
    → IsCell net m after woken time None more
settled_kept net m moment after woken time p log more kept is moment_is = record {
  exists = kept.exists;
  deterministic = kept.deterministic;
  legal = subst (LegalAlone net m) (sym is) kept.legal;
  moment_is = moment_is;
  woken_is = kept.woken_is ∙ ap (λ (l : List Stamped). is_woken (entries l) m) (sym is);
  time_is = kept.time_is ∙ ap clock (sym is);
  pending_is = tt;
  last_is = tt;
}

pub same_parts :
    (a b : ℕ) (s t : Snapshot)
    → ◌≡◌ {A = Option (ℕ × Snapshot)} (Some (a, s)) (Some (b, t)) → (a ≡ b) × (s ≡ t)
same_parts a b s t h = (
  ap (λ (o : Option (ℕ × Snapshot)). (unwrap_or o (a, s)).0) h,
  ap (λ (o : Option (ℕ × Snapshot)). (unwrap_or o (a, s)).1) h,
)

pub some_pending :
    (net : Network) (m : ℕ) (moment : Snapshot) (woken : Bool) (time : ℕ)
    (pending : Option Pending) (log : List Stamped) (p : Pending)
    → pending ≡ Some p
    → IsCell net m moment woken time pending log
    → IsCell net m moment woken time (Some p) log
some_pending net m moment woken time pending log p some kept =
    subst (λ (o : Option Pending). IsCell net m moment woken time o log) some kept

-- what settles a cell is its pending reaction
pub settling_is :
    (net : Network) (m : ℕ) (moment : Snapshot) (woken : Bool) (time : ℕ) (busy : Bool)
    (pending : Option Pending) (log : List Stamped) (p : Pending) (c : CellState)
    (machine stamp : ℕ) (snapshot : Snapshot) (outcome : Outcome)
    → OneOutcome
    → GivesTransition
    → IsCell net m moment woken time pending log
    → shown net m moment busy pending log ≡ c
    → pending ≡ Some p
    → c.frozen ≡ Some (stamp, snapshot)
    → machine ≡ c.machine
    → OfMachine c.net machine (λ machine. IsSnapshot machine snapshot)
    → OfMachine c.net machine (λ machine. Transition machine snapshot outcome)
    → (stamped stamp (Rea machine snapshot outcome) ≡ decided net m moment p)
    × (stamp ≡ p.stamp)
settling_is net m moment woken time busy pending log p c machine stamp snapshot outcome one gives
    kept view some frozen same fits ran =
    let at : ◌≡◌ {A = Option (ℕ × Snapshot)} (Some (stamp, snapshot)) (Some (p.stamp, moment)) =
    sym frozen ∙ sym (ap (λ (s : CellState). s.frozen) view) ∙ ap (frozen_of moment) some in
    let parts = same_parts stamp p.stamp snapshot moment at in (
      written_is net m moment p c.net machine stamp snapshot outcome one gives kept.deterministic
          fits ran (sym (ap (λ (s : CellState). s.net) view))
          (same ∙ sym (ap (λ (s : CellState). s.machine) view)) parts.0 parts.1,
      parts.0,
    )

-- the log in which the pending reaction is written is the one that contracts see
pub settled_log :
    (net : Network) (m : ℕ) (moment : Snapshot) (busy : Bool) (pending : Option Pending)
    (log more : List Stamped) (p : Pending) (c : CellState) (x : Stamped)
    → shown net m moment busy pending log ≡ c
    → pending ≡ Some p
    → more ≡ slice_set log p.place x
    → x ≡ decided net m moment p
    → more ≡ c.log
settled_log net m moment busy pending log more p c x view some set is =
    set
    ∙ ap (slice_set log p.place) is
    ∙ sym (ap (λ (o : Option Pending). filled net m moment o log) some)
    ∙ ap (λ (s : CellState). s.log) view

pub thawed_view :
    (net : Network) (m : ℕ) (moment after : Snapshot) (busy : Bool) (pending rest : Option Pending)
    (log more : List Stamped) (c : CellState)
    → shown net m moment busy pending log ≡ c
    → rest ≡ None
    → more ≡ c.log
    → shown net m after busy rest more ≡ record c { frozen = None }
thawed_view net m moment after busy pending rest log more c view none is =
    let whole : filled net m after rest more ≡ c.log =
    ap (λ (o : Option Pending). filled net m after o more) none ∙ is in
    λ i. record {
      net = (ap (λ (s : CellState). s.net) view) i;
      machine = (ap (λ (s : CellState). s.machine) view) i;
      log = whole i;
      busy = (ap (λ (s : CellState). s.busy) view) i;
      frozen = (ap (frozen_of after) none) i;
    }

-- where the pending reaction fires, it is the machine's last firing
pub settled_firing :
    (net : Network) (m : ℕ) (moment : Snapshot) (woken : Bool) (time : ℕ) (busy : Bool)
    (pending : Option Pending) (log : List Stamped) (p : Pending) (c : CellState) (stamp : ℕ)
    → IsCell net m moment woken time pending log
    → shown net m moment busy pending log ≡ c
    → pending ≡ Some p
    → stamp ≡ p.stamp
    → (outcome_in net m moment).fires ≡ true
    → firing_stamp c.machine c.log ≡ stamp
settled_firing net m moment woken time busy pending log p c stamp kept view some at fires =
    let last = (some_pending net m moment woken time pending log p some kept).last_is in
    sym (ap (λ (s : CellState). firing_stamp s.machine s.log) view)
    ∙ ap (λ (o : Option Pending). firing_stamp m (filled net m moment o log)) some
    ∙ last.1 fires
    ∙ sym at

-- the entry is a firing
abbrev pub fires_in : Stamped → Bool
fires_in x = fires_of x.entry
  where
    fires_of : Entry → Bool
    fires_of (Dep s m event code) = false
    fires_of (Rea m s o) = o.fires

-- a cell that has nothing pending isn't frozen
pub none_frozen :
    (net : Network) (m : ℕ) (moment : Snapshot) (busy : Bool) (pending : Option Pending)
    (log : List Stamped) (c : CellState) (frozen : ℕ × Snapshot)
    → shown net m moment busy pending log ≡ c
    → pending ≡ None
    → c.frozen ≡ Some frozen
    → ⊥
none_frozen net m moment busy pending log c frozen view none some =
    none-some frozen
    (ap (frozen_of moment) (sym none) ∙ ap (λ (s : CellState). s.frozen) view ∙ some)
