-- Laws of the definitions.
use Rattle.std.specs.Prelude.{◌≡◌, ◌↔◌, ◌⊎◌, ℕ, ◌+◌, ◌<◌, ◌≤◌, Bool, cond, ◌&&◌, ◌==◌, nat_lt, List, [], ◌∷◌, ◌++◌, map, filter, filter_map, length, take, replicate, slice_get, slice_set, find, Some, IsTrue}
use Rattle.std.specs.List.{list_all}
use Rattle.polis_base.specs.Lists.{head_of, upto, Begins}
use Rattle.transition_table.specs.declared.decl.Party.{Party}
use Rattle.transition_table.specs.declared.decl.Party.TheVariants.{Env, Machine as Sender}
use Rattle.transition_table.specs.declared.machine.Machine.{Machine}
use Rattle.transition_table.specs.declared.network.Network.{Network}
use Rattle.transition_table.specs.declared.snapshot.Snapshot.{Snapshot}
use Rattle.transition_table.specs.Transitions.{OfMachine, Transition, AreDeterministic, IsSnapshot}
use Rattle.journals.specs.declared.entry.Entry.{Entry}
use Rattle.journals.specs.declared.entry.Entry.TheVariants.{Dep}
use Rattle.journals.specs.declared.entry.Owed.{Owed}
use Rattle.journals.specs.declared.entry.Pick.TheVariants.{Stop}
use Rattle.journals.specs.declared.entry.TraceItem.{TraceItem}
use Rattle.journals.specs.declared.entry.TraceItem.TheVariants.{Event, Settle}
use Rattle.journals.specs.declared.stamped.Stamped.{Stamped}
use Rattle.journals.specs.Alone.{IsAlone, LegalAlone, MayAppend}
use Rattle.journals.specs.Cursors.{cursor, cursors_after, settled_at}
use Rattle.journals.specs.Journals.{FitsNetwork, IsJournal, IsTrace, event_of, delivered, is_event_code, is_party, is_woken, reads, same_party, sent, snap}
use Rattle.journals.specs.Legality.{Legal, MayFollow, MayFollowIfReaction, Complete}
use Rattle.journals.specs.Logs.{entries, of_machine}
use Rattle.journals.specs.Moved.{SuitsMachine, codes_after, is_dep, machine_of, moments_of}
use Rattle.journals.specs.Reactions.{outcome_on, reaction}
use Rattle.journals.specs.Schedules.{Follows, IsPicked, IsSchedule, OwesNothing, deliveries_of, event_code, firing_deliveries, is_way, left_by, machine_deliveries, owed_by_env, owed_by_machines, pick, trace_deliveries}

-- each prefix of a legal journal is legal
abbrev pub PrefixesAreLegal : Type 0
PrefixesAreLegal =
    (net : Network) (trace : List TraceItem) (prefix rest : List Entry)
    → Legal net trace (prefix ++ rest)
    → Legal net trace prefix

-- a journal that is one entry longer is legal exactly where the entry fits and may follow
abbrev pub GoesOnBySteps : Type 0
GoesOnBySteps =
    (net : Network) (trace : List TraceItem) (journal : List Entry) (entry : Entry)
    → Legal net trace (journal ++ entry ∷ [])
    ↔ (Legal net trace journal × FitsNetwork net entry × MayFollow net trace journal entry)

-- after a legal journal the first delivery that machines owe may follow
abbrev pub FirstOfMachinesMayFollow : Type 0
FirstOfMachinesMayFollow =
    (net : Network) (trace : List TraceItem) (journal : List Entry) (d : Owed)
    → Legal net trace journal
    → head_of (owed_by_machines net journal) ≡ Some d
    → MayFollow net trace journal (Dep d.from d.to d.event d.code)

-- and so may the first that the environment owes, whether or not it is held back
abbrev pub FirstOfEnvMayFollow : Type 0
FirstOfEnvMayFollow =
    (net : Network) (trace : List TraceItem) (journal : List Entry) (d : Owed) (settled : Bool)
    → Legal net trace journal
    → head_of (owed_by_env net trace journal) ≡ Some (d, settled)
    → MayFollow net trace journal (Dep d.from d.to d.event d.code)

-- after a journal of the network the first delivery that machines owe fits it
abbrev pub FirstOfMachinesFits : Type 0
FirstOfMachinesFits =
    (net : Network) (journal : List Entry) (d : Owed)
    → IsJournal net journal
    → head_of (owed_by_machines net journal) ≡ Some d
    → FitsNetwork net (Dep d.from d.to d.event d.code)

-- on a trace of the network so does the first that the environment owes
abbrev pub FirstOfEnvFits : Type 0
FirstOfEnvFits =
    (net : Network) (trace : List TraceItem) (journal : List Entry) (d : Owed) (settled : Bool)
    → IsTrace net trace
    → head_of (owed_by_env net trace journal) ≡ Some (d, settled)
    → FitsNetwork net (Dep d.from d.to d.event d.code)

-- after a journal of the network the snapshot of each machine is one of its snapshots
abbrev pub SnapFits : Type 0
SnapFits =
    (net : Network) (journal : List Entry) (m : ℕ)
    → IsJournal net journal
    → m < length net.machines
    → OfMachine net m (λ machine. IsSnapshot machine (snap net journal m))

-- after a legal journal the scheduler stops exactly where the journal is complete
abbrev pub StopsWhereComplete : Type 0
StopsWhereComplete =
    (net : Network) (trace : List TraceItem) (journal : List Entry)
    → Legal net trace journal
    → (pick net trace journal ≡ Stop) ↔ Complete net trace journal

-- what is picked after a legal journal may follow it
abbrev pub PickedMayFollow : Type 0
PickedMayFollow =
    (net : Network) (trace : List TraceItem) (journal : List Entry) (entry : Entry)
    → Legal net trace journal
    → IsPicked net journal (pick net trace journal) entry
    → MayFollow net trace journal entry

-- on a trace of the network what is picked after a journal of the network fits the network
abbrev pub PickedFits : Type 0
PickedFits =
    (net : Network) (trace : List TraceItem) (journal : List Entry) (entry : Entry)
    → IsTrace net trace
    → IsJournal net journal
    → IsPicked net journal (pick net trace journal) entry
    → FitsNetwork net entry

-- where what is picked fits the network, the journal with it is legal
abbrev pub PickedIsLegal : Type 0
PickedIsLegal =
    (net : Network) (trace : List TraceItem) (journal : List Entry) (entry : Entry)
    → Legal net trace journal
    → IsPicked net journal (pick net trace journal) entry
    → FitsNetwork net entry
    → Legal net trace (journal ++ entry ∷ [])

-- from a place on, a journal that is one entry longer follows the picks exactly where the journal
-- does and the entry is what is picked after it
abbrev pub FollowsBySteps : Type 0
FollowsBySteps =
    (net : Network) (trace : List TraceItem) (journal : List Entry) (entry : Entry) (a : ℕ)
    → a ≤ length journal
    → Follows net trace (journal ++ entry ∷ []) a
    ↔ (Follows net trace journal a × IsPicked net journal (pick net trace journal) entry)

-- from its end on each journal follows the picks
abbrev pub FollowsAtEnd : Type 0
FollowsAtEnd =
    (net : Network) (trace : List TraceItem) (journal : List Entry)
    → Follows net trace journal (length journal)

-- on a trace of the network, a journal that follows the picks after a legal prefix is legal
abbrev pub FollowingIsLegal : Type 0
FollowingIsLegal =
    (net : Network) (trace : List TraceItem) (journal : List Entry) (a : ℕ)
    → IsTrace net trace
    → Legal net trace (take a journal)
    → Follows net trace journal a
    → Legal net trace journal

-- a deterministic network has on a trace of it one journal at most that is the scheduler's of n
-- entries, or of fewer where it stops
abbrev pub OneSchedule : Type 0
OneSchedule =
    (net : Network) (trace : List TraceItem) (n : ℕ) (j k : List Entry)
    → AreDeterministic net
    → IsTrace net trace
    → IsSchedule net trace n j
    → IsSchedule net trace n k
    → j ≡ k

-- ---- one entry more

-- after the empty journal the places of a machine are empty, and its state variables have their
-- first values
abbrev pub FirstMoment : Type 0
FirstMoment =
    (net : Network) (m : ℕ) (machine : Machine) (s : Snapshot)
    → slice_get net.machines m ≡ Some machine
    → s.codes
    ≡ replicate (length machine.inputs) 0 ++ map (λ variable. variable.init) machine.states
    → s ≡ snap net [] m

-- what one entry more makes of the snapshot of its machine
abbrev pub MovesMoment : Type 0
MovesMoment =
    (net : Network) (machine : Machine) (journal : List Entry) (entry : Entry) (s before : Snapshot)
    → slice_get net.machines (machine_of entry) ≡ Some machine
    → before ≡ snap net journal (machine_of entry)
    → s.codes ≡ codes_after machine entry before.codes
    → s ≡ snap net (journal ++ entry ∷ []) (machine_of entry)

-- the snapshots of the other machines stay
abbrev pub KeepsMoments : Type 0
KeepsMoments =
    (net : Network) (journal : List Entry) (entry : Entry) (m : ℕ)
    → (machine_of entry ≡ m → ⊥)
    → snap net (journal ++ entry ∷ []) m ≡ snap net journal m

-- so the table of all snapshots changes at one place
abbrev pub MovesMoments : Type 0
MovesMoments =
    (net : Network) (journal : List Entry) (entry : Entry) (s : Snapshot)
    → machine_of entry < length net.machines
    → s ≡ snap net (journal ++ entry ∷ []) (machine_of entry)
    → slice_set (moments_of net journal) (machine_of entry) s
    ≡ moments_of net (journal ++ entry ∷ [])

-- what one entry more makes of whether a machine is woken
abbrev pub MovesWaking : Type 0
MovesWaking =
    (journal : List Entry) (entry : Entry) (m : ℕ)
    → is_woken (journal ++ entry ∷ []) m
    ≡ cond (machine_of entry == m) (is_dep entry) (is_woken journal m)

-- and of the table of the woken machines
abbrev pub MovesWakings : Type 0
MovesWakings =
    (n : ℕ) (journal : List Entry) (entry : Entry)
    → machine_of entry < n
    → slice_set (map (is_woken journal) (upto n)) (machine_of entry) (is_dep entry)
    ≡ map (is_woken (journal ++ entry ∷ [])) (upto n)

-- what one entry more makes of the cursors into the trace
abbrev pub MovesCursors : Type 0
MovesCursors =
    (net : Network) (trace : List TraceItem) (journal : List Entry) (entry : Entry)
    → FitsNetwork net entry
    → Legal net trace journal
    → MayFollow net trace journal entry
    → cursors_after net trace entry (map (cursor net trace journal) (upto (length net.machines)))
    ≡ map (cursor net trace (journal ++ entry ∷ [])) (upto (length net.machines))

-- what one entry more makes of the deliveries that machines owe: a firing adds its own, and a
-- delivery takes the first of its way away
abbrev pub MovesOwed : Type 0
MovesOwed =
    (net : Network) (trace : List TraceItem) (journal : List Entry) (entry : Entry)
    → Legal net trace journal
    → owed_by_machines net (journal ++ entry ∷ [])
    ≡ left_by entry (owed_by_machines net journal ++ firing_deliveries net entry)

-- a snapshot has one code for each input and state variable
abbrev pub SnapWidth : Type 0
SnapWidth =
    (net : Network) (m : ℕ) (machine : Machine) (journal : List Entry)
    → slice_get net.machines m ≡ Some machine
    → length (snap net journal m).codes ≡ length machine.inputs + length machine.states

-- an entry that fits the network has an outcome of its machine's widths, if it has one
abbrev pub FittingSuits : Type 0
FittingSuits =
    (net : Network) (machine : Machine) (entry : Entry)
    → FitsNetwork net entry
    → slice_get net.machines (machine_of entry) ≡ Some machine
    → SuitsMachine machine entry

-- ---- each machine by its own entries

-- the snapshot of a machine reads only the machine's own entries
abbrev pub SnapByOwn : Type 0
SnapByOwn =
    (net : Network) (m : ℕ) (journal : List Entry)
    → snap net (filter (of_machine m) journal) m ≡ snap net journal m

-- so does its waking
abbrev pub WokenByOwn : Type 0
WokenByOwn =
    (m : ℕ) (journal : List Entry)
    → is_woken (filter (of_machine m) journal) m ≡ is_woken journal m

-- what was delivered to it
abbrev pub DeliveredByOwn : Type 0
DeliveredByOwn =
    (s : Party) (m : ℕ) (journal : List Entry)
    → delivered s m (filter (of_machine m) journal) ≡ delivered s m journal

-- and what it has sent
abbrev pub SentByOwn : Type 0
SentByOwn =
    (net : Network) (trace : List TraceItem) (s m : ℕ) (journal : List Entry)
    → sent net trace (Sender s) m (filter (of_machine s) journal)
    ≡ sent net trace (Sender s) m journal

-- ---- what is given

-- the deliveries that the firings of s give to m are what s has sent to m
abbrev pub FiringsGiveSent : Type 0
FiringsGiveSent =
    (net : Network) (trace : List TraceItem) (s m : ℕ) (journal : List Entry)
    → map event_code (filter (is_way (Sender s) m) (machine_deliveries net journal))
    ≡ sent net trace (Sender s) m journal

-- the deliveries that items of the trace give to m are those of their events that it reads
abbrev pub TraceGivesSent : Type 0
TraceGivesSent =
    (net : Network) (m : ℕ) (settled : Bool) (items : List TraceItem)
    → map (λ (p : Owed × Bool). event_code p.0)
    (filter (λ (p : Owed × Bool). is_way Env m p.0) (trace_deliveries net settled items))
    ≡ filter (λ p. reads net m p.0) (filter_map event_of items)

-- the delivery is from a party to a machine that reads its event, with a code of it
abbrev pub may_arrive : Network → Owed → Bool
may_arrive net d =
    is_party net d.from && nat_lt d.to (length net.machines) && is_event_code net d.event d.code
    && reads net d.to d.event

-- so are all deliveries that an entry of the network gives
abbrev pub GivenMayArrive : Type 0
GivenMayArrive =
    (net : Network) (entry : Entry)
    → FitsNetwork net entry
    → IsTrue (list_all (may_arrive net) (firing_deliveries net entry))

-- and those that a trace of it gives
abbrev pub TraceMayArrive : Type 0
TraceMayArrive =
    (net : Network) (settled : Bool) (trace : List TraceItem)
    → IsTrace net trace
    → IsTrue
    (list_all (may_arrive net)
    (map (λ (p : Owed × Bool). p.0) (trace_deliveries net settled trace)))

-- so are all deliveries that an event of the environment gives
abbrev pub EnvMayArrive : Type 0
EnvMayArrive =
    (net : Network) (e c : ℕ)
    → IsTrue (is_event_code net e c)
    → IsTrue (list_all (may_arrive net) (deliveries_of net Env (e, c)))

-- the sender of what an entry gives is its machine
abbrev pub GivenByMachine : Type 0
GivenByMachine =
    (net : Network) (entry : Entry)
    → IsTrue
    (list_all (λ d. same_party d.from (Sender (machine_of entry))) (firing_deliveries net entry))

-- and that of what the trace gives is the environment
abbrev pub GivenByEnv : Type 0
GivenByEnv =
    (net : Network) (settled : Bool) (trace : List TraceItem)
    → IsTrue
    (list_all (λ (p : Owed × Bool). same_party p.0.from Env) (trace_deliveries net settled trace))

-- ---- what was sent and delivered

-- what a legal journal delivers from a party to a machine is a prefix of what was sent
abbrev pub DeliveredBeginsSent : Type 0
DeliveredBeginsSent =
    (net : Network) (trace : List TraceItem) (s : Party) (m : ℕ) (journal : List Entry)
    → Legal net trace journal
    → Begins (delivered s m journal) (sent net trace s m journal)

-- and a delivery may follow it exactly where it is the next of what was sent
abbrev pub NextMayFollow : Type 0
NextMayFollow =
    (net : Network) (trace : List TraceItem) (journal : List Entry) (s : Party) (m e c : ℕ)
    → Legal net trace journal
    → MayFollow net trace journal (Dep s m e c)
    ↔ (slice_get (sent net trace s m journal) (length (delivered s m journal)) ≡ Some (e, c))

-- a delivery of a machine exactly where it is the first owed one of its way
abbrev pub FirstOfWayMayFollow : Type 0
FirstOfWayMayFollow =
    (net : Network) (trace : List TraceItem) (journal : List Entry) (s m e c : ℕ)
    → Legal net trace journal
    → MayFollow net trace journal (Dep (Sender s) m e c)
    ↔ (find (is_way (Sender s) m) (owed_by_machines net journal)
    ≡ Some (record { from = Sender s; to = m; event = e; code = c }))

-- one of the environment exactly where its item is that of the receiver's cursor
abbrev pub AtCursorMayFollow : Type 0
AtCursorMayFollow =
    (net : Network) (trace : List TraceItem) (journal : List Entry) (m e c : ℕ)
    → Legal net trace journal
    → MayFollow net trace journal (Dep Env m e c)
    ↔ (slice_get trace (cursor net trace journal m) ≡ Some (Event e c))

-- the item of the first of the least cursors is the first delivery that the environment owes, and
-- it is held back exactly where the item before it is `settle`
abbrev pub FirstOfCursors : Type 0
FirstOfCursors =
    (net : Network) (trace : List TraceItem) (journal : List Entry) (m e c : ℕ)
    → ((k : ℕ) → k < length net.machines → cursor net trace journal m ≤ cursor net trace journal k)
    → ((k : ℕ) → k < m → cursor net trace journal m < cursor net trace journal k)
    → slice_get trace (cursor net trace journal m) ≡ Some (Event e c)
    → head_of (owed_by_env net trace journal)
    ≡ Some (
      record { from = Env; to = m; event = e; code = c },
      settled_at trace
          (cursor net trace journal m),
    )

-- where each cursor is at the trace's end the environment owes nothing
abbrev pub NoneAtEnds : Type 0
NoneAtEnds =
    (net : Network) (trace : List TraceItem) (journal : List Entry)
    → ((k : ℕ) → k < length net.machines → length trace ≤ cursor net trace journal k)
    → owed_by_env net trace journal ≡ []

-- no cursor stands at a `settle` item
abbrev pub EventsAtCursors : Type 0
EventsAtCursors =
    (net : Network) (trace : List TraceItem) (journal : List Entry) (m : ℕ)
    → slice_get trace (cursor net trace journal m) ≡ Some Settle
    → ⊥

-- a legal journal is complete exactly where nothing is owed and no machine is woken
abbrev pub CompleteOwesNothing : Type 0
CompleteOwesNothing =
    (net : Network) (trace : List TraceItem) (journal : List Entry)
    → Legal net trace journal
    → Complete net trace journal ↔ OwesNothing net trace journal

-- ---- reactions

-- what the rows give is a transition
abbrev pub GivesTransition : Type 0
GivesTransition = (m : Machine) (s : Snapshot) → Transition m s (outcome_on m s)

-- so after a journal of the network the reaction that they give fits the network
abbrev pub ReactionFits : Type 0
ReactionFits =
    (net : Network) (m : ℕ) (journal : List Entry)
    → IsJournal net journal
    → m < length net.machines
    → FitsNetwork net (reaction net m journal)

-- On a trace of the network a legal journal can be carried on by the picks, by n entries or by
-- fewer where the scheduler stops.
abbrev pub GoesOnByPicks : Type 0
GoesOnByPicks =
    (net : Network) (trace : List TraceItem) (journal : List Entry) (n : ℕ)
    → IsTrace net trace
    → Legal net trace journal
    → (more : List Entry)
    × Legal net trace (journal ++ more)
    × Follows net trace (journal ++ more) (length journal)
    × ((length more ≡ n) ⊎ ((length more < n) × (pick net trace (journal ++ more) ≡ Stop)))

-- so there is a schedule of every length, and it is legal
abbrev pub ScheduleOfLength : Type 0
ScheduleOfLength =
    (net : Network) (trace : List TraceItem) (n : ℕ)
    → IsTrace net trace
    → (journal : List Entry) × IsSchedule net trace n journal × Legal net trace journal

-- ---- legal by itself

-- In a journal that is legal by itself for the machine of an entry, the entry may follow those
-- before it if it is a reaction: that rests on its machine's own entries alone, whatever was
-- delivered elsewhere. So where the deliveries may follow too, the journal is legal.
abbrev pub ReactsByOwn : Type 0
ReactsByOwn =
    (net : Network) (trace : List TraceItem) (prefix : List Entry) (entry : Entry)
    (rest : List Entry)
    → IsAlone net (machine_of entry) (prefix ++ entry ∷ rest)
    → MayFollowIfReaction net trace prefix entry

-- each prefix of a journal that is legal by itself is so
abbrev pub PrefixesAreAlone : Type 0
PrefixesAreAlone =
    (net : Network) (m : ℕ) (prefix rest : List Entry)
    → IsAlone net m (prefix ++ rest)
    → IsAlone net m prefix

-- a log that is one entry longer is legal by itself exactly where the log is and the entry may come
-- after it
abbrev pub AloneBySteps : Type 0
AloneBySteps =
    (net : Network) (m : ℕ) (log : List Stamped) (x : Stamped)
    → LegalAlone net m (log ++ x ∷ []) ↔ (LegalAlone net m log × MayAppend net m log x)

-- where the entries of m in a journal are those of a log that is legal by itself, the journal is so
-- for m
abbrev pub LogIsAlone : Type 0
LogIsAlone =
    (net : Network) (m : ℕ) (journal : List Entry) (log : List Stamped)
    → filter (of_machine m) journal ≡ entries log
    → LegalAlone net m log
    → IsAlone net m journal

-- a journal that is legal by itself for each machine is one of the network
abbrev pub AloneFits : Type 0
AloneFits =
    (net : Network) (journal : List Entry)
    → ((m : ℕ) → IsAlone net m journal)
    → IsJournal net journal
