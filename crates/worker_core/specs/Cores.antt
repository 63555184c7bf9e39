-- The core: its state and its steps.
use Rattle.std.specs.Prelude.{ℕ, ◌+◌, max, Bool, false, ◌&&◌, nat_lt, is_none, List, [], ◌∷◌, ◌++◌, map, length, get_or, set, replicate, Option, Some, None, unwrap_or}
use Rattle.std.specs.Bool.{then_some}
use Rattle.transition_table.specs.declared.network.Network.{Network}
use Rattle.journals.specs.declared.entry.Entry.{Entry}
use Rattle.journals.specs.declared.entry.Entry.TheVariants.{Dep}
use Rattle.journals.specs.declared.entry.Owed.{Owed}
use Rattle.journals.specs.declared.entry.TraceItem.{TraceItem}
use Rattle.journals.specs.declared.stamped.Stamped.{Stamped}
use Rattle.journals.specs.declared.stamped.CoreStep.{CoreStep}
use Rattle.journals.specs.declared.stamped.CoreStep.TheVariants.{React, Land, Free, Feed}
use Rattle.journals.specs.Journals.{is_woken}
use Rattle.journals.specs.Logs.{max_stamp, entries, clock}
use Rattle.journals.specs.Reactions.{reaction}
use Rattle.journals.specs.Schedules.{firing_deliveries, trace_deliveries}
use Rattle.worker_core.specs.declared.state.Hand.{Hand}

-- ---- on one machine

-- m, with this log and this hand, isn't busy and has a delivery after its last reaction, and a
-- stamp is left
abbrev pub may_react : ℕ → List Stamped → Option Hand → Bool
may_react m log hand = is_none hand && is_woken (entries log) m && nat_lt (clock log) max_stamp

-- its reaction, to what its own log says
abbrev pub reacting : Network → ℕ → List Stamped → Stamped
reacting net m log = record { stamp = clock log + 1; entry = reaction net m (entries log) }

-- in hand are these deliveries of the firing of this stamp, if there are any
abbrev pub taken_up : ℕ → List Owed → Option Hand
taken_up stamp [] = None
taken_up stamp (d ∷ ds) = Some (record { stamp = stamp; deliveries = d ∷ ds })

-- in hand is what the reaction gives
abbrev pub hand_after : Network → Stamped → Option Hand
hand_after net x = taken_up x.stamp (firing_deliveries net x.entry)

-- a stamp is left for a landing in this log
abbrev pub may_land : List Stamped → ℕ → Bool
may_land log stamp = nat_lt (max (clock log) stamp) max_stamp

abbrev pub delivering : Owed → Entry
delivering d = Dep d.from d.to d.event d.code

-- The delivery as it lands in this log: its stamp is above the log's clock and above the stamp
-- of the firing, which is 0 for the environment.
abbrev pub landing : List Stamped → ℕ → Owed → Stamped
landing log stamp d = record { stamp = max (clock log) stamp + 1; entry = delivering d }

-- ---- on all machines

-- a log for each machine, for each machine what it has in hand if it is busy, and what the
-- environment is still to deliver
pub record CoreState : Type 0 where
  pub logs : List (List Stamped)
  pub hands : List (Option Hand)
  pub rest : List Owed

abbrev pub log_of : CoreState → ℕ → List Stamped
log_of state m = get_or state.logs m []

abbrev pub hand_of : CoreState → ℕ → Option Hand
hand_of state m = get_or state.hands m None

-- no machine has an entry or is busy, and the environment is to make each of its deliveries
abbrev pub at_start : Network → List TraceItem → CoreState
at_start net trace = record {
  logs = replicate (length net.machines) [];
  hands = replicate (length net.machines) None;
  rest = map (λ d. d.0) (trace_deliveries net false trace);
}

-- the logs with one entry more in m's
abbrev pub with_entry : CoreState → ℕ → Stamped → List (List Stamped)
with_entry state m x = set state.logs m (log_of state m ++ x ∷ [])

abbrev pub reacted : Network → CoreState → ℕ → CoreState
reacted net state m =
    let x = reacting net m (log_of state m) in
    record state { logs = with_entry state m x; hands = set state.hands m (hand_after net x) }

abbrev pub landed : CoreState → ℕ → ℕ → List Owed → Option CoreState
landed state s stamp [] = None
landed state s stamp (d ∷ ds) =
    then_some (may_land (log_of state d.to) stamp)
    (record state {
      logs = with_entry state d.to (landing (log_of state d.to) stamp d);
      hands = set state.hands s (Some (record { stamp = stamp; deliveries = ds }));
    })

abbrev pub land : CoreState → ℕ → Option Hand → Option CoreState
land state s None = None
land state s (Some hand) = landed state s hand.stamp hand.deliveries

abbrev pub freed : CoreState → ℕ → List Owed → Option CoreState
freed state s [] = Some (record state { hands = set state.hands s None })
freed state s (d ∷ ds) = None

abbrev pub free : CoreState → ℕ → Option Hand → Option CoreState
free state s None = None
free state s (Some hand) = freed state s hand.deliveries

abbrev pub fed : CoreState → List Owed → Option CoreState
fed state [] = None
fed state (d ∷ ds) =
    then_some (may_land (log_of state d.to) 0)
    (record state { logs = with_entry state d.to (landing (log_of state d.to) 0 d); rest = ds })

-- What becomes of the state by the step, if it can be taken. A machine that isn't there has no
-- entry and no hand, so it takes no step.
abbrev pub take_step : Network → CoreState → CoreStep → Option CoreState
take_step net state (React m) =
    then_some (may_react m (log_of state m) (hand_of state m)) (reacted net state m)
take_step net state (Land s) = land state s (hand_of state s)
take_step net state (Free s) = free state s (hand_of state s)
take_step net state Feed = fed state state.rest

-- the steps that can be taken are taken, in order
abbrev pub run_steps : Network → CoreState → List CoreStep → CoreState
run_steps net state [] = state
run_steps net state (step ∷ steps) =
    run_steps net (unwrap_or (take_step net state step) state) steps
