-- What is true of the core after any steps.
use Rattle.std.specs.Prelude.{◌≡◌, ℕ, Bool, true, cond, not, ◌&&◌, ◌||◌, nat_lt, nat_le, List, ◌∷◌, ◌++◌, map, filter, flat_map, length, drop, replicate, Option, Some, None, IsTrue, ⊤, []}
use Rattle.std.specs.List.{list_all}
use Rattle.polis_base.specs.Lists.{Begins}
use Rattle.transition_table.specs.declared.decl.Party.{Party}
use Rattle.transition_table.specs.declared.decl.Party.TheVariants.{Env, Machine as Sender}
use Rattle.transition_table.specs.declared.network.Network.{Network}
use Rattle.journals.specs.declared.entry.Entry.{Entry}
use Rattle.journals.specs.declared.entry.Entry.TheVariants.{Dep, Rea}
use Rattle.journals.specs.declared.entry.Owed.{Owed}
use Rattle.journals.specs.declared.entry.TraceItem.{TraceItem}
use Rattle.journals.specs.Journals.{same_party, is_firing_of, delivered, sent}
use Rattle.journals.specs.declared.stamped.Stamped.{Stamped}
use Rattle.worker_core.specs.declared.state.Hand.{Hand}
use Rattle.worker_core.specs.Cores.{CoreState, log_of, hand_of}
use Rattle.journals.specs.Logs.{entries}
use Rattle.journals.specs.Alone.{LegalAlone}
use Rattle.journals.specs.Laws.{may_arrive}
use Rattle.journals.specs.StampLaws.{AllLeastIn}
use Rattle.journals.specs.Stamps.{stamps_sent}
use Rattle.journals.specs.Schedules.{is_way, event_code}

-- the prefix of the log whose stamps are below t
abbrev pub stamped_below : ℕ → List Stamped → List Stamped
stamped_below t [] = []
stamped_below t (x ∷ xs) = cond (nat_lt x.stamp t) (x ∷ stamped_below t xs) []

-- the sender's log; the environment has none
abbrev pub log_of_party : (ℕ → List Stamped) → Party → List Stamped
log_of_party logs Env = []
log_of_party logs (Sender s) = logs s

-- A landing of this stamp after these entries of its receiver's log: what has landed with it is
-- a prefix of what its sender has sent by firings of smaller stamps. A reaction is no landing.
abbrev pub InTime : Network → List TraceItem → (ℕ → List Stamped) → List Entry → ℕ → Entry → Type 0
InTime net trace logs before t (Rea m s o) = ⊤
InTime net trace logs before t (Dep s m event code) =
    Begins (delivered s m (before ++ Dep s m event code ∷ []))
    (sent net trace s m (entries (stamped_below t (log_of_party logs s))))

-- each landing of the log is in time
abbrev pub AllInTime : Network → List TraceItem → (ℕ → List Stamped) → List Entry → List Stamped
    → Type 0
AllInTime net trace logs before [] = ⊤
AllInTime net trace logs before (x ∷ xs) =
    InTime net trace logs before x.stamp x.entry
    × AllInTime net trace logs (before ++ x.entry ∷ []) xs

-- what a machine that may be busy has in hand
abbrev pub deliveries_in : Option Hand → List Owed
deliveries_in None = []
deliveries_in (Some hand) = hand.deliveries

-- what a party has still to deliver
abbrev pub held_by : (ℕ → Option Hand) → List Owed → Party → List Owed
held_by hands rest Env = rest
held_by hands rest (Sender s) = deliveries_in (hands s)

-- of these deliveries those from s to m
abbrev pub on_way : Party → ℕ → List Owed → List (ℕ × ℕ)
on_way s m ds = map event_code (filter (is_way s m) ds)

-- no firing of m stands above the stamp in hand
abbrev pub is_last_firing : ℕ → List Stamped → Option Hand → Bool
is_last_firing m log None = true
is_last_firing m log (Some hand) =
    list_all (λ x. not (is_firing_of m x.entry) || nat_le x.stamp hand.stamp) log

-- no stamp in hand is above n
abbrev pub is_hand_within : ℕ → Option Hand → Bool
is_hand_within n None = true
is_hand_within n (Some hand) = nat_le hand.stamp n

-- the delivery of s fits the network, and its receiver reads the event
abbrev pub is_due : Network → Party → Owed → Bool
is_due net s d = same_party d.from s && may_arrive net d

-- the stamps of what s has sent to m and what hasn't landed
abbrev pub stamps_out : Network → (ℕ → List Stamped) → ℕ → ℕ → List ℕ
stamps_out net logs s m =
    drop (length (delivered (Sender s) m (entries (logs m)))) (stamps_sent net s m (logs s))

-- the stamp in hand, once for each delivery to m
abbrev pub stamps_held : Option Hand → ℕ → ℕ → List ℕ
stamps_held None s m = []
stamps_held (Some hand) s m = replicate (length (on_way (Sender s) m hand.deliveries)) hand.stamp

-- The facts over the machines' logs and hands, the rest, and the number n of all entries.
pub record CoreFacts (net : Network) (trace : List TraceItem) (logs : ℕ → List Stamped)
    (hands : ℕ → Option Hand) (rest : List Owed) (n : ℕ) : Type 0 where
  -- each log is legal by itself
  pub alone : (m : ℕ) → LegalAlone net m (logs m)
  -- a firing's stamp is below that of each of its landings
  pub in_time : (m : ℕ) → AllInTime net trace logs [] (logs m)
  -- for each sender and receiver, what has landed, and after it what is in hand or in the
  -- rest, is what was sent
  pub on_the_way : (s : Party) (m : ℕ)
      → delivered s m (entries (logs m)) ++ on_way s m (held_by hands rest s)
      ≡ sent net trace s m (entries (log_of_party logs s))
  -- only the last firing of a busy machine has anything in hand
  pub last_firing : (m : ℕ) → IsTrue (is_last_firing m (logs m) (hands m))
  -- what is in hand or in the rest fits the network and is for a machine that reads it
  pub due : (s : Party) → IsTrue (list_all (is_due net s) (held_by hands rest s))
  -- no stamp is above the number of all entries
  pub within : (m : ℕ) → IsTrue (list_all (λ x. nat_le x.stamp n) (logs m))
  pub hands_within : (m : ℕ) → IsTrue (is_hand_within n (hands m))
  -- each stamp is the least one above those before it in its log and above that of its origin
  pub least : (m : ℕ) → AllLeastIn net logs [] (logs m)
  -- what is on the way from a machine has the stamp in its hand
  pub held_stamps : (s m : ℕ) → stamps_out net logs s m ≡ stamps_held (hands s) s m

-- the number of all entries
abbrev pub count_entries : List (List Stamped) → ℕ
count_entries logs = length (flat_map (λ log. log) logs)

-- a core of the network on the trace
pub record IsCore (net : Network) (trace : List TraceItem) (state : CoreState) : Type 0 where
  pub logs : length state.logs ≡ length net.machines
  pub hands : length state.hands ≡ length net.machines
  pub facts : CoreFacts net trace (log_of state) (hand_of state) state.rest
      (count_entries state.logs)
