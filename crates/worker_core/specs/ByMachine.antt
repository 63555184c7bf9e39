-- What a step does to the machines that it touches, and that it leaves the others alone.
use Rattle.std.specs.Prelude.{◌≡◌, ℕ, List, [], ◌∷◌, ◌++◌, Some, None, IsTrue}
use Rattle.transition_table.specs.declared.network.Network.{Network}
use Rattle.journals.specs.declared.entry.Owed.{Owed}
use Rattle.journals.specs.declared.entry.TraceItem.{TraceItem}
use Rattle.journals.specs.declared.stamped.CoreStep.TheVariants.{React, Land, Free}
use Rattle.worker_core.specs.declared.state.Hand.{Hand}
use Rattle.worker_core.specs.Cores.{CoreState, log_of, hand_of, may_react, reacting, hand_after, may_land, landing, take_step}
use Rattle.worker_core.specs.Facts.{IsCore}

-- the logs of the other machines stay
abbrev pub OtherLogsStay : CoreState → CoreState → ℕ → Type 0
OtherLogsStay state next m = (k : ℕ) → (k ≡ m → ⊥) → log_of next k ≡ log_of state k

-- what the other machines have in hand stays
abbrev pub OtherHandsStay : CoreState → CoreState → ℕ → Type 0
OtherHandsStay state next m = (k : ℕ) → (k ≡ m → ⊥) → hand_of next k ≡ hand_of state k

-- m reacts: it may by its own log and hand, and only they change
pub record ReactsAlone (net : Network) (state next : CoreState) (m : ℕ) : Type 0 where
  pub may : IsTrue (may_react m (log_of state m) (hand_of state m))
  pub log : log_of next m ≡ log_of state m ++ reacting net m (log_of state m) ∷ []
  pub hand : hand_of next m ≡ hand_after net (reacting net m (log_of state m))
  pub other_logs : OtherLogsStay state next m
  pub other_hands : OtherHandsStay state next m
  pub rest : next.rest ≡ state.rest

-- the first delivery in the hand of s lands: it may by its receiver's log, and only that log and
-- that hand change
pub record LandsAlone (state next : CoreState) (s : ℕ) : Type 0 where
  pub first : Owed
  pub left : Hand
  pub held : hand_of state s ≡ Some
      (record { stamp = left.stamp; deliveries = first ∷ left.deliveries })
  pub may : IsTrue (may_land (log_of state first.to) left.stamp)
  pub log : log_of next first.to ≡ log_of state first.to ++ landing
      (log_of state first.to) left.stamp first ∷ []
  pub hand : hand_of next s ≡ Some left
  pub other_logs : OtherLogsStay state next first.to
  pub other_hands : OtherHandsStay state next s
  pub rest : next.rest ≡ state.rest

-- s has an empty hand, and is no longer busy
pub record FreesAlone (state next : CoreState) (s : ℕ) : Type 0 where
  pub stamp : ℕ
  pub empty : hand_of state s ≡ Some (record { stamp = stamp; deliveries = [] })
  pub hand : hand_of next s ≡ None
  pub logs : next.logs ≡ state.logs
  pub other_hands : OtherHandsStay state next s
  pub rest : next.rest ≡ state.rest

-- so each step but a feeding is told by the log and the hand of one machine, and the log of a
-- receiver
abbrev pub ReactsByMachine : Type 0
ReactsByMachine =
    (net : Network) (trace : List TraceItem) (state next : CoreState) (m : ℕ)
    → IsCore net trace state
    → take_step net state (React m) ≡ Some next
    → ReactsAlone net state next m

abbrev pub LandsByMachine : Type 0
LandsByMachine =
    (net : Network) (trace : List TraceItem) (state next : CoreState) (s : ℕ)
    → IsCore net trace state
    → take_step net state (Land s) ≡ Some next
    → LandsAlone state next s

abbrev pub FreesByMachine : Type 0
FreesByMachine =
    (net : Network) (trace : List TraceItem) (state next : CoreState) (s : ℕ)
    → IsCore net trace state
    → take_step net state (Free s) ≡ Some next
    → FreesAlone state next s
