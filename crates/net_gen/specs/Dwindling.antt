-- Networks in which each delivery leads to less than itself, so that each run comes to an end.
use Rattle.std.specs.Prelude.{◌≡◌, ℕ, zero, suc, ◌+◌, ◌*◌, ◌<◌, ◌≤◌, List, [], ◌∷◌, length, slice_get, Some, IsTrue}
use Rattle.transition_table.specs.Transitions.{reading, IsSnapshot, Transition}
use Rattle.transition_table.specs.declared.decl.Party.{Party}
use Rattle.transition_table.specs.declared.decl.Party.TheVariants.{Env}
use Rattle.transition_table.specs.declared.machine.Machine.{Machine}
use Rattle.transition_table.specs.declared.network.Network.{Network}
use Rattle.transition_table.specs.declared.snapshot.Snapshot.{Snapshot}
use Rattle.transition_table.specs.declared.snapshot.Outcome.{Outcome}
use Rattle.journals.specs.declared.entry.Entry.{Entry}
use Rattle.journals.specs.declared.entry.Entry.TheVariants.{Dep, Rea}
use Rattle.journals.specs.declared.entry.Owed.{Owed}
use Rattle.journals.specs.declared.entry.TraceItem.{TraceItem}
use Rattle.journals.specs.Journals.{IsTrace, is_event_code, sent, snap}
use Rattle.journals.specs.Legality.{Complete, Legal}
use Rattle.journals.specs.Moved.{codes_after}
use Rattle.journals.specs.Schedules.{IsSchedule, firing_deliveries}

-- what a delivery of this event with this code may lead to
abbrev pub Load : Type 0
Load = ℕ → ℕ → ℕ

-- each delivery weighs one more than what it may lead to
abbrev pub weight : Load → List Owed → ℕ
weight load [] = 0
weight load (d ∷ ds) = suc (load d.event d.code) + weight load ds

-- f 0 + f 1 + .. + f (n - 1)
abbrev pub sum_below : (ℕ → ℕ) → ℕ → ℕ
sum_below f zero = 0
sum_below f (suc n) = sum_below f n + f n

-- How many deliveries a trace makes: each event counts once for each machine that reads it.
abbrev pub arrivals : Network → List TraceItem → ℕ
arrivals net trace = sum_below (λ m. length (sent net trace Env m [])) (length net.machines)

-- No reaction sends more than what the codes of its machine's snapshot may lead to, which is
-- `held`, and a delivery adds at most its load to that.
pub record Dwindles (net : Network) (load : Load) (held : ℕ → List ℕ → ℕ) : Type 0 where
  pub fresh :
      (m : ℕ) (machine : Machine) → slice_get net.machines m ≡ Some machine
      → held m (snap net [] m).codes ≡ 0
  pub light : (e c : ℕ) → IsTrue (is_event_code net e c) → load e c ≤ 8
  pub brought :
      (m e c : ℕ) (machine : Machine) (s : Party) (codes : List ℕ)
      → slice_get net.machines m ≡ Some machine
      → IsSnapshot machine (reading codes)
      → IsTrue (is_event_code net e c)
      → held m (codes_after machine (Dep s m e c) codes) ≤ held m codes + load e c
  pub reacted :
      (m : ℕ) (machine : Machine) (s : Snapshot) (o : Outcome)
      → slice_get net.machines m ≡ Some machine
      → IsSnapshot machine s
      → Transition machine s o
      → held m (codes_after machine (Rea m s o) s.codes)
      + weight load (firing_deliveries net (Rea m s o))
      ≤ held m s.codes

-- A legal journal of such a network has at most 18 entries for each delivery of the trace: one from
-- the environment weighs 9 at most, so with it there are 9 deliveries at most, and each wakes one
-- machine once.
abbrev pub DwindlingEnds : Type 0
DwindlingEnds =
    (net : Network) (trace : List TraceItem) (load : Load) (held : ℕ → List ℕ → ℕ)
    (journal : List Entry)
    → Dwindles net load held
    → Legal net trace journal
    → length journal ≤ 18 * arrivals net trace

-- so the scheduler's journal is complete where more entries than that are allowed
abbrev pub DwindlingCompletes : Type 0
DwindlingCompletes =
    (net : Network) (trace : List TraceItem) (load : Load) (held : ℕ → List ℕ → ℕ)
    (limit : ℕ) (journal : List Entry)
    → Dwindles net load held
    → IsTrace net trace
    → 18 * arrivals net trace < limit
    → IsSchedule net trace limit journal
    → Complete net trace journal
