-- The reactions of machines, counted.
use Rattle.std.specs.Prelude.{◌≡◌, ℕ, ◌+◌, ◌*◌, ◌^◌, ◌<◌, ◌≤◌, List, length, slice_get, Some}
use Rattle.transition_table.specs.declared.machine.Machine.{Machine}
use Rattle.transition_table.specs.declared.network.Network.{Network}
use Rattle.transition_table.specs.Transitions.{HasWidths}
use Rattle.journals.specs.declared.entry.Entry.{Entry}
use Rattle.task_code.specs.declared.instr.Instr.{Instr}
use Rattle.task_code.specs.declared.limits.TheConstants.{CODE_MAX}
use Rattle.machine_compiler.specs.declared.tallies.Tally.{Tally}
use Rattle.machine_compiler.specs.Lines.{reactions_of, steps_on}

-- a tally of these reactions of a machine, none of which executes an instruction twice
pub record IsTally (m : Machine) (code : List Instr) (reactions : List (List ℕ)) (t : Tally) :
    Type 0 where
  pub widths : HasWidths m t.outcome
  pub tries : t.tries ≡ length reactions
  pub steps : t.steps ≡ steps_on code reactions
  pub few : t.steps ≤ CODE_MAX * t.tries

-- one for each machine, of its reactions in the journal
pub record AreTallies (net : Network) (all : List (List Instr)) (journal : List Entry)
    (tallies : List Tally) : Type 0 where
  pub long : length tallies ≡ length net.machines
  pub each :
      (k : ℕ) (m : Machine) (code : List Instr) (t : Tally)
      → slice_get net.machines k ≡ Some m
      → slice_get all k ≡ Some code
      → slice_get tallies k ≡ Some t
      → IsTally m code (reactions_of k journal) t

-- the numbers leave room for one more reaction
abbrev pub AreFew : List Tally → Type 0
AreFew tallies =
    (k : ℕ) (t : Tally) → slice_get tallies k ≡ Some t
    → (t.tries + 1 < 2 ^ 64) × (t.steps < 2 ^ 62)
