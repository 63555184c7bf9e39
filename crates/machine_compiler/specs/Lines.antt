-- Lines that say how large the parts of a network are, and how long its reactions take.
use Rattle.std.specs.Prelude.{◌≡◌, ℕ, suc, ◌==◌, ◌<◌, ◌≤◌, ◌^◌, ◌⊎◌, List, [], ◌∷◌, ◌++◌, map, filter_map, sum, length, slice_get, codes, decimal, Option, Some, None}
use Rattle.std.specs.Bool.{then_some}
use Rattle.polis_base.specs.declared.limits.TheConstants.{ENTRIES_MAX}
use Rattle.polis_base.specs.Lines.{line}
use Rattle.transition_table.specs.declared.machine.Machine.{Machine}
use Rattle.transition_table.specs.declared.network.Network.{Network}
use Rattle.journals.specs.declared.entry.Entry.{Entry}
use Rattle.journals.specs.declared.entry.Entry.TheVariants.{Dep, Rea}
use Rattle.task_code.specs.declared.instr.Instr.{Instr}
use Rattle.task_code.specs.Codes.{StepsOf}
use Rattle.task_code.specs.Listings.{Part}

-- what the machine of this number reads, where the entry is a reaction of it
abbrev pub read_by : ℕ → Entry → Option (List ℕ)
read_by m (Dep from to event code) = None
read_by m (Rea k s o) = then_some (k == m) s.codes

-- the snapshots of the machine's reactions
abbrev pub reactions_of : ℕ → List Entry → List (List ℕ)
reactions_of m journal = filter_map (read_by m) journal

-- how many instructions the code executes on these snapshots
abbrev pub steps_on : List Instr → List (List ℕ) → ℕ
steps_on code snapshots = sum (map (StepsOf code) snapshots)

-- No count of instructions grows too large to be kept: the journal has at most 60,000 entries, or the
-- reactions of each machine in it execute fewer than 2 ^ 62.
abbrev pub CountsFit : List (List Instr) → List Entry → Type 0
CountsFit all journal =
    (length journal ≤ ENTRIES_MAX)
    ⊎ ((k : ℕ) (code : List Instr) → slice_get all k ≡ Some code
    → steps_on code (reactions_of k journal) < 2 ^ 62)

-- `machine M vertices V code C`
abbrev pub lengths : Machine → Part → List ℕ
lengths m q =
    codes "machine " ++ m.name ++ codes " vertices " ++ decimal (length q.graph)
    ++ codes " code " ++ decimal (length q.code)

-- ` tries T steps S`
abbrev pub tally_text : ℕ → ℕ → List ℕ
tally_text tries steps = codes " tries " ++ decimal tries ++ codes " steps " ++ decimal steps

-- of the code's runs on these snapshots
abbrev pub tries : List Instr → List (List ℕ) → List ℕ
tries code snapshots = tally_text (length snapshots) (steps_on code snapshots)

-- `machine M code C`
abbrev pub code_length : Machine → List Instr → List ℕ
code_length m code = codes "machine " ++ m.name ++ codes " code " ++ decimal (length code)

-- what `one` gives of each machine, the first of which has number k, and of what stands beside it,
-- one after another
abbrev pub side_by_side : {X : Type 0} → (ℕ → Machine → X → List ℕ) → ℕ → List Machine → List X
    → List ℕ
side_by_side one k [] xs = []
side_by_side one k (m ∷ ms) [] = []
side_by_side one k (m ∷ ms) (x ∷ xs) = one k m x ++ side_by_side one (suc k) ms xs

-- the line of a machine's part
abbrev pub lengths_line : ℕ → Machine → Part → List ℕ
lengths_line k m q = line (lengths m q)

-- so with the machine's reactions
abbrev pub tries_line : List Entry → ℕ → Machine → Part → List ℕ
tries_line journal k m q = line (lengths m q ++ tries q.code (reactions_of k journal))

-- so of a machine's code alone
abbrev pub code_tries_line : List Entry → ℕ → Machine → List Instr → List ℕ
code_tries_line journal k m code = line (code_length m code ++ tries code (reactions_of k journal))

-- a line for each machine: `machine M vertices V code C`
abbrev pub lengths_text : Network → List Part → List ℕ
lengths_text net parts = side_by_side lengths_line 0 net.machines parts

-- a line for each machine: `machine M vertices V code C tries T steps S`
abbrev pub tries_text : Network → List Part → List Entry → List ℕ
tries_text net parts journal = side_by_side (tries_line journal) 0 net.machines parts

-- a line for each machine: `machine M code C tries T steps S`
abbrev pub code_tries_text : Network → List (List Instr) → List Entry → List ℕ
code_tries_text net all journal = side_by_side (code_tries_line journal) 0 net.machines all
