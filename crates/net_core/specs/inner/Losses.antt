-- What is lost at one entry, said of the snapshot before it.
use Rattle.std.specs.Prelude.{◌≡◌, Bool, false, not, ◌==◌, slice_index, position, MatchOption}
use Rattle.transition_table.specs.declared.machine.Machine.{Machine}
use Rattle.transition_table.specs.declared.snapshot.Snapshot.{Snapshot}
use Rattle.journals.specs.declared.entry.Entry.{Entry}
use Rattle.journals.specs.declared.entry.Entry.TheVariants.{Dep, Rea}

-- the answer is whether the entry delivers an input of the machine whose code isn't 0
abbrev pub Overwrites : Machine → Snapshot → Entry → Bool → Type 0
Overwrites machine before (Dep from to event code) answer =
    MatchOption (position (λ input. input == event) machine.inputs) (answer ≡ false)
    (λ i. answer ≡ not (slice_index before.codes i == 0))
Overwrites machine before (Rea m s o) answer = answer ≡ false
