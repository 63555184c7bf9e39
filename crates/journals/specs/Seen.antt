-- What a reaction sees: some input is present.
use Rattle.std.specs.Prelude.{ℕ, Bool, not, ◌==◌, List, ◌∷◌, ◌++◌, length, slice_index, IsTrue}
use Rattle.std.specs.List.{list_any}
use Rattle.polis_base.specs.Lists.{upto}
use Rattle.transition_table.specs.Transitions.{OfMachine}
use Rattle.transition_table.specs.declared.machine.Machine.{Machine}
use Rattle.transition_table.specs.declared.network.Network.{Network}
use Rattle.transition_table.specs.declared.snapshot.Outcome.{Outcome}
use Rattle.transition_table.specs.declared.snapshot.Snapshot.{Snapshot}
use Rattle.journals.specs.declared.entry.Entry.{Entry}
use Rattle.journals.specs.declared.entry.Entry.TheVariants.{Rea}
use Rattle.journals.specs.declared.entry.TraceItem.{TraceItem}
use Rattle.journals.specs.Legality.{Legal}

-- the input is present
abbrev pub is_present : ℕ → List ℕ → Bool
is_present i s = not (slice_index s i == 0)

-- some input is present
abbrev pub is_seen : Machine → List ℕ → Bool
is_seen m s = list_any (λ i. is_present i s) (upto (length m.inputs))

-- each reaction of a legal journal has an input that is present
abbrev pub ReactionsSee : Type 0
ReactionsSee =
    (net : Network) (trace : List TraceItem) (before after : List Entry)
    (m : ℕ) (s : Snapshot) (o : Outcome)
    → Legal net trace (before ++ Rea m s o ∷ after)
    → OfMachine net m (λ machine. IsTrue (is_seen machine s.codes))
