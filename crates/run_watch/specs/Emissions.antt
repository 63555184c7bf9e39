-- What a journal gives to the environment, with the places of the entries that emit it.
use Rattle.std.specs.Prelude.{ℕ, List, [], ◌∷◌, map, flat_map}
use Rattle.std.specs.List.{enumerate_from}
use Rattle.transition_table.specs.declared.network.Network.{Network}
use Rattle.journals.specs.declared.entry.Entry.{Entry}
use Rattle.journals.specs.Outputs.{outputs}
use Rattle.run_watch.specs.declared.emission.Emission.{Emission}

-- an event with its code, which the entry at this place emits
abbrev pub emission_at : ℕ → ℕ × ℕ → Emission
emission_at place (e, code) = record { place = place; event = e; code = code }

-- the outputs of the entry at a place
abbrev pub placed_in : Network → ℕ × Entry → List Emission
placed_in net (place, entry) = map (emission_at place) (outputs net (entry ∷ []))

-- the outputs of a journal, each with the place of its entry
abbrev pub placed_outputs : Network → List Entry → List Emission
placed_outputs net journal = flat_map (placed_in net) (enumerate_from 0 journal)
