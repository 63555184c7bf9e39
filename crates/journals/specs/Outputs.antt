-- What a journal gives to the environment, and what was lost in it.
use Rattle.std.specs.Prelude.{ℕ, ◌+◌, Bool, false, cond, not, ◌&&◌, ◌==◌, List, [], ◌∷◌, ◌++◌, filter, flat_map, slice_get, option_map, unwrap_or}
use Rattle.transition_table.specs.declared.network.Network.{Network}
use Rattle.journals.specs.declared.entry.Entry.{Entry}
use Rattle.journals.specs.declared.entry.Entry.TheVariants.{Dep, Rea}
use Rattle.journals.specs.Journals.{reads, buffered, emissions}

-- the event goes to the environment
abbrev pub goes_out : Network → ℕ → Bool
goes_out net e = unwrap_or (option_map (λ event. event.to_env) (slice_get net.events e)) false

-- the emissions to the environment, in order of the firings and then of the output list
abbrev pub outputs : Network → List Entry → List (ℕ × ℕ)
outputs net journal = filter (λ p. goes_out net p.0) (flat_map (emissions net) journal)

-- the entry delivers to an input that is present after the journal
abbrev pub overwrites : Network → List Entry → Entry → Bool
overwrites net journal (Dep s m event code) =
    reads net m event && not (buffered journal m event == 0)
overwrites net journal (Rea m s o) = false

abbrev pub lost_after : Network → List Entry → List Entry → ℕ
lost_after net journal [] = 0
lost_after net journal (entry ∷ entries) =
    cond (overwrites net journal entry) 1 0 + lost_after net (journal ++ entry ∷ []) entries

-- the number of deliveries to an input that was present
abbrev pub lost : Network → List Entry → ℕ
lost net journal = lost_after net [] journal
