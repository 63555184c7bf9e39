-- Outputs of one entry.
use Rattle.std.specs.Prelude.{ℕ, List, map, filter}
use Rattle.transition_table.specs.declared.network.Network.{Network}
use Rattle.journals.specs.Outputs.{goes_out}
use Rattle.run_watch.specs.Emissions.{emission_at}
use Rattle.run_watch.specs.declared.emission.Emission.{Emission}

-- of these events with their codes, which the entry at this place emits, those that go to the
-- environment
abbrev pub going_out : Network → ℕ → List (ℕ × ℕ) → List Emission
going_out net place events = map (emission_at place) (filter (λ p. goes_out net p.0) events)
