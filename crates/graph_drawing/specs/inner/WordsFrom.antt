-- What is left of the words of an edge.
use Rattle.std.specs.Prelude.{ℕ, ◌==◌, List, map, drop}
use Rattle.polis_base.specs.Lists.{places_from, numbered}
use Rattle.transition_table.specs.declared.machine.Machine.{Machine}
use Rattle.transition_table.specs.declared.network.Network.{Network}
use Rattle.graph_drawing.specs.Words.{after_gap, code_word}

-- the words from the one of number k on, of the codes from one on that lead to a child
abbrev pub words_from : Network → Machine → ℕ → List ℕ → ℕ → ℕ → ℕ → List ℕ
words_from net m var kids child k code =
    numbered after_gap k
    (map (code_word net m var) (places_from code (λ kid. kid == child) (drop code kids)))
