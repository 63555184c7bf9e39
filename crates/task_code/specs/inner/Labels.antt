-- Pieces of a listing's part.
use Rattle.std.specs.Prelude.{◌≡◌, ℕ, ◌+◌, List, ◌∷◌, ◌++◌, length, slice_get, Some, flat_map, codes, []}
use Rattle.std.specs.List.{join_by}
use Rattle.polis_base.specs.Lines.{line}
use Rattle.transition_table.specs.declared.machine.Machine.{Machine}
use Rattle.transition_table.specs.declared.network.Network.{Network}
use Rattle.task_code.specs.Listings.{numbers, label}

-- the words for a result
abbrev pub result_label : Network → Machine → ℕ → List ℕ
result_label net m result = label net m (length m.vars + result)

-- each text is the words for the item of its place
abbrev pub AreLabels : Network → Machine → List (List ℕ) → Type 0
AreLabels net m texts =
    (k : ℕ) (text : List ℕ) → slice_get texts k ≡ Some text → text ≡ label net m k

-- each after a comma
abbrev pub others : (ℕ → List ℕ) → List ℕ → List ℕ
others words items = flat_map (λ item. codes ", " ++ words item) items

abbrev pub head_text : Network → Machine → List ℕ → List ℕ
head_text net m order = line (codes "machine " ++ m.name)
    ++ line (codes "order " ++ join_by (label net m) (codes ", ") order)

abbrev pub diagram_text : ℕ → ℕ → List ℕ
diagram_text first count = line (codes "diagram" ++ numbers (first ∷ count ∷ []))

abbrev pub count_text : List ℕ → ℕ → List ℕ
count_text word n = line (word ++ numbers (n ∷ []))
