-- What is left of a text that is walked piece by piece.
use Rattle.std.specs.Prelude.{◌≡◌, ◌⊎◌, true, Some, None, unwrap_or, is_some, []}
use Rattle.journal_text.specs.Forms.{Text, Texts, words_of, list_of, before, after}

-- the words are those before the first such sign, the sign, and those after it
abbrev pub CutAt : Text → Texts → Texts → Texts → Type 0
CutAt sign words prefix rest = (before sign words ≡ prefix) × (after sign words ≡ Some rest)

-- there is no such sign, or nothing before the first one, or nothing after it
abbrev pub NoCut : Text → Texts → Type 0
NoCut sign words = (after sign words ≡ None)
    ⊎ ((before sign words ≡ []) ⊎ (after sign words ≡ Some []))

-- the items of a list, and none where it is no list
abbrev pub items_in : Text → Texts
items_in list = unwrap_or (list_of (words_of list)) []

-- both are lists
abbrev pub AreLists : Text → Text → Type 0
AreLists a b = (is_some (list_of (words_of a)) ≡ true) × (is_some (list_of (words_of b)) ≡ true)
