-- Lines of a text, words of a line, and the forms of a line. LF is byte 10, CR is byte 13, tab is
-- byte 9.
use Rattle.std.specs.Prelude.{ℕ, ◌^◌, Bool, true, false, cond, not, ◌&&◌, ◌||◌, ◌==◌, nat_lt, List, [], ◌∷◌, Option, Some, None, option_map, codes}
use Rattle.std.specs.List.{list_all}
use Rattle.std.specs.Option.{option_and_then}
use Rattle.polis_base.specs.Digits.{is_plain, number_of}
use Rattle.polis_base.specs.Pieces.{pieces, is_nonempty}
use Rattle.domains.specs.Names.{is_same}

-- a text, and a list of texts
abbrev pub Text : Type 0
Text = List ℕ

abbrev pub Texts : Type 0
Texts = List (List ℕ)

-- what ends with LF, line by line, and last what stands after the last LF
abbrev pub lines_of : Text → Texts
lines_of = pieces 10

-- what stands between single spaces
abbrev pub words_of : Text → Texts
words_of = pieces 32

-- none of space, tab, CR and LF
abbrev pub is_word_byte : ℕ → Bool
is_word_byte c = not (c == 32 || c == 9 || c == 13 || c == 10)

abbrev pub dash : Text
dash = codes "-"

abbrev pub colon : Text
colon = codes ":"

abbrev pub semicolon : Text
semicolon = codes ";"

abbrev pub arrow : Text
arrow = codes "->"

-- the words that are no word W of a form
abbrev pub is_sign : Text → Bool
is_sign word = is_same word dash || is_same word colon || is_same word semicolon
    || is_same word arrow

-- W: one or more bytes, none of them space, tab, CR or LF, and none of the signs
abbrev pub is_word : Text → Bool
is_word word = is_nonempty word && list_all is_word_byte word && not (is_sign word)

-- L: `-`, which is the empty list, or one or more words
abbrev pub list_of : Texts → Option Texts
list_of [] = None
list_of (word ∷ []) =
    cond (is_same word dash) (Some []) (cond (is_word word) (Some (word ∷ [])) None)
list_of (word ∷ next ∷ words) =
    cond (list_all is_word (word ∷ next ∷ words)) (Some (word ∷ next ∷ words)) None

-- what stands before the first such sign, and what stands after it, where there is one
abbrev pub before : Text → Texts → Texts
before sign [] = []
before sign (word ∷ words) = cond (is_same word sign) [] (word ∷ before sign words)

abbrev pub after : Text → Texts → Option Texts
after sign [] = None
after sign (word ∷ words) = cond (is_same word sign) (Some words) (after sign words)

abbrev pub both : {A B : Type 0} → Option A → Option B → Option (A × B)
both (Some a) (Some b) = Some (a, b)
both (Some a) None = None
both None b = None

-- `L ; L`
abbrev pub two_lists : Texts → Option (Texts × Texts)
two_lists words =
    both (list_of (before semicolon words)) (option_and_then list_of (after semicolon words))

-- `L ; L -> L ; L`
abbrev pub four_lists : Texts → Option ((Texts × Texts) × (Texts × Texts))
four_lists words =
    both (two_lists (before arrow words)) (option_and_then two_lists (after arrow words))

-- a decimal text below 2^64
abbrev pub decimal_of : Text → Option ℕ
decimal_of text =
    cond (is_plain text && nat_lt (number_of text) (2 ^ 64)) (Some (number_of text)) None

-- the form of an entry's line: a delivery with sender, receiver and event; a firing with `I ; X`
-- and `N ; O`; a reaction that doesn't fire, with `I ; X`
pub data EntryForm : Type 0 where
  DepForm : Text → Text → Text → EntryForm
  FireForm : Text → Texts × Texts → Texts × Texts → EntryForm
  IdleForm : Text → Texts × Texts → EntryForm

-- `W W W` after `dep`
abbrev pub dep_form : Texts → Option EntryForm
dep_form (from ∷ to ∷ event ∷ []) =
    cond (is_word from && is_word to && is_word event) (Some (DepForm from to event)) None
dep_form [] = None
dep_form (from ∷ []) = None
dep_form (from ∷ to ∷ []) = None
dep_form (from ∷ to ∷ event ∷ next ∷ words) = None

-- what stands after `W :`, with the word
abbrev pub reaction_form : Texts → Option (Text × Texts)
reaction_form [] = None
reaction_form (machine ∷ []) = None
reaction_form (machine ∷ next ∷ words) =
    cond (is_word machine && is_same next colon) (Some (machine, words)) None

abbrev pub fire_form : Text × Texts → Option EntryForm
fire_form (machine, words) =
    option_map (λ lists. FireForm machine lists.0 lists.1) (four_lists words)

abbrev pub idle_form : Text × Texts → Option EntryForm
idle_form (machine, words) = option_map (λ lists. IdleForm machine lists) (two_lists words)

-- `dep W W W`, `fire W : L ; L -> L ; L`, `idle W : L ; L`
abbrev pub entry_form : Texts → Option EntryForm
entry_form [] = None
entry_form (word ∷ words) =
    cond (is_same word (codes "dep")) (dep_form words)
    (cond (is_same word (codes "fire")) (option_and_then fire_form (reaction_form words))
    (cond (is_same word (codes "idle")) (option_and_then idle_form (reaction_form words)) None))

-- `complete` or `limit`
abbrev pub ending_of : Text → Option Bool
ending_of word =
    cond (is_same word (codes "complete")) (Some true)
    (cond (is_same word (codes "limit")) (Some false) None)

-- `end D complete` or `end D limit`, with the number and whether it is `complete`
abbrev pub last_form : Texts → Option (ℕ × Bool)
last_form (word ∷ number ∷ ending ∷ []) =
    cond (is_same word (codes "end")) (both (decimal_of number) (ending_of ending)) None
last_form [] = None
last_form (word ∷ []) = None
last_form (word ∷ number ∷ []) = None
last_form (word ∷ number ∷ ending ∷ next ∷ words) = None

-- the stamp that `@D` writes
abbrev pub stamp_of : Text → Option ℕ
stamp_of [] = None
stamp_of (c ∷ digits) = cond (c == 64) (decimal_of digits) None

-- the form of an entry's line with its stamp, which is 0 where there is none: version 2 has `@D` in
-- front
abbrev pub stamped_form : Bool → Texts → Option (ℕ × EntryForm)
stamped_form false words = both (Some 0) (entry_form words)
stamped_form true [] = None
stamped_form true (word ∷ words) = both (stamp_of word) (entry_form words)
