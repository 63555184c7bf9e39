-- Names: whether they are declared, which number they have, and which of them repeat.
use Rattle.std.specs.Prelude.{ℕ, suc, Bool, false, not, ◌||◌, List, [], ◌∷◌, ◌++◌, map, flat_map, Option, Some, None, option_map, unwrap_or, if◌then◌else◌}
use Rattle.std.specs.List.{list_any}
use Rattle.domains.specs.Names.{is_same}
use Rattle.net_reader.specs.declared.raw.Word.{Word}
use Rattle.net_names.specs.Places.{unless}

-- the names of the words
abbrev pub names_of : List Word → List (List ℕ)
names_of words = map (λ (word : Word). word.name) words

-- the name is one of these
abbrev pub is_among : List (List ℕ) → List ℕ → Bool
is_among names name = list_any (is_same name) names

-- a word has the name
abbrev pub is_name_of : List Word → List ℕ → Bool
is_name_of words name = is_among (names_of words) name

-- the number of a name: its first place among these, counted from 0
abbrev pub number_in : List (List ℕ) → List ℕ → Option ℕ
number_in [] name = None
number_in (first ∷ names) name =
    if is_same name first then Some 0 else option_map suc (number_in names name)

-- no name is taken
abbrev pub no_name : List ℕ → Bool
no_name name = false

-- the places of the words whose names aren't declared
abbrev pub missing : (List ℕ → Bool) → List Word → List ℕ
missing declared words = flat_map (λ (word : Word). unless (declared word.name) word.at) words

-- the places of the words whose names are taken, or are those of earlier words
abbrev pub repeated : (List ℕ → Bool) → List Word → List ℕ
repeated taken [] = []
repeated taken (word ∷ words) = unless (not (taken word.name)) word.at
    ++ repeated (λ name. taken name || is_same name word.name) words

-- the number of a name that is one of these, 0 where it is none
abbrev pub number : List Word → List ℕ → ℕ
number words name = unwrap_or (number_in (names_of words) name) 0
