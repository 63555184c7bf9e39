-- Kinds of outputs: the runs with the same outputs, told apart by the first of them.
use Rattle.std.specs.Prelude.{ℕ, ◌+◌, Bool, cond, not, ◌==◌, List, [], ◌∷◌, filter, count_by, take, Option, Some, None, bytes_eq}
use Rattle.std.specs.List.{list_any, position_or_len}
use Rattle.run_survey.specs.declared.told.Kind.{Kind}
use Rattle.run_survey.specs.declared.told.Others.{Others}

abbrev pub differs : List ℕ → List ℕ → Bool
differs text other = not (bytes_eq text other)

-- the texts that none before them is, in order
abbrev pub new_texts : List (List ℕ) → List (List ℕ)
new_texts [] = []
new_texts (text ∷ texts) = text ∷ filter (differs text) (new_texts texts)

-- how many kinds are told apart
abbrev pub most_kinds : ℕ
most_kinds = 32

-- the first n of them
abbrev pub kinds_within : ℕ → List (List ℕ) → List (List ℕ)
kinds_within n texts = take n (new_texts texts)

-- of runs with these outputs, the first of which has this seed: the kind of an output text, with
-- how many have it and the seed of the first that does
abbrev pub kind_of : ℕ → List (List ℕ) → List ℕ → Kind
kind_of first texts text =
    record {
      outputs = text;
      count = count_by (bytes_eq text) texts;
      seed = first + position_or_len (bytes_eq text) texts;
    }

-- the text is that of none of the kinds
abbrev pub is_other : List (List ℕ) → List ℕ → Bool
is_other kinds text = not (list_any (bytes_eq text) kinds)

-- how many runs have the outputs of none of the first n kinds, and the seed of the first that
-- hasn't, if there is any
abbrev pub others_beyond : ℕ → ℕ → List (List ℕ) → Option Others
others_beyond n first texts =
    cond (count_by (is_other (kinds_within n texts)) texts == 0) None
    (Some (record {
      count = count_by (is_other (kinds_within n texts)) texts;
      seed = first + position_or_len (is_other (kinds_within n texts)) texts;
    }))
