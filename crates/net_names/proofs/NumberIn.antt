-- What has a name, by the name's number.
use Rattle.std.proofs.Common.{◌≡◌, ◌∙◌, ℕ, suc, ◌+◌, ◌<◌, ◌≤◌, drop, get_or, Bool, true, false, cond, List, [], ◌∷◌, length, map, find, slice_get, Option, Some, None, is_some, true≢false, refl, ap, sym, arith}
use Rattle.std.specs.Option.{option_map, option_and_then}
use Rattle.std.proofs.lemmas.List.{length-map, drop_more, nil_from_length, length-drop}
use Rattle.domains.specs.Names.{is_same}
use Rattle.net_reader.specs.declared.raw.Word.{Word}
use Rattle.net_names.specs.Numbers.{names_of, number_in}

-- a number is that of a name of the list
pub number_below : (names : List (List ℕ)) (name : List ℕ) (i : ℕ) → number_in names name ≡ Some i
    → i < length names
number_below [] name i h = absurd (true≢false (sym (ap is_some h)))
number_below (n ∷ names) name i h =
    by (is_same name n) (number_in names name) (number_below names name) h
  where
    by : (b : Bool) (o : Option ℕ) → ((j : ℕ) → o ≡ Some j → j < length names)
        → cond b (Some 0) (option_map suc o) ≡ Some i → i < suc (length names)
    by true o rest h = grind (arith, h)
    by false None rest h = grind (arith, h)
    by false (Some j) rest h = grind (arith, h, rest j refl)

module _ {X : Type 0} (word : X → Word) (name : List ℕ) where
  -- the first item of the name stands at the name's number
  pub find_number : (xs : List X) → find (λ x. is_same name (word x).name) xs
      ≡ option_and_then (slice_get xs) (number_in (names_of (map word xs)) name)
  find_number [] = refl
  find_number (x ∷ xs) = by (is_same name (word x).name) (find_number xs)
    where
      later : (o : Option ℕ) → option_and_then (slice_get xs) o
          ≡ option_and_then (slice_get (x ∷ xs)) (option_map suc o)
      later None = refl
      later (Some j) = refl

      by : (b : Bool) → find (λ x. is_same name (word x).name) xs
          ≡ option_and_then (slice_get xs) (number_in (names_of (map word xs)) name)
          → cond b (Some x) (find (λ x. is_same name (word x).name) xs)
          ≡ option_and_then (slice_get (x ∷ xs))
          (cond b (Some 0) (option_map suc (number_in (names_of (map word xs)) name)))
      by true h = refl
      by false h = h ∙ later (number_in (names_of (map word xs)) name)

  -- and a number is below the length
  pub number_within : (xs : List X) (i : ℕ) → number_in (names_of (map word xs)) name ≡ Some i
      → i < length xs
  number_within xs i h =
      omega (
        arith,
        number_below (names_of (map word xs)) name i h,
        length-map (map word xs) (λ (w : Word). w.name),
        length-map xs word,
      )

module _ {X : Type 0} (word : X → Word) (name : List ℕ) (xs : List X) where
  -- the item at the name's number is the first of the name
  pub found_at : (o : Option ℕ) (i : ℕ) (x : X) → o ≡ number_in (names_of (map word xs)) name
      → o ≡ Some i → slice_get xs i ≡ Some x → find (λ x. is_same name (word x).name) xs ≡ Some x
  found_at o i x is some at = find_number word name xs
      ∙ ap (option_and_then (slice_get xs)) (sym is ∙ some) ∙ at

  -- without a number there is none
  pub found_nowhere : (o : Option ℕ) → o ≡ number_in (names_of (map word xs)) name → o ≡ None
      → find (λ x. is_same name (word x).name) xs ≡ None
  found_nowhere o is none = find_number word name xs
      ∙ ap (option_and_then (slice_get xs)) (sym is ∙ none)

mapped_sum : (i : ℕ) (o : Option ℕ)
    → option_map (λ k. i + k) (option_map suc o) ≡ option_map (λ k. i + 1 + k) o
mapped_sum i None = refl
mapped_sum i (Some k) = ap Some (omega arith)

-- the number of a name among the words from a place on, counted from the first word
pub number_from : List Word → List ℕ → ℕ → Option ℕ
number_from words name i = option_map (λ k. i + k) (number_in (names_of (drop i words)) name)

module _ (words : List Word) (name : List ℕ) (i : ℕ) (word : Word) (below : i < length words)
    (at : word ≡ get_or words i word) where
  first_word : number_from words name i
      ≡ cond (is_same name word.name) (Some i) (number_from words name (i + 1))
  unfolding number_from
  first_word = ap (λ l. option_map (λ k. i + k) (number_in (names_of l) name))
      (drop_more words i word below ∙ ap (λ w. w ∷ drop (i + 1) words) (sym at))
      ∙ by (is_same name word.name)
    where
      by : (b : Bool)
          → option_map (λ k. i + k)
          (cond b (Some 0) (option_map suc (number_in (names_of (drop (i + 1) words)) name)))
          ≡ cond b (Some i)
          (option_map (λ k. i + 1 + k) (number_in (names_of (drop (i + 1) words)) name))
      by true = ap Some (omega arith)
      by false = mapped_sum i (number_in (names_of (drop (i + 1) words)) name)

  pub number_here : is_same name word.name ≡ true → number_from words name i ≡ Some i
  number_here same = first_word ∙ ap (λ b. cond b (Some i) (number_from words name (i + 1))) same

  pub number_later : is_same name word.name ≡ false
      → number_from words name i ≡ number_from words name (i + 1)
  number_later other = first_word ∙ ap (λ b. cond b (Some i) (number_from words name (i + 1))) other

-- all of them, and none of them

pub number_all : (words : List Word) (name : List ℕ)
    → number_from words name 0 ≡ number_in (names_of words) name
unfolding number_from
number_all words name = by (number_in (names_of words) name)
  where
    by : (o : Option ℕ) → option_map (λ k. 0 + k) o ≡ o
    by None = refl
    by (Some k) = ap Some (omega arith)

pub number_none : (words : List Word) (name : List ℕ) (i : ℕ) → length words ≤ i
    → number_from words name i ≡ None
unfolding number_from
number_none words name i past =
    ap (λ l. option_map (λ k. i + k) (number_in (names_of l) name))
    (nil_from_length (drop i words) (length-drop i words ∙ omega (arith, past)))
