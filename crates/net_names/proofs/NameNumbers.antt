-- Names that get numbers one by one.
use Rattle.std.proofs.Common.{◌≡◌, ◌∙◌, ℕ, suc, ◌+◌, ◌<◌, Bool, true, false, cond, ◌||◌, List, [], ◌∷◌, ◌++◌, length, take, get_or, Option, Some, None, is_some, refl, ap, sym, true≢false, arith}
use Rattle.std.proofs.lemmas.List.{take_more, map-append, length-map, length-take-le}
use Rattle.net_reader.specs.declared.raw.Word.{Word}
use Rattle.std.specs.Option.{option_or, option_map}
use Rattle.std.specs.Map.{lookup}
use Rattle.std.specs.Cmp.Lexicographic.{nat_list_eq_equiv}
use Rattle.indexmap.specs.IndexMap.{insert_entry}
use Rattle.domains.specs.Names.{is_same}
use Rattle.net_names.specs.Tables.{NameNumbers, number_at, has, noted}
use Rattle.net_names.specs.Numbers.{names_of, is_among, is_name_of, number_in}

module _ (name : List ℕ) (number : ℕ) where
  insert_end : (es : NameNumbers) → has es name ≡ false
      → insert_entry is_same es name number ≡ es ++ (name, number) ∷ []
  insert_end [] absent = refl
  insert_end (e ∷ es) absent = by (is_same name e.0) absent (insert_end es)
    where
      by : (b : Bool) → is_some (cond b (Some e.1) (lookup (is_same name) es)) ≡ false
          → (has es name ≡ false → insert_entry is_same es name number ≡ es ++ (name, number) ∷ [])
          → cond b ((e.0, number) ∷ es) (e ∷ insert_entry is_same es name number)
          ≡ e ∷ (es ++ (name, number) ∷ [])
      by true h rest = absurd (true≢false h)
      by false h rest = ap (λ l. e ∷ l) (rest h)

  -- what the map does with a name that isn't there
  pub insert_noted : (es : NameNumbers) → has es name ≡ false
      → insert_entry is_same es name number ≡ noted es name number
  insert_noted es absent = insert_end es absent
      ∙ sym (ap (λ b. cond b es (es ++ (name, number) ∷ [])) absent)

  number_append : (es : NameNumbers) (q : List ℕ)
      → number_at (es ++ (name, number) ∷ []) q
      ≡ option_or (number_at es q) (cond (is_same q name) (Some number) None)
  number_append [] q = refl
  number_append (e ∷ es) q = by (is_same q e.0) (number_append es q)
    where
      by : (b : Bool) → number_at (es ++ (name, number) ∷ []) q
          ≡ option_or (number_at es q) (cond (is_same q name) (Some number) None)
          → cond b (Some e.1) (number_at (es ++ (name, number) ∷ []) q)
          ≡ option_or (cond b (Some e.1) (number_at es q))
          (cond (is_same q name) (Some number) None)
      by true h = refl
      by false h = h

same_number : (es : NameNumbers) (q name : List ℕ) → is_same q name ≡ true
    → number_at es q ≡ number_at es name
same_number [] q name same = refl
same_number (e ∷ es) q name same =
    ap (λ b. cond b (Some e.1) (number_at es q)) (nat_list_eq_equiv.congr q name e.0 same)
    ∙ ap (cond (is_same name e.0) (Some e.1)) (same_number es q name same)

-- a name that has a number keeps it, and the new name gets its own
pub number_noted : (es : NameNumbers) (name : List ℕ) (number : ℕ) (q : List ℕ)
    → number_at (noted es name number) q
    ≡ option_or (number_at es q) (cond (is_same q name) (Some number) None)
number_noted es name number q = by (has es name) refl
  where
    kept : (o : Option ℕ) → is_some o ≡ true
        → o ≡ option_or o (cond (is_same q name) (Some number) None)
    kept None h = absurd (true≢false (sym h))
    kept (Some x) h = refl

    here : (b : Bool) → is_same q name ≡ b → has es name ≡ true
        → number_at es q ≡ option_or (number_at es q) (cond (is_same q name) (Some number) None)
    here true same h = kept (number_at es q) (ap is_some (same_number es q name same) ∙ h)
    here false other h = ends (number_at es q)
        ∙ sym (ap (λ b. option_or (number_at es q) (cond b (Some number) None)) other)
      where
        ends : (o : Option ℕ) → o ≡ option_or o None
        ends None = refl
        ends (Some x) = refl

    by : (b : Bool) → has es name ≡ b → number_at (noted es name number) q
        ≡ option_or (number_at es q) (cond (is_same q name) (Some number) None)
    by true h = ap (λ b. number_at (cond b es (es ++ (name, number) ∷ [])) q) h
        ∙ here (is_same q name) refl h
    by false h = ap (λ b. number_at (cond b es (es ++ (name, number) ∷ [])) q) h
        ∙ number_append name number es q

-- whether a name has a number after one more
pub has_noted : (es : NameNumbers) (name : List ℕ) (number : ℕ) (q : List ℕ)
    → has (noted es name number) q ≡ (has es q || is_same q name)
has_noted es name number q = ap is_some (number_noted es name number q)
    ∙ by (number_at es q) (is_same q name)
  where
    by : (o : Option ℕ) (b : Bool) → is_some (option_or o (cond b (Some number) None))
        ≡ (is_some o || b)
    by None true = refl
    by None false = refl
    by (Some x) b = refl

-- the first place of a name among names and one more
pub number_push : (names : List (List ℕ)) (name q : List ℕ)
    → number_in (names ++ name ∷ []) q
    ≡ option_or (number_in names q) (cond (is_same q name) (Some (length names)) None)
number_push [] name q = refl
number_push (n ∷ names) name q = by (is_same q n) (number_push names name q)
  where
    more : (o : Option ℕ) (b : Bool)
        → option_map suc (option_or o (cond b (Some (length names)) None))
        ≡ option_or (option_map suc o) (cond b (Some (suc (length names))) None)
    more None true = refl
    more None false = refl
    more (Some x) b = refl

    by : (b : Bool) → number_in (names ++ name ∷ []) q
        ≡ option_or (number_in names q) (cond (is_same q name) (Some (length names)) None)
        → cond b (Some 0) (option_map suc (number_in (names ++ name ∷ []) q))
        ≡ option_or (cond b (Some 0) (option_map suc (number_in names q)))
        (cond (is_same q name) (Some (suc (length names))) None)
    by true h = refl
    by false h = ap (option_map suc) h ∙ more (number_in names q) (is_same q name)

-- one more word gets its number
pub number_step : (words : List Word) (i : ℕ) (word : Word) (before after : NameNumbers)
    → i < length words → word ≡ get_or words i word → after ≡ noted before word.name i
    → ((q : List ℕ) → number_at before q ≡ number_in (names_of (take i words)) q) → (q : List ℕ)
    → number_at after q ≡ number_in (names_of (take (i + 1) words)) q
number_step words i word before after below at is held q =
    ap (λ es. number_at es q) is
    ∙ number_noted before word.name i q
    ∙ ap (λ o. option_or o (cond (is_same q word.name) (Some i) None)) (held q)
    ∙ ap (λ n. option_or (number_in (names_of (take i words)) q)
    (cond (is_same q word.name) (Some n) None)) (sym long)
    ∙ sym (number_push (names_of (take i words)) word.name q)
    ∙ ap (λ l. number_in l q) (sym (map-append (λ (w : Word). w.name) (take i words) (word ∷ [])))
    ∙ ap (λ l. number_in (names_of l) q)
    (sym (take_more words i word below ∙ ap (λ w. take i words ++ w ∷ []) (sym at)))
  where
    long : length (names_of (take i words)) ≡ i
    long = length-map (take i words) (λ (w : Word). w.name)
        ∙ length-take-le i words (omega (arith, below))

-- whether a name has a number
pub among_number : (names : List (List ℕ)) (name : List ℕ)
    → is_some (number_in names name) ≡ is_among names name
among_number [] name = refl
among_number (n ∷ names) name = by (is_same name n) (among_number names name)
  where
    mapped : (o : Option ℕ) → is_some (option_map suc o) ≡ is_some o
    mapped None = refl
    mapped (Some x) = refl

    by : (b : Bool) → is_some (number_in names name) ≡ is_among names name
        → is_some (cond b (Some 0) (option_map suc (number_in names name)))
        ≡ (b || is_among names name)
    by true h = refl
    by false h = mapped (number_in names name) ∙ h

-- the table has the names of the words
pub has_names : (table : NameNumbers) (words : List Word)
    → ((name : List ℕ) → number_at table name ≡ number_in (names_of words) name)
    → has table ≡ is_name_of words
has_names table words same = λ k name.
    (ap is_some (same name) ∙ among_number (names_of words) name) k
