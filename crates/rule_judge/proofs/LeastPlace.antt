-- Least places of parts, and of the whole.
use Rattle.std.proofs.Common.{◌≡◌, ◌∙◌, ℕ, ◌+◌, ◌<◌, min, Result, IfOk, Bool, not, ◌||◌, List, ◌∷◌, ◌++◌, length, flat_map, drop, get_or, Option, Some, None, refl, ap, sym, arith, []}
use Rattle.std.proofs.lemmas.List.{drop_more}
use Rattle.std.proofs.lemmas.Grind.{flat_map-append}
use Rattle.polis_base.specs.declared.NoMemory.{NoMemory}
use Rattle.domains.specs.Names.{is_same}
use Rattle.net_reader.specs.declared.raw.Word.{Word}
use Rattle.net_names.specs.Numbers.{missing, repeated}
use Rattle.net_names.specs.Places.{unless, sooner, least_place}
use Rattle.net_names.proofs.IfOk.{IfOk_same}

sooner_None : (a : Option ℕ) → sooner a None ≡ a
sooner_None None = refl
sooner_None (Some a) = refl

-- nothing is at fault
pub found_none : (found : Option ℕ) (ps : List ℕ) → ps ≡ [] → found ≡ sooner found (least_place ps)
found_none found ps none = sym (sooner_None found) ∙ ap (λ l. sooner found (least_place l)) (sym none)

min_assoc : (a b c : ℕ) → min (min a b) c ≡ min a (min b c)
min_assoc a b c = grind arith

pub sooner_assoc : (a b c : Option ℕ) → sooner (sooner a b) c ≡ sooner a (sooner b c)
sooner_assoc None b c = refl
sooner_assoc (Some a) None c = refl
sooner_assoc (Some a) (Some b) None = refl
sooner_assoc (Some a) (Some b) (Some c) = ap Some (min_assoc a b c)

pub least_append : (ps qs : List ℕ) → least_place (ps ++ qs) ≡ sooner (least_place ps) (least_place qs)
least_append [] qs = refl
least_append (p ∷ ps) qs = ap (sooner (Some p)) (least_append ps qs)
    ∙ sym (sooner_assoc (Some p) (least_place ps) (least_place qs))

-- what was found before, then in the first part, then in the second
pub sooner_least : (found : Option ℕ) (ps qs : List ℕ)
    → sooner (sooner found (least_place ps)) (least_place qs) ≡ sooner found (least_place (ps ++ qs))
sooner_least found ps qs = sooner_assoc found (least_place ps) (least_place qs)
    ∙ ap (sooner found) (sym (least_append ps qs))

pub item_first : {X : Type 0} (xs : List X) (i : ℕ) (x : X) → i < length xs → x ≡ get_or xs i x
    → drop i xs ≡ x ∷ drop (i + 1) xs
item_first xs i x below at = drop_more xs i x below ∙ ap (λ y. y ∷ drop (i + 1) xs) (sym at)

-- one more item is gone over
pub found_more : {X : Type 0} (f : X → List ℕ) (xs : List X) (i : ℕ) (x : X)
    (found next total : Option ℕ) → i < length xs → x ≡ get_or xs i x
    → next ≡ sooner found (least_place (f x))
    → sooner found (least_place (flat_map f (drop i xs))) ≡ total
    → sooner next (least_place (flat_map f (drop (i + 1) xs))) ≡ total
found_more f xs i x found next total below at is held =
    ap (λ n. sooner n (least_place (flat_map f (drop (i + 1) xs)))) is
    ∙ sooner_least found (f x) (flat_map f (drop (i + 1) xs))
    ∙ ap (λ l. sooner found (least_place (flat_map f l))) (sym (item_first xs i x below at))
    ∙ held

-- one more word is gone over, and its name is taken from then on
pub repeated_more : (taken after : List ℕ → Bool) (words : List Word) (i : ℕ) (word : Word)
    (found next total : Option ℕ) → i < length words → word ≡ get_or words i word
    → ((q : List ℕ) → after q ≡ (taken q || is_same q word.name))
    → next ≡ sooner found (least_place (unless (not (taken word.name)) word.at))
    → sooner found (least_place (repeated taken (drop i words))) ≡ total
    → sooner next (least_place (repeated after (drop (i + 1) words))) ≡ total
repeated_more taken after words i word found next total below at more is held =
    ap (λ n. sooner n (least_place (repeated after (drop (i + 1) words)))) is
    ∙ ap (λ (t : List ℕ → Bool). sooner
    (sooner found (least_place (unless (not (taken word.name)) word.at)))
    (least_place (repeated t (drop (i + 1) words)))) (λ k q. more q k)
    ∙ sooner_least found (unless (not (taken word.name)) word.at)
    (repeated (λ q. taken q || is_same q word.name) (drop (i + 1) words))
    ∙ ap (λ l. sooner found (least_place (repeated taken l))) (sym (item_first words i word below at))
    ∙ held

-- the words of one list, then those of another
pub sooner_missing : (declared : List ℕ → Bool) (found : Option ℕ) (xs ys : List Word)
    → sooner (sooner found (least_place (missing declared xs))) (least_place (missing declared ys))
    ≡ sooner found (least_place (missing declared (xs ++ ys)))
sooner_missing declared found xs ys =
    sooner_least found (missing declared xs) (missing declared ys)
    ∙ ap (λ l. sooner found (least_place l))
    (sym (flat_map-append (λ (word : Word). unless (declared word.name) word.at) xs ys))

-- the places of three lists, found one after the other
pub three : (a b : Option ℕ) (r : Result (Option ℕ) NoMemory) (ps qs rs : List ℕ) → a ≡ least_place ps
    → b ≡ sooner a (least_place qs) → IfOk r (λ place. place ≡ sooner b (least_place rs))
    → IfOk r (λ place. place ≡ least_place (ps ++ qs ++ rs))
three a b r ps qs rs first second third =
    IfOk_same r _ _
    (ap (λ o. sooner o (least_place rs)) (second ∙ ap (λ o. sooner o (least_place qs)) first
    ∙ sym (least_append ps qs)) ∙ sym (least_append (ps ++ qs) rs)) third
