-- Words that items name, gone over item by item.
use Rattle.std.proofs.Common.{◌≡◌, ◌∙◌, ℕ, ◌+◌, ◌<◌, Bool, not, ◌||◌, List, [], ◌∷◌, ◌++◌, map, length, flat_map, take, drop, get_or, Option, ap, sym}
use Rattle.std.proofs.lemmas.List.{take_more, append_assoc, append-nil, map-append}
use Rattle.std.proofs.lemmas.List.Folds.{list_any-append}
use Rattle.std.proofs.lemmas.Grind.{flat_map-append}
use Rattle.std.proofs.Math.Bool.{or_assoc}
use Rattle.std.specs.List.{list_any}
use Rattle.domains.specs.Names.{is_same}
use Rattle.net_reader.specs.declared.raw.Word.{Word}
use Rattle.net_names.specs.Numbers.{missing, repeated, is_name_of}
use Rattle.net_names.specs.Places.{unless, sooner, least_place}
use Rattle.rule_judge.proofs.LeastPlace.{sooner_least, sooner_missing, item_first}
use Rattle.polis_base.proofs.Bools.{or_none}

-- the names of two lists of words
names_append : (xs ys : List Word) (q : List ℕ)
    → is_name_of (xs ++ ys) q ≡ (is_name_of xs q || is_name_of ys q)
names_append xs ys q =
    ap (list_any (is_same q)) (map-append (λ (w : Word). w.name) xs ys)
    ∙ list_any-append (is_same q) (map (λ (w : Word). w.name) xs)
    (map (λ (w : Word). w.name) ys)

-- what repeats in two lists of words
repeated_append : (taken : List ℕ → Bool) (xs ys : List Word)
    → repeated taken (xs ++ ys)
    ≡ repeated taken xs ++ repeated (λ q. taken q || is_name_of xs q) ys
repeated_append taken [] ys =
    ap (λ (t : List ℕ → Bool). repeated t ys) (λ k q. sym (or_none (taken q)) k)
repeated_append taken (x ∷ xs) ys =
    let after : List ℕ → Bool = λ q. taken q || is_same q x.name in
    ap (λ l. unless (not (taken x.name)) x.at ++ l) (repeated_append after xs ys
    ∙ ap (λ (t : List ℕ → Bool). repeated after xs ++ repeated t ys)
    (λ k q. or_assoc (taken q) (is_same q x.name) (is_name_of xs q) k))
    ∙ sym (append_assoc (unless (not (taken x.name)) x.at) (repeated after xs)
    (repeated (λ q. taken q || is_name_of (x ∷ xs) q) ys))

module _ {X : Type 0} (f : X → List Word) (xs : List X) (i : ℕ) (x : X) (below : i < length xs)
    (at : x ≡ get_or xs i x) where
  -- the words of one more item are looked up
  pub missing_more : (declared : List ℕ → Bool) (found next total : Option ℕ)
      → next ≡ sooner found (least_place (missing declared (f x)))
      → sooner found (least_place (missing declared (flat_map f (drop i xs)))) ≡ total
      → sooner next (least_place (missing declared (flat_map f (drop (i + 1) xs)))) ≡ total
  missing_more declared found next total is held =
      ap (λ n. sooner n (least_place (missing declared (flat_map f (drop (i + 1) xs))))) is
      ∙ sooner_missing declared found (f x) (flat_map f (drop (i + 1) xs))
      ∙ ap (λ l. sooner found (least_place (missing declared (flat_map f l))))
      (sym (item_first xs i x below at))
      ∙ held

  -- the names of one more item
  names_after : (q : List ℕ) → is_name_of (flat_map f (take (i + 1) xs)) q
      ≡ (is_name_of (flat_map f (take i xs)) q || is_name_of (f x) q)
  names_after q =
      ap (λ l. is_name_of (flat_map f l) q)
      (take_more xs i x below ∙ ap (λ y. take i xs ++ y ∷ []) (sym at))
      ∙ ap (λ l. is_name_of l q) (flat_map-append f (take i xs) (x ∷ []))
      ∙ names_append (flat_map f (take i xs)) (flat_map f (x ∷ [])) q
      ∙ ap (λ l. is_name_of (flat_map f (take i xs)) q || is_name_of l q) (append-nil (f x))

  -- the words of one more item are compared with those before
  pub repeats_more : (found next total : Option ℕ)
      → next ≡ sooner found (least_place (repeated (is_name_of (flat_map f (take i xs))) (f x)))
      → sooner found
      (least_place (repeated (is_name_of (flat_map f (take i xs))) (flat_map f (drop i xs)))) ≡ total
      → sooner next
      (least_place (repeated (is_name_of (flat_map f (take (i + 1) xs))) (flat_map f (drop (i + 1) xs))))
      ≡ total
  repeats_more found next total is held =
      let before = is_name_of (flat_map f (take i xs)) in
      let rest = flat_map f (drop (i + 1) xs) in
      ap (λ n. sooner n (least_place (repeated (is_name_of (flat_map f (take (i + 1) xs))) rest))) is
      ∙ ap (λ (t : List ℕ → Bool). sooner (sooner found (least_place (repeated before (f x))))
      (least_place (repeated t rest))) (λ k q. names_after q k)
      ∙ sooner_least found (repeated before (f x))
      (repeated (λ q. before q || is_name_of (f x) q) rest)
      ∙ ap (λ l. sooner found (least_place l)) (sym (repeated_append before (f x) rest))
      ∙ ap (λ l. sooner found (least_place (repeated before (flat_map f l))))
      (sym (item_first xs i x below at))
      ∙ held

  -- a name is sought in one more item
  pub names_more : (name : List ℕ) (has total : Bool) → has ≡ is_name_of (f x) name
      → is_name_of (flat_map f (drop i xs)) name ≡ total
      → (has || is_name_of (flat_map f (drop (i + 1) xs)) name) ≡ total
  names_more name has total is held =
      ap (λ b. b || is_name_of (flat_map f (drop (i + 1) xs)) name) is
      ∙ sym (names_append (f x) (flat_map f (drop (i + 1) xs)) name)
      ∙ ap (λ l. is_name_of (flat_map f l) name) (sym (item_first xs i x below at))
      ∙ held
