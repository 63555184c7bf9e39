-- The first lines of a text of outputs, each with a space before it.
use Rattle.std.proofs.Common.{◌≡◌, ℕ, zero, suc, ◌+◌, ◌<◌, ◌≤◌, Bool, true, false, cond, eqb, nat_lt, min, List, [], ◌∷◌, ◌++◌, flat_map, length, take, drop, codes, refl, sym, ap, ◌∙◌, append_assoc, append-nil, arith}
use Rattle.std.proofs.lemmas.Bool.{le-ltb, lt-ltb}
use Rattle.std.proofs.lemmas.List.{drop-drop, length-drop}
use Rattle.polis_base.specs.Pieces.{pieces, with_byte}
use Rattle.run_survey.specs.SurveyLines.{first_items, line_count, spaced_item}
use Rattle.run_survey.proofs.Places.{count_next}
use Rattle.polis_base.proofs.Places.{flat_map_push}

-- one piece more than there are lines
count_pieces : (text : List ℕ) → length (pieces 10 text) ≡ line_count text + 1
count_pieces [] = refl
count_pieces (c ∷ text) =
    cases (eqb c 10) (pieces 10 text) (count_next (λ (d : ℕ). eqb d 10) c text)
    (count_pieces text)
  where
    cases : (b : Bool) (found : List (List ℕ))
        → line_count (c ∷ text) ≡ cond b 1 0 + line_count text
        → length found ≡ line_count text + 1
        → length (with_byte b c found) ≡ line_count (c ∷ text) + 1
    cases true found count rest = omega arith
    cases false [] count rest = absurd (omega arith)
    cases false (piece ∷ found) count rest = omega arith

-- the last piece isn't one of them
pub no_last : (text : List ℕ) (k count : ℕ) (item : List ℕ) → count ≤ line_count text
    → k < count → drop k (pieces 10 text) ≡ item ∷ [] → ⊥
no_last text k count item most low last =
    let all = count_pieces text in
    let rest = length-drop k (pieces 10 text) in
    let one : length (drop k (pieces 10 text)) ≡ 1 =
    ap (λ (l : List (List ℕ)). length l) last in
    omega arith

take_tail : {X : Type 0} (xs : List X) (k : ℕ) (x : X) (rest : List X) → drop k xs ≡ x ∷ rest
    → take (k + 1) xs ≡ take k xs ++ x ∷ []
take_tail xs zero x rest e = ap (take 1) e
take_tail [] (suc k) x rest e = cc
take_tail {X} (y ∷ xs) (suc k) x rest e =
    ap (λ (n : ℕ). take n (y ∷ xs)) (let h : suc k + 1 ≡ suc (k + 1) = omega arith in h)
    ∙ ap (λ (l : List X). y ∷ l) (take_tail xs k x rest e)

pub left_more : (text : List ℕ) (k : ℕ) (item rest : List ℕ)
    → drop k (pieces 10 text) ≡ item ∷ pieces 10 rest
    → pieces 10 rest ≡ drop (k + 1) (pieces 10 text)
left_more text k item rest e = sym (sym (drop-drop 1 k (pieces 10 text)) ∙ ap (drop 1) e)

pub written_more : (text : List ℕ) (k : ℕ) (item : List ℕ) (rest : List (List ℕ))
    (into now mid new : List ℕ) → drop k (pieces 10 text) ≡ item ∷ rest
    → now ≡ into ++ flat_map spaced_item (take k (pieces 10 text)) → mid ≡ now ++ codes " "
    → new ≡ mid ++ item → new ≡ into ++ flat_map spaced_item (take (k + 1) (pieces 10 text))
written_more text k item rest into now mid new e was space made =
    let found = pieces 10 text in
    made ∙ ap (λ (l : List ℕ). l ++ item) space
    ∙ append_assoc now (codes " ") item
    ∙ ap (λ (l : List ℕ). l ++ spaced_item item) was
    ∙ append_assoc into (flat_map spaced_item (take k found)) (spaced_item item)
    ∙ ap (λ (l : List ℕ). into ++ l)
    (sym (flat_map_push spaced_item (take k found) item)
    ∙ ap (flat_map spaced_item) (sym (take_tail found k item rest e)))

-- the items, of which there are some, and more than 8 or not
abbrev shown : List ℕ → List ℕ
shown text = flat_map spaced_item (take (min (line_count text) 8) (pieces 10 text))

module _ (text into mid : List ℕ) (some : eqb (line_count text) 0 ≡ false)
    (made : mid ≡ into ++ shown text) where
  pub few_items : line_count text ≤ 8 → mid ≡ into ++ first_items text
  few_items few =
      made
      ∙ ap (λ (l : List ℕ). into ++ l)
      (sym
      (ap (λ (b : Bool). cond b (codes " -")
      (shown text ++ cond (nat_lt 8 (line_count text)) (codes " ..") [])) some
      ∙ ap (λ (b : Bool). shown text ++ cond b (codes " ..") [])
      (le-ltb 8 (line_count text) few)
      ∙ append-nil (shown text)))

  pub many_items : (new : List ℕ) → 8 < line_count text → new ≡ mid ++ codes " .."
      → new ≡ into ++ first_items text
  many_items new many more =
      more ∙ ap (λ (l : List ℕ). l ++ codes " ..") made
      ∙ append_assoc into (shown text) (codes " ..")
      ∙ ap (λ (l : List ℕ). into ++ l)
      (sym
      (ap (λ (b : Bool). cond b (codes " -")
      (shown text ++ cond (nat_lt 8 (line_count text)) (codes " ..") [])) some
      ∙ ap (λ (b : Bool). shown text ++ cond b (codes " ..") [])
      (lt-ltb 8 (line_count text) many)))
