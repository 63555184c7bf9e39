-- Levels of prefixes, and of what comes after them.
use Rattle.std.proofs.Common.{◌≡◌, ℕ, ◌+◌, Bool, ◌||◌, List, ◌∷◌, ◌++◌, take, drop, refl, ap, sym, ◌∙◌, arith, []}
use Rattle.std.proofs.lemmas.List.{append_assoc, append-nil}
use Rattle.decision_diagram.specs.Laws.{SizeBySets}
use Rattle.decision_diagram.specs.Sets.{stands, set_level, sum_of_levels}
use Rattle.order_sift.specs.Laws.{LevelsOfSets, LevelsJoin, LevelsAfter, SizeWithItem}
use Rattle.char_function.proofs.AreSupports.{stands_both}

pub levels_of_sets : LevelsOfSets
levels_of_sets f sizes one other v same =
    ap (λ (set : ℕ → Bool). set_level f sizes set v) (λ i w. same w i)

pub levels_join : LevelsJoin
levels_join f sizes before [] ys =
    ap (λ (prefix : List ℕ). sum_of_levels f sizes prefix ys) (sym (append-nil before))
    ∙ (let e : sum_of_levels f sizes (before ++ []) ys
    ≡ 0 + sum_of_levels f sizes (before ++ []) ys = omega arith in e)
levels_join f sizes before (x ∷ xs) ys =
    let rest = levels_join f sizes (before ++ x ∷ []) xs ys in
    let same : sum_of_levels f sizes ((before ++ x ∷ []) ++ xs) ys
    ≡ sum_of_levels f sizes (before ++ x ∷ xs) ys =
    ap (λ (prefix : List ℕ). sum_of_levels f sizes prefix ys)
    (append_assoc before (x ∷ []) xs) in
    omega arith

pub levels_after : LevelsAfter
levels_after f sizes one other [] same = refl
levels_after f sizes one other (v ∷ vs) same =
    let here = levels_of_sets f sizes (stands one) (stands other) v same in
    let rest = levels_after f sizes (one ++ v ∷ []) (other ++ v ∷ []) vs
    (λ w. stands_both one (v ∷ []) w ∙ ap (λ (b : Bool). b || stands (v ∷ []) w) (same w)
    ∙ sym (stands_both other (v ∷ []) w)) in
    omega arith

pub size_with_item : SizeBySets → SizeWithItem
size_with_item by_sets f sizes rest x j perm long sized =
    sym (by_sets f sizes (take j rest ++ x ∷ drop j rest) perm long sized)
    ∙ levels_join f sizes [] (take j rest) (x ∷ drop j rest)
