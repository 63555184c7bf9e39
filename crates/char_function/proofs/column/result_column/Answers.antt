use Rattle.std.proofs.Common.{◌≡◌, ◌∙◌, ◌++◌, ◌∷◌, ◌<◌, [], ℕ, List, map, take, length, get_or, slice_index, slice_set, sym, ap, arith}
use Rattle.std.proofs.lemmas.List.{take_more, take_more_set, take_all, map-append, length-set}
use Rattle.char_function.proofs.ListItems.{at_map}
use Rattle.decision_diagram.proofs.ListItems.{read}
use Rattle.char_function.proofs.IsTableOf.{number_low, result_column}
use Rattle.char_function.proofs.column.result_column.Goals as goal

pub loop-i-preserved : goal.loop-i-preserved
loop-i-preserved c =
    let m = c.args.m.now in
    let t = c.args.table.now in
    let y = c.args.y in
    let i = c.loop-i.i in
    let items = c.as_slice-numbers.result.now in
    let k = get_or items i 0 in
    let x = c.get.result.now in
    let made : List ℕ = c.loop-i.codes.items in
    let same = c.as_slice-numbers.ensures in
    let size = ap (λ (xs : List ℕ). length xs) same in
    let below = c.loop-i-test.true in
    let long = c.loop-i.invariant.long in
    let number = number_low m t c.requires.table i (omega arith) in
    let is = ap (λ (xs : List ℕ). slice_index xs i) same in
    let low : k < length t.outcomes = omega arith in
    let kept : length (slice_set made i x) ≡ length made = simp length-set in
    record {
      long = kept ∙ long;
      codes = take_more_set made i x (omega arith)
          ∙ ap (λ (xs : List ℕ). xs ++ x ∷ []) c.loop-i.invariant.codes
          ∙ ap (λ (z : ℕ). map (λ (k : ℕ). slice_index (get_or t.outcomes k []) y) (take i items)
          ++ z ∷ []) (sym (read c.in_ok-of_outcomes.of_outcomes k x 0 c.get.ensures)
          ∙ ap (λ (xs : List ℕ). slice_index xs k) c.in_ok-of_outcomes.ensures
          ∙ at_map (λ (outcome : List ℕ). slice_index outcome y) t.outcomes k [] 0 low)
          ∙ sym (map-append (λ (k : ℕ). slice_index (get_or t.outcomes k []) y) (take i items)
          (k ∷ []))
          ∙ sym (ap (map (λ (k : ℕ). slice_index (get_or t.outcomes k []) y))
          (take_more items i 0 below));
    }

pub returns : goal.returns
returns c =
    let m = c.args.m.now in
    let t = c.args.table.now in
    let y = c.args.y in
    let i = c.loop-i.i in
    let items = c.as_slice-numbers.result.now in
    let made : List ℕ = c.loop-i.codes.items in
    let end = c.loop-i-test.false in
    let long = c.loop-i.invariant.long in
    sym (take_all i made (omega arith))
    ∙ c.loop-i.invariant.codes
    ∙ ap (map (λ (k : ℕ). slice_index (get_or t.outcomes k []) y))
    (take_all i items (omega arith) ∙ c.as_slice-numbers.ensures)
    ∙ result_column m t c.requires.table y
