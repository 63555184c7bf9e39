use Rattle.std.proofs.Common.{◌∙◌, ◌++◌, ◌∷◌, ◌<◌, [], ℕ, List, map, take, length, get_or, slice_index, sym, ap, arith}
use Rattle.std.proofs.lemmas.List.{take_more, take_all, map-append}
use Rattle.decision_diagram.proofs.ListItems.{read}
use Rattle.char_function.proofs.column.codes_of.Goals as goal

pub loop-k-preserved : goal.loop-k-preserved
loop-k-preserved c =
    let all = c.args.table.now.outcomes in
    let y = c.args.y in
    let k = c.loop-k.k in
    let low : k < length all = let a = c.loop-k-test.true in let b = c.len-k-end.ensures in
    omega arith in
    c.in_ok-push.ensures.ok
    ∙ ap (λ (xs : List ℕ). xs ++ c.code_in_outcome.result ∷ []) c.loop-k.invariant
    ∙ ap (λ (x : ℕ). map (λ (outcome : List ℕ). slice_index outcome y) (take k all) ++ x ∷ [])
    (c.code_in_outcome.ensures ∙ ap (λ (outcome : List ℕ). slice_index outcome y)
    (sym (read all k c.get.result.now [] c.get.ensures)))
    ∙ sym (map-append (λ (outcome : List ℕ). slice_index outcome y) (take k all)
    (get_or all k [] ∷ []))
    ∙ sym (ap (map (λ (outcome : List ℕ). slice_index outcome y)) (take_more all k [] low))

pub returns : goal.returns
returns c =
    let all = c.args.table.now.outcomes in
    c.loop-k.invariant
    ∙ ap (map (λ (outcome : List ℕ). slice_index outcome c.args.y))
    (take_all c.loop-k.k all (let a = c.loop-k-test.false in let b = c.len-k-end.ensures in
    omega arith))
