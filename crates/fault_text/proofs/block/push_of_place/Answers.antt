use Rattle.std.proofs.Common.{true, ◌-◌, ◌%◌, ◌++◌, ℕ, List, take, ap, ◌∙◌, arith, length-take}
use Rattle.std.specs.List.{take_while}
use Rattle.std.proofs.lemmas.List.{take_rest}
use Rattle.std.proofs.lemmas.List.Sums.{suffix_len-le-length}
use Rattle.std.proofs.lemmas.Nat.{div-add-mod'}
use Rattle.fault_text.specs.Blocks.{shown_start}
use Rattle.fault_text.specs.Positions.{is_inner}
use Rattle.fault_text.proofs.BlockText.{block_is}
use Rattle.fault_text.proofs.block.push_of_place.Goals as goal

pub overflow_sub-place : goal.overflow_sub-place
overflow_sub-place c =
    let column = c.position-at.ensures.column in
    let short = suffix_len-le-length is_inner (take c.min-place.result c.args.text.now) in
    let len = length-take c.min-place.result c.args.text.now in
    let parts = div-add-mod' (c.position-at.result.column - 1) 80 in
    omega arith

pub returns : goal.returns
returns c =
    let from = c.min-place.result - (c.position-at.result.column - 1) % 80 in
    block_is c.args.file.now c.args.text.now c.args.sentence.now c.args.place c.min-place.result
    c.position-at.result.line c.position-at.result.column c.min-place.ensures
    c.position-at.ensures.line c.position-at.ensures.column
    c.args.into.now c.push_head.new.into c.push_start.new.into c.push_mark.new.into
    c.in_ok-push_head.ensures
    (c.in_ok-push_start.ensures
    ∙ ap (λ (l : List ℕ). c.push_head.new.into ++ shown_start true l)
    (c.first_line.ensures
    ∙ ap (λ (xs : List ℕ). take_while is_inner xs) (take_rest c.args.text.now from)))
    c.in_ok-push_mark.ensures
