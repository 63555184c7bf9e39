use Rattle.std.proofs.Common.{◌≡◌, ◌∙◌, ◌+◌, ◌-◌, ◌++◌, ◌∷◌, [], ℕ, List, length, replicate, slice_set, arith, ap, sym}
use Rattle.std.proofs.lemmas.List.{append-nil}
use Rattle.transition_table.specs.Transitions.{codes_given}
use Rattle.outcome_table.proofs.Rows.{given_apart, given_long, given_more, room, set_first, set_next}
use Rattle.outcome_table.proofs.row.row_codes.Goals as goal

pub loop-y-init : goal.loop-y-init
loop-y-init c =
    record {
      some = omega arith;
      codes = c.set.ensures
          ∙ ap (λ (xs : List ℕ). slice_set xs 0 1)
          (c.in_ok-codes.ensures ∙ ap (λ n. replicate n 0) c.from.ensures)
          ∙ set_first c.result_count-count.result
          (let e = c.result_count-count.ensures.count in omega arith);
    }

pub set-requires-in-loop-y : goal.set-requires-in-loop-y
set-requires-in-loop-y c =
    let m = c.args.machine.now in
    let s = c.args.s.now.codes in
    let acts = c.args.row.now.acts in
    let y = c.loop-y.y in
    let some = c.loop-y.invariant.some in
    let inside = room c.loop-y.codes (1 ∷ codes_given m s acts 1 (y - 1)) y
    c.result_count-count.result c.loop-y.invariant.codes (given_long m s acts y some)
    c.loop-y-test.true in
    let e = c.from-in-loop-y.ensures in
    omega arith

pub loop-y-preserved : goal.loop-y-preserved
loop-y-preserved c =
    let m = c.args.machine.now in
    let s = c.args.s.now.codes in
    let acts = c.args.row.now.acts in
    let y = c.loop-y.y in
    let some = c.loop-y.invariant.some in
    let count = c.result_count-count.result in
    let xs : List ℕ = 1 ∷ codes_given m s acts 1 (y - 1) in
    let zeros : List ℕ = replicate (count - (y + 1)) 0 in
    record {
      some = omega arith;
      codes = c.set-in-loop-y.ensures
          ∙ ap (λ (k : ℕ). slice_set c.loop-y.codes k c.code_for.result) c.from-in-loop-y.ensures
          ∙ ap (λ (ys : List ℕ). slice_set ys y c.code_for.result) c.loop-y.invariant.codes
          ∙ set_next xs y count c.code_for.result (given_long m s acts y some) c.loop-y-test.true
          ∙ ap (λ (k : ℕ). (xs ++ k ∷ []) ++ zeros) c.code_for.ensures
          ∙ ap (λ (ys : List ℕ). (1 ∷ ys) ++ zeros) (sym (given_more m s acts y some));
    }

pub returns : goal.returns
returns c =
    let m = c.args.machine.now in
    let some = c.loop-y.invariant.some in
    let e = c.result_count-count.ensures.count in
    let done : c.loop-y.y ≡ c.result_count-count.result = let a = c.loop-y-test.false in
    let b = c.loop-y.auto.y-end in omega arith in
    let none : c.result_count-count.result - c.loop-y.y ≡ 0 = omega arith in
    let all : c.loop-y.y - 1 ≡ length m.states + length m.outputs = omega arith in
    let xs : List ℕ = 1 ∷ codes_given m c.args.s.now.codes c.args.row.now.acts 1 (c.loop-y.y - 1) in
    c.loop-y.invariant.codes
    ∙ ap (λ (n : ℕ). xs ++ replicate n 0) none
    ∙ append-nil xs
    ∙ ap (λ (ys : List ℕ). 1 ∷ ys)
    (given_apart m c.args.s.now.codes c.args.row.now.acts (c.loop-y.y - 1) (length m.states)
    (length m.outputs) all)
