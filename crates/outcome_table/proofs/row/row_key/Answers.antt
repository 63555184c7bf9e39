use Rattle.std.proofs.Common.{◌≡◌, ◌∙◌, ◌+◌, ◌-◌, ◌++◌, ◌∷◌, [], ℕ, List, length, arith, ap, sym}
use Rattle.transition_table.specs.Transitions.{code_given, codes_given}
use Rattle.outcome_table.proofs.Rows.{given_apart, given_more}
use Rattle.outcome_table.proofs.row.row_key.Goals as goal

pub loop-y-preserved : goal.loop-y-preserved
loop-y-preserved c =
    let m = c.args.machine.now in
    let s = c.args.s.now.codes in
    let acts = c.args.row.now.acts in
    let y = c.loop-y.y in
    let some = c.loop-y.invariant.some in
    let code : c.from.result ≡ code_given m s acts y = c.from.ensures ∙ c.code_for.ensures in
    record {
      some = omega arith;
      codes = c.in_ok-push-2.ensures.items
          ∙ ap (λ (xs : List ℕ). xs ++ c.from.result ∷ []) c.loop-y.invariant.codes
          ∙ ap (λ (k : ℕ). (1 ∷ codes_given m s acts 1 (y - 1)) ++ k ∷ []) code
          ∙ ap (λ (xs : List ℕ). 1 ∷ xs) (sym (given_more m s acts y some));
    }

pub returns : goal.returns
returns c =
    let m = c.args.machine.now in
    let some = c.loop-y.invariant.some in
    let all : c.loop-y.y - 1 ≡ length m.states + length m.outputs = let a = c.loop-y-test.false in
    let b = c.loop-y.auto.y-end in let e = c.result_count-y-end.ensures.count in omega arith in
    c.loop-y.invariant.codes
    ∙ ap (λ (ys : List ℕ). 1 ∷ ys)
    (given_apart m c.args.s.now.codes c.args.row.now.acts (c.loop-y.y - 1) (length m.states)
    (length m.outputs) all)
