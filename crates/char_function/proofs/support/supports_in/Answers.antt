use Rattle.std.proofs.Common.{◌≡◌, ◌∙◌, ◌++◌, ◌∷◌, [], ℕ, List, map, length, sym, ap, subst, arith}
use Rattle.std.specs.Prelude.{filter}
use Rattle.polis_base.specs.Lists.{upto}
use Rattle.domains.specs.AllCodes.{all_codes}
use Rattle.transition_table.specs.Computed.{all_supports, result_code, support_of}
use Rattle.char_function.specs.inner.Columns.{varies}
use Rattle.char_function.specs.Supported.{AreSupports}
use Rattle.char_function.proofs.AreSupports.{column_support, supports_more, are_supports}
use Rattle.char_function.proofs.support.supports_in.Goals as goal
use Rattle.outcome_table.proofs.Columns.{all_long}
use Rattle.polis_base.proofs.Places.{length_map}
use Rattle.transition_table.proofs.MachineCounts.{few_snapshots}

pub support-requires-clause-column : goal.support-requires-clause-column
support-requires-clause-column c =
    let m = c.args.m.now in
    ap (λ (xs : List ℕ). length xs) (c.deref.ensures.value ∙ c.in_ok-codes.ensures)
    ∙ length_map (result_code m c.loop-y.y) (all_codes m.vars) ∙ all_long m.vars

pub support-requires-clause-few : goal.support-requires-clause-few
support-requires-clause-few c =
    let few = few_snapshots c.args.m.now in
    omega arith

pub loop-y-preserved : goal.loop-y-preserved
loop-y-preserved c =
    let m = c.args.m.now in
    let y = c.loop-y.y in
    let made : c.in_ok-support.field-0 ≡ support_of m y =
    c.in_ok-support.ensures
    ∙ ap (λ (xs : List ℕ). filter (λ v. varies m.vars v xs) (upto (length m.vars)))
    (c.deref.ensures.value ∙ c.in_ok-codes.ensures)
    ∙ column_support c.laws.ensures.ranks_reach m c.var_count-vars.ensures.sizes y in
    c.in_ok-push.ensures.ok
    ∙ ap (λ (lists : List (List ℕ)). lists ++ c.in_ok-support.field-0 ∷ []) c.loop-y.invariant
    ∙ ap (λ (xs : List ℕ). map (support_of m) (upto y) ++ xs ∷ []) made
    ∙ sym (supports_more m y)

pub returns-clause-exact : goal.returns-clause-exact
returns-clause-exact c =
    let m = c.args.m.now in
    let all : c.loop-y.y ≡ length m.results = let a = c.loop-y-test.false in
    let b = c.loop-y.auto.y-end in let d = c.from-y-end.ensures in
    let e = c.result_count.ensures.count in let f = c.var_count-vars.ensures.results in
    omega arith in
    let is : c.of.result ≡ all_supports m =
    c.of.ensures ∙ c.loop-y.invariant ∙ ap (λ (n : ℕ). map (support_of m) (upto n)) all in
    subst (AreSupports m) (sym is)
    (are_supports c.laws_of_computing.ensures.support_by_test m c.requires.sure)
