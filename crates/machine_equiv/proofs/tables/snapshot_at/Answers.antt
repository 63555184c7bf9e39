use Rattle.std.proofs.Common.{◌<◌, ℕ, List, [], ◌∷◌, ◌++◌, length, take, get_or, Some, sym, ap, ◌∙◌, arith}
use Rattle.std.proofs.lemmas.List.{take_more, take_all}
use Rattle.std.proofs.lemmas.Option.{slice_get-get_or}
use Rattle.domains.specs.AllCodes.{all_codes}
use Rattle.domains.specs.Tables.{fits}
use Rattle.domains.proofs.AllCodes.{lists_fit}
use Rattle.domains.proofs.Ranks.{length_fits}
use Rattle.machine_equiv.proofs.AreEqualOnes.{code_at}
use Rattle.machine_equiv.proofs.tables.snapshot_at.Goals as goal
use Rattle.polis_base.proofs.ListTests.{all_get}

pub loop-v-preserved : goal.loop-v-preserved
loop-v-preserved c =
    let vars = c.args.vars.now in
    let i = c.args.i in
    let v = c.loop-v.v in
    let point : List ℕ = get_or (all_codes vars) i [] in
    let low : v < length vars = let e = c.len-v-end.ensures.len in let t = c.loop-v-test.true in
    omega arith in
    let long = length_fits vars point (all_get (fits vars) (all_codes vars) i point (lists_fit vars)
    (slice_get-get_or (all_codes vars) i [] c.requires.place)) in
    c.in_ok-push.ensures.ok
    ∙ ap (λ (xs : List ℕ). xs ++ c.get-in-loop-v.result.now ∷ []) c.loop-v.invariant
    ∙ ap (λ (x : ℕ). take v point ++ x ∷ [])
    (code_at vars c.args.columns.now v i c.get.result.now c.get-in-loop-v.result.now
    c.requires.columns low c.requires.place c.get.ensures c.get-in-loop-v.ensures)
    ∙ sym (take_more point v 0 (omega arith))

pub returns : goal.returns
returns c =
    let vars = c.args.vars.now in
    let i = c.args.i in
    let v = c.loop-v.v in
    let point : List ℕ = get_or (all_codes vars) i [] in
    let there = slice_get-get_or (all_codes vars) i [] c.requires.place in
    let long = length_fits vars point (all_get (fits vars) (all_codes vars) i point (lists_fit vars)
    there) in
    there
    ∙ ap (λ (xs : List ℕ). Some xs)
    (sym (c.loop-v.invariant
    ∙ take_all v point (let e = c.len-v-end.ensures.len in let t = c.loop-v-test.false in
    omega arith)))
