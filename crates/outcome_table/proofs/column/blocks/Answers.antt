use Rattle.std.proofs.Common.{◌≡◌, ◌∙◌, ◌+◌, ◌++◌, ℕ, List, suc, flat_map, replicate, vec_len, arith, ap, sym}
use Rattle.polis_base.specs.Lists.{upto}
use Rattle.outcome_table.proofs.ListMaps.{resized}
use Rattle.outcome_table.proofs.column.blocks.Goals as goal
use Rattle.polis_base.proofs.UptoPlaces.{flat_map_upto}

pub loop-code-preserved : goal.loop-code-preserved
loop-code-preserved c =
    let times = c.args.times in
    let f : ℕ → List ℕ = λ k. replicate times k in
    let code = c.loop-code.code in
    let e : code + 1 ≡ suc code = omega arith in
    let len = c.len.ensures in
    let long = c.loop-code.made.ok.0 in
    resized c.loop-code.made.items c.resize.new.self.items (c.len.result + times)
    (vec_len c.loop-code.made) times code (omega arith) (omega arith) c.in_ok-resize.ensures.items
    ∙ ap (λ (xs : List ℕ). xs ++ f code) c.loop-code.invariant
    ∙ sym (ap (λ k. flat_map f (upto k)) e ∙ flat_map_upto f code)

pub returns : goal.returns
returns c = let done : c.loop-code.code ≡ c.args.size = let a = c.loop-code-test.false in
    let b = c.loop-code.auto.code-end in omega arith in
    c.loop-code.invariant
    ∙ ap (λ n. flat_map (λ k. replicate c.args.times k) (upto n)) done
