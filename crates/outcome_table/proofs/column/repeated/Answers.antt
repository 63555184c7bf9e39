use Rattle.std.proofs.Common.{◌≡◌, ◌∙◌, ◌+◌, ◌++◌, ℕ, List, suc, flat_map, arith, ap, sym}
use Rattle.polis_base.specs.Lists.{upto}
use Rattle.outcome_table.proofs.column.repeated.Goals as goal
use Rattle.polis_base.proofs.UptoPlaces.{flat_map_upto}

pub loop-preserved : goal.loop-preserved
loop-preserved c =
    let f : ℕ → List ℕ = λ (k : ℕ). c.args.piece.now in
    let k = c.loop.counter in
    let e : k + 1 ≡ suc k = omega arith in
    c.in_ok-extend_from_slice.ensures.items
    ∙ ap (λ (xs : List ℕ). xs ++ c.args.piece.now) c.loop.invariant
    ∙ sym (ap (λ k. flat_map f (upto k)) e ∙ flat_map_upto f k)

pub returns : goal.returns
returns c = let done : c.loop.counter ≡ c.args.times = let a = c.loop-test.false in
    let b = c.loop.auto.counter-end in omega arith in
    c.loop.invariant ∙ ap (λ n. flat_map (λ (k : ℕ). c.args.piece.now) (upto n)) done
