use Rattle.std.proofs.Common.{◌≡◌, ◌∙◌, ◌+◌, ◌*◌, ◌^◌, ◌<◌, ◌≤◌, ℕ, length, slice_index, sym, ap, subst, arith}
use Rattle.std.proofs.Math.Nat.{mul-le-mul_right}
use Rattle.std.proofs.lemmas.Option.{get_or_from_slice_get}
use Rattle.cost_bound.specs.declared.score.Score.{Score}
use Rattle.cost_bound.specs.inner.Scores.{IsSmall, nothing, score_of}
use Rattle.cost_bound.proofs.score.by_code.Goals.{After-get-ahead}
use Rattle.cost_bound.proofs.score.by_code.Goals as goal

-- the score that is read
read_here : (c : After-get-ahead)
    → score_of c.args.scores.now (slice_index c.args.targets.now c.args.code)
    ≡ c.get-ahead.result.now
read_here c =
    ap (score_of c.args.scores.now)
    (get_or_from_slice_get c.args.targets.now c.args.code c.get.result.now 0 c.get.ensures)
    ∙ get_or_from_slice_get c.args.scores.now c.get.result.now c.get-ahead.result.now nothing
    c.get-ahead.ensures

product_few : (code long weight : ℕ) → code < long → weight * long ≤ 65536
    → code * weight ≤ 65536
product_few code long weight low few =
    let most = mul-le-mul_right {m = code} {n = long} weight (omega arith) in
    omega (arith, most)

few_fits : (n : ℕ) → n ≤ 65536 → n < 18446744073709551616
few_fits n few = omega arith

sum_fits : (p n : ℕ) → p ≤ 65536 → n ≤ 65536 * 2 ^ 43 → p + n < 18446744073709551616
sum_fits p n few most = omega arith

pub get-requires : goal.get-requires
get-requires c = c.requires.code

pub get-ahead-requires : goal.get-ahead-requires
get-ahead-requires c =
    subst (λ (k : ℕ). k < length c.args.scores.now)
    (get_or_from_slice_get c.args.targets.now c.args.code c.get.result.now 0 c.get.ensures)
    c.requires.within

pub overflow_mul-result : goal.overflow_mul-result
overflow_mul-result c = record {
  fits = few_fits (c.args.code * c.args.weight)
      (product_few c.args.code (length c.args.targets.now) c.args.weight c.requires.code
      c.requires.weight);
}

pub overflow_add-result : goal.overflow_add-result
overflow_add-result c = record {
  fits = sum_fits (c.args.code * c.args.weight) c.get-ahead.result.now.number
      (product_few c.args.code (length c.args.targets.now) c.args.weight c.requires.code
      c.requires.weight)
      (subst (IsSmall (2 ^ 43)) (read_here (goal.at.overflow_add-result c).After-get-ahead)
      c.requires.small).number_few;
}

pub returns-clause-cost : goal.returns-clause-cost
returns-clause-cost c =
    ap (λ (s : Score). s.cost) (sym (read_here (goal.at.returns-clause-cost c).After-get-ahead))

pub returns-clause-number : goal.returns-clause-number
returns-clause-number c =
    ap (λ (s : Score). c.args.code * c.args.weight + s.number)
    (sym (read_here (goal.at.returns-clause-number c).After-get-ahead))
