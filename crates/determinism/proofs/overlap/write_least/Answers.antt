use Rattle.std.proofs.Common.{◌≡◌, ◌<◌, ◌≤◌, length, slice_index, arith, ap, ◌∙◌, subst, ℕ, inl, inr}
use Rattle.std.proofs.lemmas.Bool.{cases_lt}
use Rattle.std.specs.Int.{bit_at}
use Rattle.std.proofs.lemmas.List.{length-set}
use Rattle.std.proofs.lemmas.Option.{get_or_from_slice_get}
use Rattle.determinism.proofs.LeastCodes.{written}
use Rattle.determinism.proofs.overlap.write_least.Goals as goal

-- no member is before the least
least_below : (set code other : ℕ) → ((j : ℕ) → j < code → bit_at set j ≡ 0)
    → bit_at set other ≡ 1 → code ≤ other
least_below set code other none there =
    elim (cases_lt other code) [
      | inl below ↦ absurd (let clear = none other below in omega arith)
      | inr past ↦ past
    ]

pub loop-k-preserved : goal.loop-k-preserved
loop-k-preserved c =
    let k = c.loop-k.k in
    let x = c.get.result.now in
    let codes = c.loop-k.codes in
    let sets = c.args.sets.now in
    let end = c.len-k-end.ensures in
    let below = c.loop-k-test.true in
    let same = c.loop-k.invariant.same in
    let long = c.requires.long in
    let at = get_or_from_slice_get sets k x 0 c.get.ensures in
    let there : k < length codes = omega arith in
    let code = c.least-code.result in
    record {
      same = ap length c.set.ensures ∙ length-set codes k code ∙ same;
      inside = rw c.set.ensures
          (written codes k code (λ j n. bit_at (slice_index sets j) n ≡ 1) there
          c.loop-k.invariant.inside (ap (λ n. bit_at n code) at ∙ c.least-code.ensures.member));
      least = λ j other within.
          rw c.set.ensures
          (written codes k code (λ j n. bit_at (slice_index sets j) other ≡ 1 → n ≤ other) there
          (λ j w. c.loop-k.invariant.least j other w)
          (λ set. least_below x code other c.least-code.ensures.none_before
          (subst (λ n. bit_at n other ≡ 1) at set)) j within);
    }
