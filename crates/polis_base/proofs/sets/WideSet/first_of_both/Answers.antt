use Rattle.std.proofs.Common.{◌≡◌, ◌∙◌, ◌&&◌, ◌==◌, ℕ, List, filter, get_or, length, slice_get, slice_index, arith, ap, sym}
use Rattle.std.specs.Int.{bit_at}
use Rattle.std.proofs.lemmas.List.{get_or_default}
use Rattle.polis_base.specs.Sets.{has_member, members_of}
use Rattle.polis_base.proofs.WideSets.{first_found, none_found}
use Rattle.polis_base.proofs.sets.WideSet.first_of_both.Goals as goal

pub returns-then-not-is_empty : goal.returns-then-not-is_empty
returns-then-not-is_empty c =
    let a : List ℕ = c.self.inside.words in
    let b : List ℕ = c.other.inside.words in
    let w = c.loop-w.w in
    let long : length a ≡ 8 = c.self.invariant in
    let as_long : length b ≡ 8 = c.other.invariant in
    let low = c.loop-w-test.true in
    let here = get_or_default a w 0 c.index-self-w.result (omega arith) in
    let there = get_or_default b w 0 c.index-other-w.result (omega arith) in
    let bits : (i : ℕ) → (bit_at (slice_index a w) i == 1 && bit_at (slice_index b w) i == 1)
    ≡ (bit_at c.both-word.result i == 1) = λ i.
    ap (λ n. bit_at n i == 1 && bit_at (slice_index b w) i == 1) here
    ∙ ap (λ n. bit_at (get_or a w c.index-self-w.result) i == 1 && bit_at n i == 1) there
    ∙ sym (c.both-word.ensures i) in
    sym (first_found a b w c.least.result c.loop-w-test.true c.least.ensures.below
    c.loop-w.invariant (bits c.least.result ∙ ap (λ n. n == 1) c.least.ensures.member)
    (λ i below. bits i ∙ ap (λ n. n == 1) (c.least.ensures.none_before i below)))
    ∙ ap (λ (xs : List ℕ). slice_get (filter (has_member b) (members_of xs)) 0) c.self.view_is
    ∙ ap (λ (xs : List ℕ). slice_get (filter (has_member xs) (members_of c.args.self.now)) 0)
    c.other.view_is

pub returns : goal.returns
returns c =
    let a : List ℕ = c.self.inside.words in
    let b : List ℕ = c.other.inside.words in
    let done = c.loop-w-test.false in
    sym (none_found a b (λ k i low. c.loop-w.invariant k i (omega arith)))
    ∙ ap (λ (xs : List ℕ). slice_get (filter (has_member b) (members_of xs)) 0) c.self.view_is
    ∙ ap (λ (xs : List ℕ). slice_get (filter (has_member xs) (members_of c.args.self.now)) 0)
    c.other.view_is
