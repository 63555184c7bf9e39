use Rattle.std.proofs.Common.{◌≡◌, ◌∙◌, ⊎_elim, ◌+◌, ◌-◌, ◌*◌, ◌<◌, ◌≤◌, ℕ, zero, suc, List, length, slice_index, slice_set, get_or-set_other, arith, sym, ap, subst}
use Rattle.std.proofs.lemmas.Bool.{cases_lt}
use Rattle.std.proofs.lemmas.List.{length-set}
use Rattle.order_sift.specs.inner.Pairs.{AreBelow, HasRoom, HaveFirsts, key_of, pair_at}
use Rattle.order_sift.proofs.PairKeys.{below_set, first_more, room_kept, same_first, same_parts}
use Rattle.order_sift.proofs.pairs.chained.Goals as goal
use Rattle.order_sift.proofs.pairs.chained.Goals.{then-codes-i-gt0, else-codes-i-gt0}

-- a place with another code than the first isn't among the first ones
stride_low : (code stride i : ℕ) → 0 < code → code * stride ≤ i + 0 * stride → stride ≤ i
stride_low zero stride i some low = absurd (omega arith)
stride_low (suc code) stride i some low = omega arith

-- a write at a place leaves the pairs up to there
pair_kept : (made classes : List ℕ) (stride i x p : ℕ) → 0 < stride → stride ≤ i → p ≤ i
    → pair_at (slice_set made i x) classes stride p ≡ pair_at made classes stride p
pair_kept made classes stride i x p some early low =
    ap (λ (n : ℕ). key_of n (slice_index (slice_set made i x) (p - stride)) (slice_index classes p))
    (length-set made i x)
    ∙ ap (λ (k : ℕ). key_of (length made) k (slice_index classes p))
    (get_or-set_other made i (p - stride) x 0 (λ e. omega arith))

pub first_with-first-requires-clause-pairs : goal.first_with-first-requires-clause-pairs
first_with-first-requires-clause-pairs c =
    let classes = c.args.classes.now in
    let made = c.loop-i.made in
    let inv = c.loop-i.invariant in
    let shown = c.as_slice.ensures in
    let long : length c.as_slice.result.now ≡ length classes =
    ap (λ (xs : List ℕ). length xs) shown ∙ inv.long in
    let few = c.requires.few in
    record {
      room = subst (λ (k : ℕ). HasRoom k c.loop-i.seen) (sym long) inv.room;
      few = omega arith;
      long = sym long;
      one_below = subst (λ (xs : List ℕ). AreBelow (length xs) xs) (sym shown)
          (subst (λ (k : ℕ). AreBelow k made) (sym inv.long) inv.below);
      other_below = λ k lk. let b = c.requires.below k lk in omega arith;
    }

pub first_with-first-requires-clause-early : goal.first_with-first-requires-clause-early
first_with-first-requires-clause-early c =
    let codes_long = c.requires.codes.long in
    let li = c.loop-i-test.true in
    stride_low (slice_index c.args.codes.now c.loop-i.i) c.args.stride c.loop-i.i
    c.if-codes-i-gt0.true (c.requires.codes.within c.loop-i.i (omega arith)).0

pub loop-i-preserved : goal.loop-i-preserved
loop-i-preserved c =
    let classes = c.args.classes.now in
    let codes = c.args.codes.now in
    let stride = c.args.stride in
    let n = length classes in
    let i = c.loop-i.i in
    let inv = c.loop-i.invariant in
    let old = c.loop-i.made in
    let now = c.if-codes-i-gt0 in
    let li : i < n = c.loop-i-test.true in
    let long = inv.long in
    let paired = λ (p : ℕ). 0 < slice_index codes p in
    elim c.if-codes-i-gt0.branch [
      | then-codes-i-gt0 w ↦
          let call = w.first_with-first in
          let x = call.result in
          let shown = w.as_slice.ensures in
          let made_is : now.made ≡ slice_set old i x = w.made-is ∙ w.set.ensures in
          let within = subst (λ (xs : List ℕ). x ≤ i) shown call.ensures.range.1 in
          let low : x < n = omega arith in
          let some = w.if-codes-i-gt0.true in
          let stride_some = c.requires.stride in
          let codes_long = c.requires.codes.long in
          let early = stride_low (slice_index codes i) stride i some
          (c.requires.codes.within i (omega arith)).0 in
          let firsts = first_more (pair_at old classes stride)
          (pair_at (slice_set old i x) classes stride) c.loop-i.seen call.new.seen old stride i x
          paired (omega arith) within call.ensures.range.0
          (subst (λ (xs : List ℕ). pair_at xs classes stride x ≡ pair_at xs classes stride i) shown
          call.ensures.is)
          (subst (λ (xs : List ℕ). slice_index call.new.seen (pair_at xs classes stride i) ≡ x)
          shown call.ensures.seen)
          (subst (λ (xs : List ℕ). (k : ℕ) → (k ≡ pair_at xs classes stride i → ⊥)
          → slice_index call.new.seen k ≡ slice_index c.loop-i.seen k) shown call.ensures.kept)
          (subst (λ (xs : List ℕ). (p : ℕ)
          → slice_index c.loop-i.seen (pair_at xs classes stride i) ≡ p → p < i → stride ≤ p
          → pair_at xs classes stride p ≡ pair_at xs classes stride i → x ≡ p) shown
          call.ensures.again)
          (λ p lp. pair_kept old classes stride i x p stride_some early lp) inv.firsts in
          record {
            room = room_kept n _ _ (ap (λ (xs : List ℕ). length xs) w.seen-is ∙ call.auto.seen)
                inv.room;
            long = ap (λ (xs : List ℕ). length xs) made_is ∙ length-set old i x ∙ long;
            below = subst (AreBelow n) (sym made_is) (below_set n i x old low inv.below);
            rest = λ p lp. ap (λ (xs : List ℕ). slice_index xs p) made_is
                ∙ get_or-set_other old i p x 0 (λ e. omega arith) ∙ inv.rest p (omega arith);
            first = λ p lp z.
                ⊎_elim
                (λ less. ap (λ (xs : List ℕ). slice_index xs p) made_is
                ∙ get_or-set_other old i p x 0 (λ e. omega arith) ∙ inv.first p less z)
                (λ more.
                let e : i ≡ p = omega arith in
                let own : 0 < slice_index codes p =
                subst (λ (q : ℕ). 0 < slice_index codes q) e some in
                absurd (omega arith))
                (cases_lt p i);
            firsts = subst (λ (xs : List ℕ). HaveFirsts (pair_at now.made classes stride) xs now.made
                stride (i + 1) paired) (sym w.seen-is)
                (subst (λ (xs : List ℕ). HaveFirsts (pair_at xs classes stride) call.new.seen xs
                stride (i + 1) paired) (sym made_is) firsts);
          }
      | else-codes-i-gt0 w ↦
          let none = w.if-codes-i-gt0.false in
          record {
            room = room_kept n _ _ (ap (λ (xs : List ℕ). length xs) w.seen-is) inv.room;
            long = ap (λ (xs : List ℕ). length xs) w.made-is ∙ inv.long;
            below = subst (AreBelow n) (sym w.made-is) inv.below;
            rest = λ p lp. ap (λ (xs : List ℕ). slice_index xs p) w.made-is
                ∙ inv.rest p (omega arith);
            first = λ p lp z.
                ⊎_elim
                (λ less. ap (λ (xs : List ℕ). slice_index xs p) w.made-is ∙ inv.first p less z)
                (λ more. ap (λ (xs : List ℕ). slice_index xs p) w.made-is ∙ inv.rest p more)
                (cases_lt p i);
            firsts = subst (λ (xs : List ℕ). HaveFirsts (pair_at now.made classes stride) xs now.made
                stride (i + 1) paired) (sym w.seen-is)
                (subst (λ (xs : List ℕ). HaveFirsts (pair_at xs classes stride) c.loop-i.seen xs
                stride (i + 1) paired) (sym w.made-is) (λ p lp h.
                ⊎_elim
                (λ less. let old_first = inv.firsts p less h in
                let high = old_first.1 in
                (old_first.0, omega arith, old_first.2, old_first.3))
                (λ more.
                let e : p ≡ i = omega arith in
                let own : 0 < slice_index codes i =
                subst (λ (q : ℕ). 0 < slice_index codes q) e h in
                absurd (omega arith))
                (cases_lt p i)));
          }
    ]

pub returns-clause-numbers : goal.returns-clause-numbers
returns-clause-numbers c =
    let inv = c.loop-i.invariant in
    record { long = inv.long; below = inv.below }

pub returns-clause-more : goal.returns-clause-more
returns-clause-more c i j li lj some other_some =
    let classes = c.args.classes.now in
    let made = c.loop-i.made in
    let stride = c.args.stride in
    let inv = c.loop-i.invariant in
    let long = inv.long in
    let end : length classes ≤ c.loop-i.i = c.loop-i-test.false in
    let paired = λ (p : ℕ). 0 < slice_index c.args.codes.now p in
    let firsts = same_first (pair_at made classes stride) c.loop-i.seen made stride c.loop-i.i paired
    inv.firsts i j (omega arith) (omega arith) some other_some in
    let bi = inv.below (i - stride) (omega arith) in
    let bj = inv.below (j - stride) (omega arith) in
    let parts = same_parts (length made) (slice_index classes i) (slice_index made (i - stride))
    (slice_index classes j) (slice_index made (j - stride)) (omega arith) (omega arith) in
    (λ h. parts.0 (firsts.0 h), λ h. firsts.1 (parts.1 h))
