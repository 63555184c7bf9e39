use Rattle.std.proofs.Common.{◌≡◌, ◌∙◌, ⊎_elim, ◌+◌, ◌-◌, ◌*◌, ◌<◌, ℕ, List, length, slice_index, slice_set, get_or-set_other, get_or-set_same, arith, refl, sym, ap, subst}
use Rattle.std.proofs.lemmas.Bool.{cases_lt}
use Rattle.std.proofs.lemmas.List.{length-set}
use Rattle.std.proofs.lemmas.Option.{get_or_from_slice_get}
use Rattle.order_sift.specs.inner.Pairs.{AreBelow}
use Rattle.order_sift.proofs.PairKeys.{below_set}
use Rattle.order_sift.proofs.points.take_last.Goals as goal
use Rattle.order_sift.proofs.points.take_last.Goals.{then-codes-i, else-codes-i}

-- where the one that has the last code stands
abbrev last_at : List ℕ → ℕ → ℕ → ℕ → ℕ
last_at codes stride last p = p + last * stride - slice_index codes p * stride

-- the same for the snapshot that has the next code
next_at : (codes : List ℕ) (stride last i : ℕ)
    → slice_index codes (i + stride) ≡ slice_index codes i + 1
    → last_at codes stride last (i + stride) ≡ last_at codes stride last i
next_at codes stride last i step =
    ap (λ (k : ℕ). i + stride + last * stride - k * stride) step
    ∙ back i stride (last * stride) (slice_index codes i)
  where
    back : (i stride a c : ℕ) → i + stride + a - (c + 1) * stride ≡ i + a - c * stride
    back i stride a c = omega arith

own_at : (codes : List ℕ) (stride last i : ℕ) → slice_index codes i ≡ last
    → i ≡ last_at codes stride last i
own_at codes stride last i is =
    back i (last * stride) ∙ ap (λ (k : ℕ). i + last * stride - k * stride) (sym is)
  where
    back : (i a : ℕ) → i ≡ i + a - a
    back i a = omega arith

pub loop-t-preserved : goal.loop-t-preserved
loop-t-preserved c =
    let codes = c.args.codes.now in
    let n = length codes in
    let stride = c.args.stride in
    let last = c.args.last in
    let some = c.requires.some in
    let t = c.loop-t.t in
    let lt : t < n = c.loop-t-test.true in
    let i = n - 1 - t in
    let inv = c.loop-t.invariant in
    let old = c.loop-t.numbers in
    let start = c.args.numbers.now in
    let now = c.if-codes-i in
    let long = inv.long in
    elim c.if-codes-i.branch [
      | then-codes-i w ↦
          let step = c.requires.steps i (omega arith) w.if-codes-i.true in
          let inside = step.0 in
          let x = w.get-number.result.now in
          let is : now.numbers ≡ slice_set old i x = w.numbers-is ∙ w.set.ensures in
          let read : slice_index old (i + stride) ≡ x =
          get_or_from_slice_get old (i + stride) x 0 w.get-number.ensures in
          let low : x < n = subst (λ (k : ℕ). k < n) read (inv.below (i + stride) (omega arith)) in
          let value : x ≡ slice_index start (last_at codes stride last i) =
          sym read ∙ inv.each (i + stride) inside (omega arith)
          ∙ ap (slice_index start) (next_at codes stride last i step.1) in
          record {
            long = ap (λ (xs : List ℕ). length xs) is ∙ length-set old i x ∙ long;
            below = subst (AreBelow n) (sym is) (below_set n i x old low inv.below);
            kept = λ p lp. ap (λ (xs : List ℕ). slice_index xs p) is
                ∙ get_or-set_other old i p x 0 (λ e. omega arith) ∙ inv.kept p (omega arith);
            each = λ p lp high. ap (λ (xs : List ℕ). slice_index xs p) is
                ∙ ⊎_elim
                (λ less. get_or-set_other old i p x 0 (λ e. omega arith)
                ∙ inv.each p lp (omega arith))
                (λ more.
                let e : i ≡ p = omega arith in
                subst (λ (q : ℕ). slice_index (slice_set old i x) q
                ≡ slice_index start (last_at codes stride last q)) e
                (get_or-set_same old i x 0 (omega arith) ∙ value))
                (cases_lt i p);
          }
      | else-codes-i w ↦
          let most = c.requires.most i (omega arith) in
          let high = w.if-codes-i.false in
          let whole : slice_index codes i ≡ last = omega arith in
          record {
            long = ap (λ (xs : List ℕ). length xs) w.numbers-is ∙ long;
            below = subst (AreBelow n) (sym w.numbers-is) inv.below;
            kept = λ p lp. ap (λ (xs : List ℕ). slice_index xs p) w.numbers-is
                ∙ inv.kept p (omega arith);
            each = λ p lp high. ap (λ (xs : List ℕ). slice_index xs p) w.numbers-is
                ∙ ⊎_elim
                (λ less. inv.each p lp (omega arith))
                (λ more.
                let e : i ≡ p = omega arith in
                subst (λ (q : ℕ). slice_index old q
                ≡ slice_index start (last_at codes stride last q)) e
                (inv.kept i (omega arith) ∙ ap (slice_index start) (own_at codes stride last i whole)))
                (cases_lt i p);
          }
    ]

pub loop-t-init : goal.loop-t-init
loop-t-init c =
    let numbers = c.requires.numbers in
    record {
      long = numbers.long;
      below = numbers.below;
      kept = λ p lp. refl;
      each = λ p lp high. absurd (omega arith);
    }

pub returns-clause-numbers : goal.returns-clause-numbers
returns-clause-numbers c =
    let inv = c.loop-t.invariant in
    record { long = inv.long; below = inv.below }
