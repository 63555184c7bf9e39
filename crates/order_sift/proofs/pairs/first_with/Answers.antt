use Rattle.std.proofs.Common.{◌≡◌, ◌∙◌, ◌+◌, ◌-◌, ◌*◌, ◌<◌, ◌≤◌, ℕ, List, length, slice_index, arith, ap, subst, sym}
use Rattle.std.proofs.Math.Nat.{mul-le-mul_right}
use Rattle.order_sift.specs.inner.Pairs.{ArePairs}
use Rattle.order_sift.proofs.PairKeys.{key_low, key_parts}
use Rattle.order_sift.proofs.pairs.first_with.Goals as goal
use Rattle.order_sift.proofs.pairs.first_with.Goals.{Start, then-first-i+then-first-stride+else-one-first, else-one-first-via-then-one-first+else-other-first, else-one-first-via-else-one-first, else-first-i, else-first-i-via-then-first-i+else-first-stride, else-first-i-via-else-first-i}

place_early : (stride i n : ℕ) → i < n → i - stride < n
place_early stride i n low = omega arith

pub bounds-one-i : goal.bounds-one-i
bounds-one-i c = place_early c.args.stride c.args.i (length c.args.one.now) c.requires.place

pub bounds-other-i : goal.bounds-other-i
bounds-other-i c = subst (λ (n : ℕ). c.args.i < n) (sym c.requires.pairs.long) c.requires.place

-- what is known of a pair's number
record IsKey (key room : ℕ) : Type 0 where
  low : key < room
  few : key ≤ 1082368

is_key : (n a b room : ℕ) → b < n → a < n + 33 → n * (n + 33) ≤ room → n ≤ 1024
    → IsKey (a * n + b) room
is_key n a b room low other wide few =
    let h = mul-le-mul_right {m = a + 1} {n = n + 33} n (omega arith) in
    let most = mul-le-mul_right {m = n + 33} {n = 1057} n (omega arith) in
    record { low = key_low n a b room low other wide; few = omega (arith, h, most) }

key_here : (one other seen : List ℕ) (stride i : ℕ) → ArePairs one other seen → i < length one
    → IsKey (slice_index other i * length one + slice_index one (i - stride)) (length seen)
key_here one other seen stride i pairs place =
    let long = pairs.long in
    is_key (length one) (slice_index other i) (slice_index one (i - stride)) (length seen)
    (pairs.one_below (i - stride) (omega arith)) (pairs.other_below i (omega arith)) pairs.room
    pairs.few

here : (c : Start)
    → IsKey (slice_index c.args.other.now c.args.i * length c.args.one.now
    + slice_index c.args.one.now (c.args.i - c.args.stride)) (length c.args.seen.now)
here c =
    key_here c.args.one.now c.args.other.now c.args.seen.now c.args.stride c.args.i
    c.requires.pairs c.requires.place

mul_few : (a n b : ℕ) → a * n + b ≤ 1082368 → a * n < 18446744073709551616
mul_few a n b few = omega arith

key_fits : (key : ℕ) → key ≤ 1082368 → key < 18446744073709551616
key_fits key few = omega arith

offset_fits : (key : ℕ) → key ≤ 1082368 → key * 2 < 18446744073709551616
offset_fits key few = omega arith

place_fits : (i n : ℕ) → i < n → n ≤ 1024 → i < 65536
place_fits i n low few = omega arith

pub overflow_mul-key : goal.overflow_mul-key
overflow_mul-key c = record {
  fits = mul_few (slice_index c.args.other.now c.args.i) (length c.args.one.now)
      (slice_index c.args.one.now (c.args.i - c.args.stride))
      (here (goal.at.overflow_mul-key c).Start).few;
}

pub overflow_add-key : goal.overflow_add-key
overflow_add-key c = record {
  fits = key_fits _ (here (goal.at.overflow_add-key c).Start).few;
}

pub offset_bounds-seen-key : goal.offset_bounds-seen-key
offset_bounds-seen-key c = record {
  fits = offset_fits _ (here (goal.at.offset_bounds-seen-key c).Start).few;
}

pub offset_bounds-seen-key-2 : goal.offset_bounds-seen-key-2
offset_bounds-seen-key-2 c = record {
  fits = offset_fits _ (here (goal.at.offset_bounds-seen-key-2 c).Start).few;
}

pub overflow_cast-seen : goal.overflow_cast-seen
overflow_cast-seen c = record {
  fits = place_fits c.args.i (length c.args.one.now) c.requires.place c.requires.pairs.few;
}

pub bounds-seen-key : goal.bounds-seen-key
bounds-seen-key c = (here (goal.at.bounds-seen-key c).Start).low

pub bounds-seen-key-2 : goal.bounds-seen-key-2
bounds-seen-key-2 c =
    let one = c.args.one.now in
    let other = c.args.other.now in
    let place = c.requires.place in
    let long = c.requires.pairs.long in
    key_low (length one) (slice_index other c.args.i) (slice_index one (c.args.i - c.args.stride))
    (length c.args.seen.now) (c.requires.pairs.one_below (c.args.i - c.args.stride) (omega arith))
    (c.requires.pairs.other_below c.args.i (omega arith)) c.requires.pairs.room

pub returns-clause-again : goal.returns-clause-again
returns-clause-again c p is low early same =
    let one = c.args.one.now in
    let other = c.args.other.now in
    let stride = c.args.stride in
    let i = c.args.i in
    let place = c.requires.place in
    let e : c.from-first.result ≡ p = c.from-first.ensures ∙ is in
    let parts = key_parts (length one) (slice_index other p) (slice_index one (p - stride))
    (slice_index other i) (slice_index one (i - stride))
    (c.requires.pairs.one_below (p - stride) (omega arith))
    (c.requires.pairs.one_below (i - stride) (omega arith)) same in
    elim c.if-first-i.branch [
      | then-first-i+then-first-stride+else-one-first w ↦
          elim w.else-one-first.branch [
            | else-one-first-via-then-one-first+else-other-first u ↦
                absurd (u.if-other-first.false (ap (slice_index other) e ∙ parts.0))
            | else-one-first-via-else-one-first u ↦
                absurd (u.if-one-first.false (ap (λ (k : ℕ). slice_index one (k - stride)) e
                ∙ parts.1))
          ]
      | else-first-i w ↦
          elim w.else-first-i.branch [
            | else-first-i-via-then-first-i+else-first-stride u ↦
                let h = u.if-first-stride.false in
                absurd (omega arith)
            | else-first-i-via-else-first-i u ↦
                let h = u.if-first-i.false in
                absurd (omega arith)
          ]
    ]
