-- One more draw.
use Rattle.std.proofs.Common.{◌≡◌, ℕ, zero, suc, ◌+◌, refl, ap, ◌∙◌, arith}
use Rattle.polis_base.specs.Draws.{next, after}

pub after_none : (x : ℕ) → after x 0 ≡ x
unfolding after
after_none x = refl

pub after_first : (x : ℕ) → next x ≡ after x 1
unfolding after
after_first x = refl

pub after_more : (x a b : ℕ) → after (after x a) b ≡ after x (a + b)
unfolding after
after_more x a zero = ap (after x) (let e : a ≡ a + 0 = omega arith in e)
after_more x a (suc b) =
    ap next (after_more x a b)
    ∙ ap (after x) (let e : suc (a + b) ≡ a + suc b = omega arith in e)

pub after_one : (x a : ℕ) → next (after x a) ≡ after x (a + 1)
after_one x a = after_first (after x a) ∙ after_more x a 1

-- a draw made first
pub after_next : (x k : ℕ) → after (next x) k ≡ after x (suc k)
unfolding after
after_next x zero = refl
after_next x (suc k) = ap next (after_next x k)
