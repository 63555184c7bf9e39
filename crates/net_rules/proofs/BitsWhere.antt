-- Sets of codes as numbers.
use Rattle.std.proofs.Common.{◌≡◌, ◌∙◌, ◌<◌, ◌≤◌, ℕ, zero, suc, ◌^◌, max, Bool, true, false, cond, ◌&&◌, ◌==◌, nat_lt, ◌⊎◌, inl, inr, subst, bit_or, refl, ap, sym, arith}
use Rattle.std.proofs.lemmas.Bool.{cases_lt, lt-ltb, le-ltb}
use Rattle.std.proofs.lemmas.Nat.{or_lt}
use Rattle.std.proofs.Math.Pow.{pow-lt}
use Rattle.std.specs.Int.{bit_at}
use Rattle.std.proofs.lemmas.Nat.Bits.{bit_at-zero, bit_at_or, bit_at-pow_same, bit_at-pow_other, bit_at-lt, same_from_bits}
use Rattle.polis_base.proofs.Bools.{and_none}
use Rattle.polis_base.proofs.SmallSets.{bit_none}
use Rattle.net_rules.specs.Networks.{bits_where}

-- at and above n no number passes
pub no_more : (test : ℕ → Bool) (n c : ℕ) → n ≤ c → bit_at (bits_where test n) c ≡ 0
no_more test zero c h = bit_at-zero c
no_more test (suc n) c h = by (test n) (no_more test n c (omega (arith, h)))
  where
    by : (b : Bool) → bit_at (bits_where test n) c ≡ 0
        → bit_at (cond b (bit_or (bits_where test n) (2 ^ n)) (bits_where test n)) c ≡ 0
    by true rest = bit_at_or (bits_where test n) (2 ^ n) c
        ∙ (λ i. max (rest i) (bit_at-pow_other n c (λ e. absurd (omega (arith, h, e))) i))
    by false rest = rest

-- below n a bit is set where its number passes
pub passes : (test : ℕ → Bool) (n c : ℕ) → c < n → bit_at (bits_where test n) c ≡ cond (test c) 1 0
passes test zero c h = absurd (omega (arith, h))
passes test (suc n) c h = by (cases_lt c n) (λ below. passes test n c below)
  where
    old : c < n → (b : Bool) → bit_at (bits_where test n) c ≡ cond (test c) 1 0
        → bit_at (cond b (bit_or (bits_where test n) (2 ^ n)) (bits_where test n)) c
        ≡ cond (test c) 1 0
    old below true rest = bit_at_or (bits_where test n) (2 ^ n) c
        ∙ (λ i. max (rest i) (bit_at-pow_other n c (λ e. absurd (omega (arith, below, e))) i))
        ∙ plain (test c)
      where
        plain : (b : Bool) → max (cond b 1 0) 0 ≡ cond b 1 0
        plain true = refl
        plain false = refl
    old below false rest = rest

    new : (b : Bool) → bit_at (cond b (bit_or (bits_where test n) (2 ^ n)) (bits_where test n)) n
        ≡ cond b 1 0
    new true = bit_at_or (bits_where test n) (2 ^ n) n
        ∙ (λ i. max (no_more test n n (omega arith) i) (bit_at-pow_same n i))
    new false = no_more test n n (omega arith)

    by : (c < n) ⊎ (n ≤ c) → (c < n → bit_at (bits_where test n) c ≡ cond (test c) 1 0)
        → bit_at (cond (test n) (bit_or (bits_where test n) (2 ^ n)) (bits_where test n)) c
        ≡ cond (test c) 1 0
    by (inl below) rest = old below (test n) (rest below)
    by (inr past) rest =
        let same : n ≡ c = omega (arith, h, past) in
        subst (λ x. bit_at (cond (test n) (bit_or (bits_where test n) (2 ^ n)) (bits_where test n))
        x ≡ cond (test x) 1 0) same (new (test n))

-- the codes of a set that are below a size
pub cut : (codes first size x : ℕ) (test : ℕ → Bool) → size ≤ 64
    → ((c : ℕ) → c < 64 → (bit_at codes c == 1) ≡ test c)
    → ((c : ℕ) → (bit_at first c == 1) ≡ nat_lt c size)
    → ((c : ℕ) → (bit_at x c == 1) ≡ (bit_at codes c == 1 && bit_at first c == 1))
    → x ≡ bits_where test size
cut codes first size x test few bits low both =
    same_from_bits x (bits_where test size) (λ c. by c (cases_lt c size))
  where
    one : (b : ℕ) (t : Bool) → b < 2 → (b == 1) ≡ t → b ≡ cond t 1 0
    one zero t h e = ap (λ u. cond u 1 0) e
    one (suc zero) t h e = ap (λ u. cond u 1 0) e
    one (suc (suc b)) t h e = absurd (omega (arith, h))

    and_true : (b : Bool) → (b && true) ≡ b
    and_true true = refl
    and_true false = refl

    by : (c : ℕ) → (c < size) ⊎ (size ≤ c) → bit_at x c ≡ bit_at (bits_where test size) c
    by c (inl below) =
        one (bit_at x c) (test c) (bit_at-lt x c) (both c
        ∙ ap (λ b. bit_at codes c == 1 && b) (low c ∙ lt-ltb c size below)
        ∙ and_true (bit_at codes c == 1) ∙ bits c (omega (arith, below, few)))
        ∙ sym (passes test size c below)
    by c (inr past) =
        bit_none x c (both c ∙ ap (λ b. bit_at codes c == 1 && b) (low c ∙ le-ltb c size past)
        ∙ and_none (bit_at codes c == 1))
        ∙ sym (no_more test size c past)

lt_more : (n : ℕ) → 2 ^ n < 2 ^ suc n
lt_more n = let h : n < suc n = omega arith in pow-lt h

pow_lt_more : (n x : ℕ) → x < 2 ^ n → x < 2 ^ suc n
pow_lt_more n x h = omega (arith, h, lt_more n)

-- the set is below 2 ^ n
pub bits_below : (test : ℕ → Bool) (n : ℕ) → bits_where test n < 2 ^ n
bits_below test zero = omega arith
bits_below test (suc n) = by (test n) (bits_below test n)
  where
    by : (b : Bool) → bits_where test n < 2 ^ n
        → cond b (bit_or (bits_where test n) (2 ^ n)) (bits_where test n) < 2 ^ suc n
    by true h = or_lt (suc n) (bits_where test n) (2 ^ n) (pow_lt_more n (bits_where test n) h)
        (lt_more n)
    by false h = pow_lt_more n (bits_where test n) h
