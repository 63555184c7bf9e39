-- Tests that are joined or turned round.
use Rattle.std.proofs.Common.{Bool, arith, cond, false, not, refl, sym, true, ◌&&◌, ◌||◌, ◌≡◌, ◌≤◌}

pub or_off : (a b : Bool) → b ≡ false → (a || b) ≡ a
or_off true b h = refl
or_off false b h = h

pub or_none : (a : Bool) → (a || false) ≡ a
or_none true = refl
or_none false = refl

pub or_assoc : (a b c : Bool) → ((a || b) || c) ≡ (a || (b || c))
or_assoc true b c = refl
or_assoc false b c = refl

pub and_first : (a b : Bool) → (a && b) ≡ true → a ≡ true
and_first true b h = refl
and_first false b h = h

pub and_second : (a b : Bool) → (a && b) ≡ true → b ≡ true
and_second true b h = h
and_second false b h = cc

pub same_truth : (a b : Bool) → (a ≡ true → b ≡ true) → (b ≡ true → a ≡ true) → a ≡ b
same_truth true b f g = sym (f refl)
same_truth false true f g = g refl
same_truth false false f g = refl

pub not_both : (test : Bool) → test ≡ true → test ≡ false → ⊥
not_both test passes fails = cc

pub neither_first : (a b : Bool) → (a || b) ≡ false → a ≡ false
neither_first true b h = h
neither_first false b h = refl

pub neither_second : (a b : Bool) → (a || b) ≡ false → b ≡ false
neither_second true b h = cc
neither_second false b h = h

pub and_none : (b : Bool) → (b && false) ≡ false
and_none true = refl
and_none false = refl

pub not_not : (b : Bool) → not (not b) ≡ b
not_not true = refl
not_not false = refl

pub one_if_at_most_one : (b : Bool) → cond b 1 0 ≤ 1
one_if_at_most_one true = omega arith
one_if_at_most_one false = omega arith

pub or_swap : (a b c : Bool) → ((a || b) || c) ≡ ((a || c) || b)
or_swap true b c = refl
or_swap false true true = refl
or_swap false true false = refl
or_swap false false true = refl
or_swap false false false = refl
