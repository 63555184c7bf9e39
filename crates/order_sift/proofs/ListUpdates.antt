-- Lists of codes that fit, and what is fixed of them.
use Rattle.std.proofs.Common.{◌≡◌, ℕ, Bool, true, false, cond, refl}

pub cond_same : (t : Bool) (x : ℕ) → cond t x x ≡ x
cond_same true x = refl
cond_same false x = refl
