-- Tests that are joined or turned round.
use Rattle.std.proofs.Common.{◌≡◌, Bool, true, false, ◌&&◌, refl}

pub and_last : (b : Bool) → (b && true) ≡ b
and_last true = refl
and_last false = refl
