-- What is drawn from a seed.
use Rattle.std.specs.Prelude.{ℕ, zero, suc, ◌+◌, ◌*◌, ◌/◌, ◌%◌, ◌^◌}

-- what a draw makes of the number from which it draws
abbrev pub next : ℕ → ℕ
next x = (x * 6364136223846793005 + 1442695040888963407) % 2 ^ 64

-- the number from which a draw is made after so many others; the first is made from the seed
unfoldable pub after : ℕ → ℕ → ℕ
after seed zero = seed
after seed (suc k) = next (after seed k)

-- what a draw from x answers: the new number, without its last 33 bits, modulo m
abbrev pub draw : ℕ → ℕ → ℕ
draw x m = next x / 2 ^ 33 % m
