-- What a byte may be the first of.
use Rattle.std.specs.Prelude.{ℕ, Bool, cond, ◌==◌, ◌||◌}
use Rattle.polis_base.specs.Names.{begins_name}
use Rattle.polis_base.specs.Digits.{is_digit}
use Rattle.polis_base.specs.Tokens.{is_blank}

-- one of `=`, `,`, `{`, `}` and `+`
abbrev pub is_sign : ℕ → Bool
is_sign c = c == 61 || (c == 44 || (c == 123 || (c == 125 || c == 43)))

-- a blank, or a sign of one byte with which none of two begins
abbrev pub is_alone : ℕ → Bool
is_alone c = is_blank c || is_sign c

-- As bytes: `0` of a blank, `1` of such a sign, `2` of `#`, `6` of a letter or `_`, `4` of `0`, `5`
-- of another digit, and else `3`.
abbrev pub class_of : ℕ → ℕ
class_of c =
    cond (is_blank c) 48
    (cond (is_sign c) 49
    (cond (c == 35) 50 (cond (begins_name c) 54 (cond (c == 48) 52 (cond (is_digit c) 53 51)))))
