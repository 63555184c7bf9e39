-- Reading fields from left to right.
use Rattle.std.specs.Prelude.{ℕ, zero, suc, Bool, ◌&&◌, nat_le, nat_lt, cond, List, [], ◌∷◌, length, take, drop, Result, Ok, Err}
use Rattle.std.specs.Int.{w32, from_be_bytes}

-- What fields say, and the bytes after them; or how many bytes are left from the first one on of a
-- field that isn't whole or isn't allowed.
abbrev pub Read : Type 0 → Type 0
Read X = Result (X × List ℕ) ℕ

infixl 10 ◌>>=◌
abbrev pub ◌>>=◌ : {A B : Type 0} → Result A ℕ → (A → Result B ℕ) → Result B ℕ
(Ok x) >>= f = f x
(Err left) >>= f = Err left

-- both ends are allowed
abbrev pub within : ℕ → ℕ → ℕ → Bool
within least most n = nat_le least n && nat_le n most

-- the end isn't allowed
abbrev pub from_to : ℕ → ℕ → ℕ → Bool
from_to least end n = nat_le least n && nat_lt n end

abbrev pub byte_at : (ℕ → Bool) → List ℕ → Read ℕ
byte_at allowed [] = Err 0
byte_at allowed (byte ∷ rest) = cond (allowed byte) (Ok (byte, rest)) (Err (suc (length rest)))

-- so many bytes
abbrev pub bytes_at : ℕ → (List ℕ → Bool) → List ℕ → Read (List ℕ)
bytes_at width allowed bytes =
    cond (nat_le width (length bytes) && allowed (take width bytes))
    (Ok (take width bytes, drop width bytes)) (Err (length bytes))

-- a number of four bytes, from the highest byte
abbrev pub number_at : (ℕ → Bool) → List ℕ → Read ℕ
number_at allowed bytes =
    bytes_at 4 (λ field. allowed (from_be_bytes w32 field)) bytes
    >>= λ field. Ok (from_be_bytes w32 field.0, field.1)

-- so many things one after the other, that of number k and those after it
unfoldable pub each_at : {X : Type 0} → (ℕ → List ℕ → Read X) → ℕ → ℕ → List ℕ → Read (List X)
each_at thing k zero bytes = Ok ([], bytes)
each_at thing k (suc n) bytes = do
  first ← thing k bytes
  others ← each_at thing (suc k) n first.1
  Ok (first.0 ∷ others.0, others.1)
