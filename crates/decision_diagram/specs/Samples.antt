-- Small functions of codes.
use Rattle.std.specs.Prelude.{ℕ, ◌%◌, Bool, cond, ◌&&◌, ◌==◌, List, [], ◌∷◌, take, drop, slice_index, sum, bytes_eq}

-- an odd number of codes is 1
abbrev pub is_odd : List ℕ → Bool
is_odd codes = sum codes % 2 == 1

-- the second two codes are the first two
abbrev pub is_repeated : List ℕ → Bool
is_repeated codes =
    (slice_index codes 0 == slice_index codes 2) && (slice_index codes 1 == slice_index codes 3)

-- the second two codes are the first two read backwards
abbrev pub is_mirrored : List ℕ → Bool
is_mirrored codes =
    (slice_index codes 0 == slice_index codes 3) && (slice_index codes 1 == slice_index codes 2)

-- what a machine of one row does: on these codes of its two variables these results, and else none
abbrev pub one_row : List ℕ → List ℕ → List ℕ → List ℕ → Bool
one_row at results none codes =
    cond (bytes_eq (take 2 codes) at) (bytes_eq (drop 2 codes) results)
    (bytes_eq (drop 2 codes) none)

-- Press and state; then whether it goes, the next state and the light. It goes on a press where it
-- is off.
abbrev pub lamp_row : List ℕ → Bool
lamp_row = one_row (1 ∷ 0 ∷ []) (1 ∷ 2 ∷ 1 ∷ []) (0 ∷ 0 ∷ 0 ∷ [])

-- Two inputs; then whether it goes and its output. It goes where both are present.
abbrev pub join_row : List ℕ → Bool
join_row = one_row (1 ∷ 1 ∷ []) (1 ∷ 1 ∷ []) (0 ∷ 0 ∷ [])

-- four variables of two codes
abbrev pub four : List ℕ
four = 2 ∷ 2 ∷ 2 ∷ 2 ∷ []

abbrev pub rising : List ℕ
rising = 0 ∷ 1 ∷ 2 ∷ 3 ∷ []
