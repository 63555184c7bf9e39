-- The lines of a text, by its first line feed.
use Rattle.std.proofs.Common.{◌≡◌, ℕ, zero, suc, ◌<◌, Bool, true, false, List, [], ◌∷◌, length, drop, Some, None, slice_get, refl, ap, ◌∙◌, arith}
use Rattle.std.specs.List.{prefix_len, take_while}
use Rattle.std.proofs.lemmas.List.Sums.{take_while-cons}
use Rattle.fault_text.specs.Positions.{is_inner, lines, lines_from, begun_lines, onto_first}

-- ---- the first line
onto_zero : (b : ℕ) (ls : List (List ℕ)) (l : List ℕ) → slice_get ls 0 ≡ Some l
    → slice_get (onto_first b ls) 0 ≡ Some (b ∷ l)
onto_zero b [] l e = cc
onto_zero b (x ∷ ls) l e = let f : x ≡ l = cc in ap (λ (z : List ℕ). Some (b ∷ z)) f

first_case : (empty : List (List ℕ)) (b : ℕ) (bs : List ℕ) (t : Bool) → is_inner b ≡ t
    → slice_get (onto_first b (lines_from empty bs)) 0 ≡ Some (b ∷ take_while is_inner bs)
    → slice_get (lines_from empty (b ∷ bs)) 0 ≡ Some (take_while is_inner (b ∷ bs))
first_case empty b bs true e first = rw (take_while-cons is_inner b bs, e) first
first_case empty b bs false e first = rw (take_while-cons is_inner b bs, e) refl

first_some : (empty : List (List ℕ))
    → ((b : ℕ) → slice_get (onto_first b empty) 0 ≡ Some (b ∷ []))
    → (xs : List ℕ) → 0 < length xs
    → slice_get (lines_from empty xs) 0 ≡ Some (take_while is_inner xs)
first_some empty one [] some = absurd (omega arith)
first_some empty one (b ∷ []) some = first_case empty b [] (is_inner b) refl (one b)
first_some empty one (b ∷ x ∷ bs) some =
    first_case empty b (x ∷ bs) (is_inner b) refl
    (onto_zero b (lines_from empty (x ∷ bs)) (take_while is_inner (x ∷ bs))
    (first_some empty one (x ∷ bs) (omega arith)))

-- the first line is what stands before the first line feed
pub first_line : (xs : List ℕ) → slice_get (lines xs) 0 ≡ Some (take_while is_inner xs)
first_line [] = refl
first_line (b ∷ bs) = first_some ([] ∷ []) (λ c. refl) (b ∷ bs) (omega arith)

-- it begins in the text where that has a byte
pub first_begun : (xs : List ℕ) → 0 < length xs
    → slice_get (begun_lines xs) 0 ≡ Some (take_while is_inner xs)
first_begun xs some = first_some [] (λ c. refl) xs some

pub none_begun : (xs : List ℕ) → length xs ≡ 0 → slice_get (begun_lines xs) 0 ≡ None
none_begun [] e = refl
none_begun (x ∷ xs) e = absurd (omega arith)

-- ---- the lines after the first
onto_drop : (b : ℕ) (ls : List (List ℕ)) → drop 1 (onto_first b ls) ≡ drop 1 ls
onto_drop b [] = refl
onto_drop b (x ∷ ls) = refl

more_case : (empty : List (List ℕ)) (b : ℕ) (bs : List ℕ) (t : Bool) → is_inner b ≡ t
    → (prefix_len is_inner bs < length bs
    → drop 1 (lines_from empty bs)
    ≡ lines_from empty (drop (suc (prefix_len is_inner bs)) bs))
    → prefix_len is_inner (b ∷ bs) < suc (length bs)
    → drop 1 (lines_from empty (b ∷ bs))
    ≡ lines_from empty (drop (suc (prefix_len is_inner (b ∷ bs))) (b ∷ bs))
more_case empty b bs true e more small =
    let n : prefix_len is_inner (b ∷ bs) ≡ suc (prefix_len is_inner bs) = rw e (omega arith) in
    rw (n, e) (onto_drop b (lines_from empty bs) ∙ more (omega arith))
more_case empty b bs false e more small = rw e refl

-- they are those of what stands after the first line feed
pub more_lines : (empty : List (List ℕ)) (xs : List ℕ) → prefix_len is_inner xs < length xs
    → drop 1 (lines_from empty xs) ≡ lines_from empty (drop (suc (prefix_len is_inner xs)) xs)
more_lines empty [] small = absurd (omega arith)
more_lines empty (b ∷ bs) small =
    more_case empty b bs (is_inner b) refl (more_lines empty bs) small

last_case : (b : ℕ) (bs : List ℕ) (t : Bool) → is_inner b ≡ t
    → (prefix_len is_inner bs ≡ length bs → drop 1 (begun_lines bs) ≡ [])
    → prefix_len is_inner (b ∷ bs) ≡ suc (length bs)
    → drop 1 (begun_lines (b ∷ bs)) ≡ []
last_case b bs true e one all =
    let n : prefix_len is_inner (b ∷ bs) ≡ suc (prefix_len is_inner bs) = rw e (omega arith) in
    rw e (onto_drop b (begun_lines bs) ∙ one (omega arith))
last_case b bs false e one all =
    let n : prefix_len is_inner (b ∷ bs) ≡ 0 = rw e refl in
    absurd (omega arith)

-- without a line feed at most one line begins
pub last_begun : (xs : List ℕ) → prefix_len is_inner xs ≡ length xs → drop 1 (begun_lines xs) ≡ []
last_begun [] all = refl
last_begun (b ∷ bs) all = last_case b bs (is_inner b) refl (last_begun bs) all

-- ---- the line of a number
get_after : (ls : List (List ℕ)) (j : ℕ) → slice_get ls (suc j) ≡ slice_get (drop 1 ls) j
get_after [] j = refl
get_after (l ∷ ls) j = refl

pub get_from : (ls : List (List ℕ)) (k : ℕ) → slice_get ls k ≡ slice_get (drop k ls) 0
get_from [] zero = refl
get_from [] (suc k) = refl
get_from (l ∷ ls) zero = refl
get_from (l ∷ ls) (suc k) = get_from ls k

pub line_after : (ls ms : List (List ℕ)) (k j : ℕ) → k ≡ suc j → drop 1 ls ≡ ms
    → slice_get ls k ≡ slice_get ms j
line_after ls ms k j is rest = rw (is, get_after ls j, rest) refl
