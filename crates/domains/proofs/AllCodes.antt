-- All lists of codes that fit.
use Rattle.std.proofs.Common.{◌≡◌, ⊎_elim, ℕ, zero, suc, ◌+◌, ◌*◌, ◌<◌, ◌≤◌, Bool, true, List, [], ◌∷◌, ◌++◌, flat_map, length, slice_get, Some, option_map, refl, ap, sym, ◌∙◌, arith, ltb, length-append}
use Rattle.std.specs.List.{list_all}
use Rattle.std.proofs.lemmas.Bool.{and_parts, and_from, ltb-true, cases_lt, false≢true}
use Rattle.std.proofs.lemmas.Option.{slice_get-map, slice_get_within}
use Rattle.polis_base.specs.Lists.{upto}
use Rattle.domains.specs.Tables.{fits, product, rank}
use Rattle.domains.specs.AllCodes.{each_after, all_codes, CountsAll, StandsAtRank, StandsOnce, ListsFit, ListsAll}
use Rattle.domains.proofs.Ranks.{ranks_below, ranks_reach}
use Rattle.polis_base.proofs.ListTests.{all_get}
use Rattle.polis_base.proofs.Places.{get_left, length_map, some_is}
use Rattle.polis_base.proofs.UptoPlaces.{flat_map_upto}

-- ---- lengths

none_after : {X : Type 0} (xs : List X) → xs ++ [] ≡ xs
none_after [] = refl
none_after {X = X} (x ∷ xs) = ap (λ (ys : List X). x ∷ ys) (none_after xs)

pieces_long : {X : Type 0} (f : ℕ → List X) (w : ℕ) → ((c : ℕ) → length (f c) ≡ w) → (n : ℕ)
    → length (flat_map f (upto n)) ≡ n * w
pieces_long f w each zero = omega arith
pieces_long f w each (suc n) =
    ap length (flat_map_upto f n) ∙ length-append (flat_map f (upto n)) (f n)
    ∙ omega (arith, pieces_long f w each n, each n)

pub counts_all : CountsAll
counts_all [] = refl
counts_all (size ∷ sizes) =
    pieces_long (each_after (all_codes sizes)) (product sizes)
    (λ c. length_map (λ (codes : List ℕ). c ∷ codes) (all_codes sizes) ∙ counts_all sizes) size

-- ---- what stands where

get_right : {X : Type 0} (xs ys : List X) (n i : ℕ) → n ≡ length xs
    → slice_get (xs ++ ys) (n + i) ≡ slice_get ys i
get_right [] ys n i e = ap (slice_get ys) (omega arith)
get_right (x ∷ xs) ys zero i e = absurd (omega arith)
get_right (x ∷ xs) ys (suc n) i e =
    let s : suc n + i ≡ suc (n + i) = omega arith in
    ap (slice_get (x ∷ (xs ++ ys))) s ∙ get_right xs ys n i (omega arith)

-- where all pieces are as long, item k of piece c stands at c * w + k
at_piece : {X : Type 0} (f : ℕ → List X) (w : ℕ) → ((c : ℕ) → length (f c) ≡ w) → (n c k : ℕ)
    → c < n → k < w → slice_get (flat_map f (upto n)) (c * w + k) ≡ slice_get (f c) k
at_piece f w each zero c k low within = absurd (omega arith)
at_piece {X = X} f w each (suc n) c k low within =
    ap (λ (xs : List X). slice_get xs (c * w + k)) (flat_map_upto f n)
    ∙ ⊎_elim
    (λ less. get_left (flat_map f (upto n)) (f n) (c * w + k)
    (inside c n less (pieces_long f w each n)) ∙ at_piece f w each n c k less within)
    (λ more.
    let e : c ≡ n = omega arith in
    ap (λ (m : ℕ). slice_get (flat_map f (upto n) ++ f n) (m * w + k)) e
    ∙ get_right (flat_map f (upto n)) (f n) (n * w) k (sym (pieces_long f w each n))
    ∙ ap (λ (m : ℕ). slice_get (f m) k) (sym e))
    (cases_lt c n)
  where
    grow : (a b : ℕ) → a < b → a * w + w ≤ b * w
    grow a zero h = absurd (omega arith)
    grow zero (suc b) h = omega arith
    grow (suc a) (suc b) h = let r = grow a b (omega arith) in omega arith

    inside : {len : ℕ} (a b : ℕ) → a < b → len ≡ b * w → a * w + k < len
    inside a b h e = let g = grow a b h in omega arith

pub stands_at_rank : StandsAtRank
stands_at_rank [] [] f = refl
stands_at_rank [] (code ∷ codes) f = absurd (false≢true f)
stands_at_rank (size ∷ sizes) [] f = absurd (false≢true f)
stands_at_rank (size ∷ sizes) (code ∷ codes) f =
    let parts = and_parts (ltb code size) (fits sizes codes) f in
    let each : (c : ℕ) → length (each_after (all_codes sizes) c) ≡ product sizes =
    λ c. length_map (λ (codes : List ℕ). c ∷ codes) (all_codes sizes) ∙ counts_all sizes in
    at_piece (each_after (all_codes sizes)) (product sizes) each size code (rank sizes codes)
    (ltb-true code size parts.0) (ranks_below sizes codes parts.1)
    ∙ slice_get-map (λ (codes : List ℕ). code ∷ codes) (all_codes sizes) (rank sizes codes)
    ∙ ap (option_map (λ (codes : List ℕ). code ∷ codes)) (stands_at_rank sizes codes parts.1)

pub stands_once : StandsOnce
stands_once sizes codes i at =
    let within = slice_get_within (all_codes sizes) i codes at in
    let count = counts_all sizes in
    let reached = ranks_reach sizes i (omega arith) in
    let there = stands_at_rank sizes reached.0 reached.1 in
    let same : reached.0 ≡ codes =
    some_is reached.0 codes (sym there ∙ ap (slice_get (all_codes sizes)) reached.2 ∙ at) in
    (ap (fits sizes) (sym same) ∙ reached.1, ap (rank sizes) (sym same) ∙ reached.2)

-- ---- what holds of them

within_all : {X : Type 0} (p : X → Bool) (xs : List X)
    → ((k : ℕ) (x : X) → slice_get xs k ≡ Some x → p x ≡ true) → list_all p xs ≡ true
within_all p [] each = refl
within_all p (x ∷ xs) each =
    and_from (p x) (list_all p xs) (each 0 x refl) (within_all p xs (λ k y at. each (suc k) y at))

pub lists_all : ListsAll
lists_all sizes p all codes fit =
    all_get p (all_codes sizes) (rank sizes codes) codes all (stands_at_rank sizes codes fit)

pub lists_fit : ListsFit
lists_fit sizes =
    within_all (fits sizes) (all_codes sizes) (λ k codes at. (stands_once sizes codes k at).0)
