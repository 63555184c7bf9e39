-- All lists of codes by their numbers.
use Rattle.std.proofs.Common.{◌≡◌, ⊎_elim, ℕ, zero, suc, ◌+◌, ◌*◌, ◌<◌, true, List, ◌∷◌, ◌++◌, flat_map, length, slice_get, Some, refl, ap, sym, ◌∙◌, arith, ltb, []}
use Rattle.std.proofs.lemmas.Bool.{and_parts, ltb-true, cases_lt, false≢true}
use Rattle.polis_base.specs.Lists.{upto}
use Rattle.domains.specs.Tables.{fits, product, rank}
use Rattle.domains.specs.AllCodes.{each_after, all_codes}
use Rattle.outcome_table.proofs.Columns.{all_long}
use Rattle.polis_base.proofs.Places.{flat_map_push, get_map, get_right, get_stays, length_map}
use Rattle.polis_base.proofs.UptoPlaces.{length_flat_map_upto}

get_flat : {Y : Type 0} (f : ℕ → List Y) (w n : ℕ) → ((k : ℕ) → length (f k) ≡ w)
    → (c i : ℕ) (y : Y) → c < n → slice_get (f c) i ≡ Some y
    → slice_get (flat_map f (upto n)) (c * w + i) ≡ Some y
get_flat f w zero each c i y low is = absurd (omega arith)
get_flat {Y = Y} f w (suc n) each c i y low is =
    let e : flat_map f (upto (suc n)) ≡ flat_map f (upto n) ++ f n = flat_map_push f (upto n) n in
    rw e (
    ⊎_elim
    (λ less. get_stays (flat_map f (upto n)) (f n) (c * w + i) y
    (get_flat f w n each c i y less is))
    (λ more.
    let same : c ≡ n = omega arith in
    let l : length (flat_map f (upto n)) ≡ n * w = length_flat_map_upto f w n each in
    let p : c * w + i ≡ length (flat_map f (upto n)) + i =
    ap (λ (k : ℕ). k * w + i) same ∙ ap (λ (k : ℕ). k + i) (sym l) in
    ap (slice_get (flat_map f (upto n) ++ f n)) p
    ∙ get_right (flat_map f (upto n)) (f n) i
    ∙ ap (λ (k : ℕ). slice_get (f k) i) (sym same)
    ∙ is)
    (cases_lt c n))

-- a list that fits stands at its number
pub at_rank : (sizes codes : List ℕ) → fits sizes codes ≡ true
    → slice_get (all_codes sizes) (rank sizes codes) ≡ Some codes
at_rank [] [] h = refl
at_rank [] (code ∷ codes) h = absurd (false≢true h)
at_rank (size ∷ sizes) [] h = absurd (false≢true h)
at_rank (size ∷ sizes) (code ∷ codes) h =
    let parts = and_parts (ltb code size) (fits sizes codes) h in
    get_flat (each_after (all_codes sizes)) (product sizes) size
    (λ k. length_map (λ codes. k ∷ codes) (all_codes sizes) ∙ all_long sizes)
    code (rank sizes codes) (code ∷ codes) (ltb-true code size parts.0)
    (get_map (λ rest. code ∷ rest) (all_codes sizes) (rank sizes codes) codes
    (at_rank sizes codes parts.1))
