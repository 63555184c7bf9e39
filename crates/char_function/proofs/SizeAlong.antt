-- The size along an order depends on what a function says of the lists that fit, and on no other.
use Rattle.std.proofs.Common.{◌≡◌, ℕ, ◌<◌, ◌+◌, Bool, true, false, cond, not, ◌||◌, List, [], ◌∷◌, ◌++◌, map, length, slice_index, refl, ap, sym, subst, ◌∙◌, arith, ltb}
use Rattle.std.specs.Prelude.{filter}
use Rattle.std.specs.List.{list_all, list_any}
use Rattle.std.proofs.lemmas.Bool.{and_parts, and_from, lt-ltb, ltb-true}
use Rattle.std.proofs.lemmas.List.{append_assoc}
use Rattle.polis_base.specs.Lists.{upto}
use Rattle.polis_base.proofs.Lists.{upto_all}
use Rattle.domains.specs.AllCodes.{all_codes}
use Rattle.domains.specs.Orders.{IsPermutation}
use Rattle.domains.specs.Tables.{fits}
use Rattle.decision_diagram.specs.Sizes.{by_variable, truths, turns, depends, level, levels, size_along}
use Rattle.decision_diagram.specs.Truths.{same_truths, different}
use Rattle.decision_diagram.proofs.ByVariable.{by_variable_fits}
use Rattle.transition_table.specs.declared.machine.Machine.{Machine}
use Rattle.transition_table.specs.Computed.{char}
use Rattle.transition_table.specs.Laws.{CharByTest}
use Rattle.transition_table.specs.Orders.{sizes_of}
use Rattle.char_function.specs.Laws.{CharDecides, HasSize, OneSize}
use Rattle.char_function.specs.Orders.{first_order}
use Rattle.char_function.specs.Sizes.{Decides, IsSize}
use Rattle.char_function.proofs.FirstOrder.{first_long, first_permutation}
use Rattle.decision_diagram.proofs.AllCodes.{lists_fit}
use Rattle.domains.proofs.FittingCodes.{fits_both}
use Rattle.polis_base.proofs.Bools.{same_truth}

-- the two say the same of each list that fits
abbrev pub Agree : (List ℕ → Bool) → (List ℕ → Bool) → List ℕ → Type 0
Agree f g sizes = (codes : List ℕ) → fits sizes codes ≡ true → f codes ≡ g codes

map_same : (p f g : List ℕ → Bool) → ((x : List ℕ) → p x ≡ true → f x ≡ g x)
    → (xs : List (List ℕ)) → list_all p xs ≡ true → map f xs ≡ map g xs
map_same p f g same [] all = refl
map_same p f g same (x ∷ xs) all =
    let parts = and_parts (p x) (list_all p xs) all in
    ap (λ (b : Bool). b ∷ map f xs) (same x parts.0)
    ∙ ap (λ (bs : List Bool). g x ∷ bs) (map_same p f g same xs parts.1)

any_same : (p d e : ℕ → Bool) → ((k : ℕ) → p k ≡ true → d k ≡ e k) → (xs : List ℕ)
    → list_all p xs ≡ true → list_any d xs ≡ list_any e xs
any_same p d e same [] all = refl
any_same p d e same (x ∷ xs) all =
    let parts = and_parts (p x) (list_all p xs) all in
    ap (λ (b : Bool). b || list_any d xs) (same x parts.0)
    ∙ ap (λ (b : Bool). e x || b) (any_same p d e same xs parts.1)

-- what is made of those that a test picks
picked_same : (p d e : List ℕ → Bool) (t u : List ℕ → List Bool)
    → ((x : List ℕ) → p x ≡ true → d x ≡ e x) → ((x : List ℕ) → p x ≡ true → t x ≡ u x)
    → (xs : List (List ℕ)) → list_all p xs ≡ true → map t (filter d xs) ≡ map u (filter e xs)
picked_same p d e t u picks makes [] all = refl
picked_same p d e t u picks makes (x ∷ xs) all =
    let parts = and_parts (p x) (list_all p xs) all in
    ap (λ (b : Bool). map t (cond b (x ∷ filter d xs) (filter d xs))) (picks x parts.0)
    ∙ one (e x) (makes x parts.0) (picked_same p d e t u picks makes xs parts.1)
  where
    one : (b : Bool) → t x ≡ u x → map t (filter d xs) ≡ map u (filter e xs)
        → map t (cond b (x ∷ filter d xs) (filter d xs))
        ≡ map u (cond b (x ∷ filter e xs) (filter e xs))
    one true here rest =
        ap (λ (b : List Bool). b ∷ map t (filter d xs)) here
        ∙ ap (λ (bs : List (List Bool)). u x ∷ bs) rest
    one false here rest = rest

truths_same : (f g : List ℕ → Bool) (before rest prefix : List ℕ) → Agree f g (before ++ rest)
    → fits before prefix ≡ true → truths f rest prefix ≡ truths g rest prefix
truths_same f g before rest prefix agree fit =
    map_same (fits rest) (λ codes. f (prefix ++ codes)) (λ codes. g (prefix ++ codes))
    (λ codes fit_codes. agree (prefix ++ codes) (fits_both before rest prefix codes fit fit_codes))
    (all_codes rest) (lists_fit rest)

-- the same two, where one more of the sizes is of the prefix
further : (f g : List ℕ → Bool) (before rest : List ℕ) (size : ℕ)
    → Agree f g (before ++ size ∷ rest) → Agree f g ((before ++ size ∷ []) ++ rest)
further f g before rest size agree codes fit =
    agree codes (subst (λ (sizes : List ℕ). fits sizes codes ≡ true)
    (append_assoc before (size ∷ []) rest) fit)

turns_same : (f g : List ℕ → Bool) (before rest prefix : List ℕ) (size code : ℕ)
    → Agree f g (before ++ size ∷ rest) → fits before prefix ≡ true → code < size
    → turns f rest prefix code ≡ turns g rest prefix code
turns_same f g before rest prefix size code agree fit low =
    let with_code : (c : ℕ) → c < size
    → truths f rest (prefix ++ c ∷ []) ≡ truths g rest (prefix ++ c ∷ []) = λ c low_c.
    truths_same f g (before ++ size ∷ []) rest (prefix ++ c ∷ [])
    (further f g before rest size agree)
    (fits_both before (size ∷ []) prefix (c ∷ []) fit
    (and_from (ltb c size) true (lt-ltb c size low_c) refl)) in
    ap (λ (ts : List Bool). not (same_truths ts (truths f rest (prefix ++ 0 ∷ []))))
    (with_code code low)
    ∙ ap (λ (ts : List Bool). not (same_truths (truths g rest (prefix ++ code ∷ [])) ts))
    (with_code 0 (omega arith))

depends_same : (f g : List ℕ → Bool) (before rest prefix : List ℕ) (size : ℕ)
    → Agree f g (before ++ size ∷ rest) → fits before prefix ≡ true
    → depends f size rest prefix ≡ depends g size rest prefix
depends_same f g before rest prefix size agree fit =
    any_same (λ k. ltb k size) (turns f rest prefix) (turns g rest prefix)
    (λ k low. turns_same f g before rest prefix size k agree fit (ltb-true k size low))
    (upto size) (upto_all (λ k. ltb k size) size (λ k low. lt-ltb k size low))

level_same : (f g : List ℕ → Bool) (before rest : List ℕ) (size : ℕ)
    → Agree f g (before ++ size ∷ rest) → level f before size rest ≡ level g before size rest
level_same f g before rest size agree =
    ap different (picked_same (fits before) (depends f size rest) (depends g size rest)
    (truths f (size ∷ rest)) (truths g (size ∷ rest))
    (λ prefix fit. depends_same f g before rest prefix size agree fit)
    (λ prefix fit. truths_same f g before (size ∷ rest) prefix agree fit)
    (all_codes before) (lists_fit before))

levels_same : (f g : List ℕ → Bool) (before rest : List ℕ) → Agree f g (before ++ rest)
    → levels f before rest ≡ levels g before rest
levels_same f g before [] agree = refl
levels_same f g before (size ∷ rest) agree =
    ap (λ (n : ℕ). n + levels f (before ++ size ∷ []) rest)
    (level_same f g before rest size agree)
    ∙ ap (λ (n : ℕ). level g before size rest + n)
    (levels_same f g (before ++ size ∷ []) rest (further f g before rest size agree))

pub size_same : (f g : List ℕ → Bool) (sizes order : List ℕ) → IsPermutation order
    → length order ≡ length sizes → Agree f g sizes
    → size_along f sizes order ≡ size_along g sizes order
size_same f g sizes order permutation long agree =
    levels_same (λ codes. f (by_variable order codes)) (λ codes. g (by_variable order codes)) []
    (map (slice_index sizes) order)
    (λ codes fit. agree (by_variable order codes)
    (by_variable_fits sizes order codes permutation long fit))

-- two functions that decide one machine's characteristic function
pub decides_same : (f g : List ℕ → Bool) (m : Machine) → Decides f m → Decides g m
    → Agree f g (sizes_of m)
decides_same f g m one other codes fit =
    same_truth (f codes) (g codes) (λ on. (other codes fit).1 ((one codes fit).0 on))
    (λ on. (one codes fit).1 ((other codes fit).0 on))

pub char_decides : CharByTest → CharDecides
char_decides test m sure codes fit = test m codes sure fit

pub has_size : CharByTest → HasSize
has_size test m order sure =
    record { function = char m; decides = char_decides test m sure; size = refl }

pub one_size : OneSize
one_size m order one other permutation long first second =
    first.size
    ∙ size_same first.function second.function (sizes_of m) order permutation long
    (decides_same first.function second.function m first.decides second.decides)
    ∙ sym second.size

-- so has the first order
pub one_first_size : (m : Machine) (one other : ℕ) → IsSize m (first_order m) one
    → IsSize m (first_order m) other → one ≡ other
one_first_size m one other =
    one_size m (first_order m) one other (first_permutation m) (first_long m)
