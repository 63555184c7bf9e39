-- All lists of codes.
use Rattle.std.proofs.Common.{◌≡◌, ℕ, Bool, true, false, not, ◌&&◌, List, [], ◌∷◌, ◌++◌, map, flat_map, refl, ap, sym, ◌∙◌, ltb}
use Rattle.std.specs.List.{list_all, list_any}
use Rattle.std.proofs.lemmas.Bool.{and_parts, and_from, ltb-true, lt-ltb, false≢true, not-true}
use Rattle.polis_base.specs.Lists.{upto}
use Rattle.polis_base.proofs.Lists.{all_upto, upto_all, none_all}
use Rattle.domains.specs.Tables.{fits}
use Rattle.domains.specs.AllCodes.{each_after, all_codes}

-- a map
pub all_map : {X Y : Type 0} (p : Y → Bool) (f : X → Y) (xs : List X)
    → list_all p (map f xs) ≡ list_all (λ x. p (f x)) xs
all_map p f [] = refl
all_map p f (x ∷ xs) = ap (λ (b : Bool). p (f x) && b) (all_map p f xs)

-- lists joined
pub all_flat : {X Y : Type 0} (p : Y → Bool) (f : X → List Y) (xs : List X)
    → list_all p (flat_map f xs) ≡ list_all (λ x. list_all p (f x)) xs
all_flat p f [] = refl
all_flat p f (x ∷ xs) = all_both p (f x) (flat_map f xs)
    ∙ ap (λ (b : Bool). list_all p (f x) && b) (all_flat p f xs)
  where
    and_assoc : (a b c : Bool) → (a && (b && c)) ≡ ((a && b) && c)
    and_assoc true b c = refl
    and_assoc false b c = refl

    all_both : {Y : Type 0} (p : Y → Bool) (ys zs : List Y)
        → list_all p (ys ++ zs) ≡ (list_all p ys && list_all p zs)
    all_both p [] zs = refl
    all_both p (y ∷ ys) zs = ap (λ (b : Bool). p y && b) (all_both p ys zs)
        ∙ and_assoc (p y) (list_all p ys) (list_all p zs)

pub lists_all : (sizes : List ℕ) (p : List ℕ → Bool) → list_all p (all_codes sizes) ≡ true
    → (codes : List ℕ) → fits sizes codes ≡ true → p codes ≡ true
lists_all [] p h [] fit = (and_parts (p []) true h).0
lists_all [] p h (code ∷ codes) fit = absurd (false≢true fit)
lists_all (size ∷ sizes) p h [] fit = absurd (false≢true fit)
lists_all (size ∷ sizes) p h (code ∷ codes) fit =
    let parts = and_parts (ltb code size) (fits sizes codes) fit in
    let each = sym (all_flat p (each_after (all_codes sizes)) (upto size)) ∙ h in
    let here = all_upto (λ k. list_all p (each_after (all_codes sizes) k)) size each code
    (ltb-true code size parts.0) in
    let there = sym (all_map p (λ rest. code ∷ rest) (all_codes sizes)) ∙ here in
    lists_all sizes (λ rest. p (code ∷ rest)) there codes parts.1

pub lists_fit : (sizes : List ℕ) → list_all (fits sizes) (all_codes sizes) ≡ true
lists_fit [] = refl
lists_fit (size ∷ sizes) =
    all_flat (fits (size ∷ sizes)) (each_after (all_codes sizes)) (upto size)
    ∙ upto_all (λ k. list_all (fits (size ∷ sizes)) (each_after (all_codes sizes) k)) size (λ k low.
    all_map (fits (size ∷ sizes)) (λ rest. k ∷ rest) (all_codes sizes)
    ∙ weaken k (lt-ltb k size low) (all_codes sizes) (lists_fit sizes))
  where
    weaken : (k : ℕ) → ltb k size ≡ true → (lists : List (List ℕ))
        → list_all (fits sizes) lists ≡ true
        → list_all (λ rest. fits (size ∷ sizes) (k ∷ rest)) lists ≡ true
    weaken k low [] h = refl
    weaken k low (rest ∷ lists) h =
        let parts = and_parts (fits sizes rest) (list_all (fits sizes) lists) h in
        and_from (ltb k size && fits sizes rest)
        (list_all (λ rest. fits (size ∷ sizes) (k ∷ rest)) lists)
        (and_from (ltb k size) (fits sizes rest) low parts.0) (weaken k low lists parts.1)

pub none_lists : (sizes : List ℕ) (p : List ℕ → Bool) → list_any p (all_codes sizes) ≡ false
    → (codes : List ℕ) → fits sizes codes ≡ true → p codes ≡ false
none_lists sizes p h codes fit =
    not-true (p codes) (lists_all sizes (λ x. not (p x)) (none_all p (all_codes sizes) h) codes fit)
