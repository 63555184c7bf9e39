-- Names of a ring: which are the same, which are declared, and that none repeats.
use Rattle.std.proofs.Common.{◌≡◌, ℕ, zero, suc, ◌<◌, ◌||◌, not, Bool, true, false, List, [], ◌∷◌, ◌++◌, flat_map, refl, sym, ap, subst, ◌∙◌, arith, inl, inr}
use Rattle.std.specs.Prelude.{⊤, decimal}
use Rattle.std.specs.List.{list_any}
use Rattle.std.specs.Cmp.Lexicographic.{same_text}
use Rattle.std.proofs.lemmas.Bool.{false≢true, cases_eq}
use Rattle.std.proofs.lemmas.List.{map-append}
use Rattle.std.proofs.lemmas.List.Folds.{list_any-append}
use Rattle.std.proofs.lemmas.Grind.{flat_map-append}
use Rattle.polis_base.specs.Lists.{upto}
use Rattle.domains.specs.Names.{is_same}
use Rattle.net_reader.specs.declared.raw.Word.{Word}
use Rattle.net_names.specs.Places.{unless}
use Rattle.net_names.specs.Numbers.{names_of, is_name_of, repeated}
use Rattle.net_gen.proofs.NumberedNames.{decimal_apart}
use Rattle.polis_base.proofs.UptoPlaces.{flat_map_upto}

pub other_number : (i k : ℕ) → i < 48 → k < 48 → (i ≡ k → ⊥)
    → is_same (decimal i) (decimal k) ≡ false
other_number i k small_i small_k other =
    elim (is_same (decimal i) (decimal k)) as (λ b. is_same (decimal i) (decimal k) ≡ b
    → b ≡ false) [
      | true ↦ λ e. absurd (other (decimal_apart i k small_i small_k
          (same_text (decimal i) (decimal k) (sym e))))
      | false ↦ λ e. refl
    ] refl

-- ---- lists in which each number below n has its items

-- the name is among the words of a number
pub declared_at : (g : ℕ → List Word) (name : List ℕ) (n k : ℕ) → k < n
    → is_name_of (g k) name ≡ true
    → is_name_of (flat_map g (upto n)) name ≡ true
declared_at g name zero k below here = absurd (omega arith)
declared_at g name (suc n) k below here =
    let all : is_name_of (flat_map g (upto (suc n))) name
    ≡ (is_name_of (flat_map g (upto n)) name || is_name_of (g n) name) =
    ap (λ (ws : List Word). is_name_of ws name) (flat_map_upto g n)
    ∙ ap (list_any (is_same name)) (map-append (λ (w : Word). w.name) (flat_map g (upto n)) (g n))
    ∙ list_any-append (is_same name) (names_of (flat_map g (upto n))) (names_of (g n)) in
    elim (cases_eq k n) [
      | inl same ↦ all ∙ either_right (is_name_of (flat_map g (upto n)) name)
          (is_name_of (g n) name)
          (ap (λ (i : ℕ). is_name_of (g i) name) (sym same) ∙ here)
      | inr other ↦ all ∙ either_left (is_name_of (flat_map g (upto n)) name)
          (is_name_of (g n) name)
          (declared_at g name n k (omega arith) here)
    ]
  where
    either_left : (a b : Bool) → a ≡ true → (a || b) ≡ true
    either_left true b h = refl
    either_left false b h = absurd (false≢true h)

    either_right : (a b : Bool) → b ≡ true → (a || b) ≡ true
    either_right true b h = refl
    either_right false b h = h

-- nothing is found where nothing is found of any number
pub none_of_each : {X : Type 0} (f : X → List ℕ) (g : ℕ → List X) (n : ℕ)
    → ((i : ℕ) → i < n → flat_map f (g i) ≡ [])
    → flat_map f (flat_map g (upto n)) ≡ []
none_of_each f g zero h = refl
none_of_each f g (suc n) h =
    ap (flat_map f) (flat_map_upto g n)
    ∙ flat_map-append f (flat_map g (upto n)) (g n)
    ∙ rw (none_of_each f g n (λ i below. h i (omega arith)), h n (omega arith)) refl

-- P holds of each word
abbrev pub AllWords : (Word → Type 0) → List Word → Type 0
AllWords P [] = ⊤
AllWords P (w ∷ ws) = P w × AllWords P ws

all_append : (P : Word → Type 0) (xs ys : List Word) → AllWords P xs → AllWords P ys
    → AllWords P (xs ++ ys)
all_append P [] ys h k = k
all_append P (x ∷ xs) ys h k = (h.0, all_append P xs ys h.1 k)

pub all_flat : (P : Word → Type 0) (g : ℕ → List Word) (n : ℕ)
    → ((i : ℕ) → i < n → AllWords P (g i)) → AllWords P (flat_map g (upto n))
all_flat P g zero h = tt
all_flat P g (suc n) h =
    subst (AllWords P) (sym (flat_map_upto g n))
    (all_append P (flat_map g (upto n)) (g n) (all_flat P g n (λ i below. h i (omega arith)))
    (h n (omega arith)))

-- the words have no name of these
abbrev pub Apart : List Word → List Word → Type 0
Apart xs ys = AllWords (λ (w : Word). AllWords (λ (v : Word). is_same v.name w.name ≡ false) ys) xs

-- no name stands twice
abbrev pub Different : List Word → Type 0
Different [] = ⊤
Different (w ∷ ws) = AllWords (λ (v : Word). is_same v.name w.name ≡ false) ws × Different ws

different_append : (xs ys : List Word) → Different xs → Different ys → Apart xs ys
    → Different (xs ++ ys)
different_append [] ys h k apart = k
different_append (x ∷ xs) ys h k apart = (
  all_append (λ (v : Word). is_same v.name x.name ≡ false) xs ys h.0 apart.0,
  different_append xs ys h.1 k apart.1,
)

pub different_flat : (g : ℕ → List Word) (n : ℕ) → ((i : ℕ) → i < n → Different (g i))
    → ((i k : ℕ) → i < k → k < n → Apart (g i) (g k))
    → Different (flat_map g (upto n))
different_flat g zero own apart = tt
different_flat g (suc n) own apart =
    subst Different (sym (flat_map_upto g n))
    (different_append (flat_map g (upto n)) (g n)
    (different_flat g n (λ i below. own i (omega arith))
    (λ i k less below. apart i k less (omega arith)))
    (own n (omega arith))
    (all_flat (λ (w : Word). AllWords (λ (v : Word). is_same v.name w.name ≡ false) (g n)) g n
    (λ i below. apart i n below (omega arith))))

pub none_repeats : (taken : List ℕ → Bool) (ws : List Word)
    → AllWords (λ (w : Word). taken w.name ≡ false) ws → Different ws → repeated taken ws ≡ []
none_repeats taken [] free apart = refl
none_repeats taken (w ∷ ws) free apart =
    let also : AllWords (λ (v : Word). (taken v.name || is_same v.name w.name) ≡ false) ws =
    joined ws free.1 apart.0 in
    let rest : repeated (λ name. taken name || is_same name w.name) ws ≡ [] =
    none_repeats (λ name. taken name || is_same name w.name) ws also apart.1 in
    let here : unless (not (taken w.name)) w.at ≡ [] = rw free.0 refl in
    rw (here, rest) refl
  where
    joined : (vs : List Word) → AllWords (λ (v : Word). taken v.name ≡ false) vs
        → AllWords (λ (v : Word). is_same v.name w.name ≡ false) vs
        → AllWords (λ (v : Word). (taken v.name || is_same v.name w.name) ≡ false) vs
    joined [] h k = tt
    joined (v ∷ vs) h k = (rw (h.0, k.0) refl, joined vs h.1 k.1)
