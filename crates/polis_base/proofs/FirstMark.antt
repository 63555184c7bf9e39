-- The first piece of a text, by the first byte that is the mark.
use Rattle.std.proofs.Common.{◌≡◌, ⊎_elim, ◌<◌, ◌≤◌, ◌+◌, ◌-◌, length-drop, ℕ, zero, suc, Bool, true, false, ◌==◌, List, [], ◌∷◌, ◌++◌, length, take, drop, get_or, refl, ap, ◌∙◌, arith, sym}
use Rattle.std.proofs.lemmas.Bool.{not_from_false, cases_lt, and_from}
use Rattle.std.proofs.lemmas.List.{take_all, get_or-drop}
use Rattle.memchr.specs.Find.{Nowhere, Passes, is_byte}
use Rattle.polis_base.specs.Pieces.{lacks}

-- none of the first k bytes is the mark
abbrev pub NoneBefore : ℕ → List ℕ → ℕ → Type 0
NoneBefore mark bytes k = (j : ℕ) → j < k → (get_or bytes j 0 == mark) ≡ false

pub cut_here : (mark : ℕ) (bytes : List ℕ) (k : ℕ) → k < length bytes → get_or bytes k 0 ≡ mark
    → bytes ≡ take k bytes ++ mark ∷ drop (suc k) bytes
cut_here mark [] k below here = absurd (omega arith)
cut_here mark (c ∷ rest) zero below here = ap (λ x. x ∷ rest) here
cut_here mark (c ∷ rest) (suc k) below here =
    ap (λ xs. c ∷ xs) (cut_here mark rest k (omega arith) here)

-- what stands from a place on
pub from_place : (bytes : List ℕ) (near : ℕ)
    → near ≤ length bytes → take (length bytes - near) (drop near bytes) ≡ drop near bytes
from_place bytes near within =
    take_all (length bytes - near) (drop near bytes) (omega (arith, length-drop near bytes))

-- the text cut at the mark, as slices
pub cut_slice : (mark : ℕ) (bytes : List ℕ) (k : ℕ) → k < length bytes → get_or bytes k 0 ≡ mark
    → bytes ≡ take k bytes ++ mark ∷ take (length bytes - (k + 1)) (drop (k + 1) bytes)
cut_slice mark bytes k below here =
    let next : suc k ≡ k + 1 = omega arith in
    let end = from_place bytes (k + 1) (omega arith) in
    cut_here mark bytes k below here ∙ ap (λ n. take k bytes ++ mark ∷ drop n bytes) next
    ∙ ap (λ xs. take k bytes ++ mark ∷ xs) (sym end)

pub prefix_lacks : (mark : ℕ) (bytes : List ℕ) (k : ℕ) → NoneBefore mark bytes k → k ≤ length bytes
    → lacks mark (take k bytes) ≡ true
prefix_lacks mark bytes zero before within = refl
prefix_lacks mark [] (suc k) before within = absurd (omega arith)
prefix_lacks mark (c ∷ rest) (suc k) before within =
    and_from _ _ (not_from_false _ (before 0 (omega arith)))
    (prefix_lacks mark rest k (λ j h. before (suc j) (omega arith)) (omega arith))

pub whole_lacks : (mark : ℕ) (bytes : List ℕ) (k : ℕ) → length bytes ≤ k → NoneBefore mark bytes k
    → lacks mark bytes ≡ true
whole_lacks mark [] k all before = refl
whole_lacks mark (c ∷ rest) zero all before = absurd (omega arith)
whole_lacks mark (c ∷ rest) (suc k) all before =
    and_from _ _ (not_from_false _ (before 0 (omega arith)))
    (whole_lacks mark rest k (omega arith) (λ j h. before (suc j) (omega arith)))

-- where a search finds no mark before a place, none stands before it
pub none_before : (mark : ℕ) (bytes : List ℕ) (k : ℕ)
    → Nowhere (Passes (is_byte mark) bytes) 0 k → NoneBefore mark bytes k
none_before mark bytes k nowhere j low =
    not_true (get_or bytes j 0 == mark) (nowhere j (omega arith) low)
  where
    not_true : (b : Bool) → (b ≡ true → ⊥) → b ≡ false
    not_true true never = absurd (never refl)
    not_true false never = refl

-- nothing passes before a place, and nothing in what stands from there on before another
pub nowhere_on : (test : ℕ → Bool) (bytes : List ℕ) (near k : ℕ)
    → Nowhere (Passes test bytes) 0 near
    → Nowhere (Passes test (drop near bytes)) 0 k
    → Nowhere (Passes test bytes) 0 (near + k)
nowhere_on test bytes near k first rest j low high passes =
    ⊎_elim (λ below. first j low below passes) (λ above. later above) (cases_lt j near)
  where
    later : near ≤ j → ⊥
    later above =
        let i : ℕ = j - near in
        let place : near + i ≡ j = omega arith in
        let same : get_or (drop near bytes) i 0 ≡ get_or bytes j 0 =
        get_or-drop near bytes i 0 ∙ ap (λ n. get_or bytes n 0) place in
        rest i (omega arith) (omega arith) (ap test same ∙ passes)
