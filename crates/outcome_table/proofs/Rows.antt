-- Rows of a machine, and what they give.
use Rattle.std.proofs.Common.{◌≡◌, ℕ, zero, suc, ◌+◌, ◌-◌, ◌<◌, ◌≤◌, ◌&&◌, List, ◌∷◌, ◌++◌, map, length, replicate, slice_set, refl, ap, sym, ◌∙◌, arith, nat_le, length-append, []}
use Rattle.std.proofs.lemmas.Bool.{and_parts, leb-true}
use Rattle.std.proofs.lemmas.List.{map-append, replicate-append-replicate, append_assoc, length-replicate}
use Rattle.std.proofs.Math.Seq.{set-append_seam}
use Rattle.polis_base.specs.Lists.{upto}
use Rattle.domains.specs.Tables.{product}
use Rattle.transition_table.specs.Transitions.{code_given, codes_given}
use Rattle.transition_table.specs.declared.machine.Machine.{Machine}
use Rattle.transition_table.specs.declared.row.Act.{Act}
use Rattle.polis_base.proofs.Places.{length_map, map_same}
use Rattle.polis_base.proofs.UptoPlaces.{length_upto}

-- ---- the codes of the results
map_upto : {X : Type 0} (f : ℕ → X) (a b : ℕ)
    → map f (upto (a + b)) ≡ map f (upto a) ++ map (λ k. f (a + k)) (upto b)
map_upto {X = X} f a zero = let e : a + zero ≡ a = omega arith in
    ap (λ n. map f (upto n)) e ∙ sym (none (map f (upto a)))
  where
    none : (xs : List X) → xs ++ [] ≡ xs
    none [] = refl
    none (x ∷ xs) = ap (λ (ys : List X). x ∷ ys) (none xs)
map_upto {X = X} f a (suc b) =
    let e : a + suc b ≡ suc (a + b) = omega arith in
    ap (λ n. map f (upto n)) e
    ∙ map-append f (upto (a + b)) ((a + b) ∷ [])
    ∙ ap (λ (xs : List X). xs ++ f (a + b) ∷ []) (map_upto f a b)
    ∙ assoc (map f (upto a)) (map (λ k. f (a + k)) (upto b)) (f (a + b) ∷ [])
    ∙ ap (λ (xs : List X). map f (upto a) ++ xs)
    (sym (map-append (λ k. f (a + k)) (upto b) (b ∷ [])))
  where
    assoc : (xs ys zs : List X) → (xs ++ ys) ++ zs ≡ xs ++ (ys ++ zs)
    assoc [] ys zs = refl
    assoc (x ∷ xs) ys zs = ap (λ (ws : List X). x ∷ ws) (assoc xs ys zs)

-- those of the state variables and then of the outputs
pub given_apart : (m : Machine) (codes : List ℕ) (acts : List Act) (n a b : ℕ) → n ≡ a + b
    → codes_given m codes acts 1 n ≡ codes_given m codes acts 1 a
    ++ codes_given m codes acts (1 + a) b
given_apart m codes acts n a b e =
    ap (λ (k : ℕ). codes_given m codes acts 1 k) e
    ∙ map_upto (λ k. code_given m codes acts (1 + k)) a b
    ∙ ap (λ (xs : List ℕ). codes_given m codes acts 1 a ++ xs)
    (map_same (λ k. code_given m codes acts (1 + (a + k)))
    (λ k. code_given m codes acts ((1 + a) + k)) (upto b)
    (λ k. let g : 1 + (a + k) ≡ (1 + a) + k = omega arith in ap (code_given m codes acts) g))

-- one more of them
pub given_more : (m : Machine) (codes : List ℕ) (acts : List Act) (y : ℕ) → 1 ≤ y
    → codes_given m codes acts 1 (y + 1 - 1)
    ≡ codes_given m codes acts 1 (y - 1) ++ code_given m codes acts y ∷ []
given_more m codes acts y some =
    let e : y + 1 - 1 ≡ suc (y - 1) = omega arith in
    let g : 1 + (y - 1) ≡ y = omega arith in
    ap (λ (k : ℕ). codes_given m codes acts 1 k) e
    ∙ map-append (λ k. code_given m codes acts (1 + k)) (upto (y - 1)) ((y - 1) ∷ [])
    ∙ ap (λ (k : ℕ). codes_given m codes acts 1 (y - 1) ++ code_given m codes acts k ∷ []) g

pub given_long : (m : Machine) (codes : List ℕ) (acts : List Act) (y : ℕ) → 1 ≤ y
    → length (1 ∷ codes_given m codes acts 1 (y - 1)) ≡ y
given_long m codes acts y some =
    let e = length_map (λ k. code_given m codes acts (1 + k)) (upto (y - 1)) in
    let f = length_upto (y - 1) in
    omega arith

-- the next code in place of a 0
pub set_first : (n : ℕ) → 1 ≤ n
    → slice_set (replicate {A = ℕ} n 0) 0 1 ≡ 1 ∷ replicate {A = ℕ} (n - 1) 0
set_first zero some = absurd (omega arith)
set_first (suc n) some = let e : n ≡ suc n - 1 = omega arith in
    ap (λ (k : ℕ). 1 ∷ replicate {A = ℕ} k 0) e

pub set_next : (xs : List ℕ) (y n code : ℕ) → length xs ≡ y → y < n
    → slice_set (xs ++ replicate {A = ℕ} (n - y) 0) y code
    ≡ (xs ++ code ∷ []) ++ replicate {A = ℕ} (n - (y + 1)) 0
set_next xs y n code long low =
    let e : n - y ≡ suc (n - (y + 1)) = omega arith in
    ap (λ (k : ℕ). slice_set (xs ++ replicate {A = ℕ} k 0) y code) e
    ∙ ap (λ (k : ℕ). slice_set (xs ++ 0 ∷ replicate {A = ℕ} (n - (y + 1)) 0) k code) (sym long)
    ∙ set-append_seam xs 0 (replicate {A = ℕ} (n - (y + 1)) 0) code
    ∙ sym (append_assoc xs (code ∷ []) (replicate {A = ℕ} (n - (y + 1)) 0))

pub room : (codes xs : List ℕ) (y n : ℕ) → codes ≡ xs ++ replicate {A = ℕ} (n - y) 0
    → length xs ≡ y → y < n → y < length codes
room codes xs y n is long low =
    let e = ap (λ (ys : List ℕ). length ys) is
    ∙ length-append xs (replicate {A = ℕ} (n - y) 0) in
    let r = length-replicate {A = ℕ} (n - y) 0 in
    omega arith

pub zeros_apart : (n a b : ℕ) → n ≡ 1 + a + b
    → replicate {A = ℕ} n 0 ≡ 0 ∷ replicate {A = ℕ} a 0 ++ replicate {A = ℕ} b 0
zeros_apart n a b e = let f : 1 + a + b ≡ suc (a + b) = omega arith in
    ap (λ (k : ℕ). replicate {A = ℕ} k 0) (e ∙ f)
    ∙ ap (λ (xs : List ℕ). 0 ∷ xs) (sym (replicate-append-replicate {A = ℕ} a b 0))

-- and at most 512 rows
pub few_rows : (m : Machine) → length m.rows ≤ 512
few_rows m =
    let a = nat_le (length m.inputs) 16 in
    let b = nat_le (length m.outputs) 16 in
    let c = nat_le (length m.states) 8 in
    let d = nat_le (length m.rows) 512 in
    leb-true (length m.rows) 512
    (and_parts (a && b && c) d
    (and_parts (a && b && c && d) (nat_le (product m.vars) 65536) m.small).0).1
