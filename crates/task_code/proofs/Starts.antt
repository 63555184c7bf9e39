-- Reading lists, and one more item.
use Rattle.std.proofs.Common.{◌≡◌, ℕ, zero, suc, ◌+◌, ◌<◌, ◌≤◌, ⊎_elim, Bool, false, cond, ◌==◌, List, ◌∷◌, ◌++◌, map, length, drop, slice_get, slice_index, Some, refl, ap, sym, ◌∙◌, arith, append_assoc, []}
use Rattle.std.proofs.lemmas.Bool.{cases_lt, ne_eqb}
use Rattle.polis_base.specs.Lists.{upto}
use Rattle.sgraph.specs.declared.vertex.Vertex.{Vertex}
use Rattle.task_code.specs.declared.instr.Instr.{Instr}
use Rattle.task_code.specs.declared.instr.Instr.TheVariants.{Set, Goto}
use Rattle.sgraph.specs.declared.vertex.Vertex.TheVariants.{Assign}
use Rattle.task_code.specs.Codes.{width, start, given_by, laid_out}
use Rattle.task_code.proofs.LaidOut.{start_next}
use Rattle.sgraph.proofs.NextNodes.{got}
use Rattle.polis_base.proofs.Places.{index_append, index_end, length_push, map_push}

-- one more start
pub one_start : (g : List Vertex) (places more : List ℕ) (k next : ℕ)
    → places ≡ map (start g) (upto k) → next ≡ start g k → more ≡ places ++ next ∷ []
    → more ≡ map (start g) (upto (k + 1))
one_start g places more k next is at e =
    let f : k + 1 ≡ suc k = omega arith in
    e
    ∙ ap (λ (xs : List ℕ). xs ++ next ∷ []) is
    ∙ ap (λ (x : ℕ). map (start g) (upto k) ++ x ∷ []) at
    ∙ sym (map_push (start g) (upto k) k)
    ∙ ap (λ (n : ℕ). map (start g) (upto n)) (sym f)

pub next_start : (g : List Vertex) (k next wide : ℕ) (v : Vertex) → slice_get g k ≡ Some v
    → next ≡ start g k → wide ≡ width k v → next + wide ≡ start g (k + 1)
next_start g k next wide v is at w =
    let f : k + 1 ≡ suc k = omega arith in
    let z : 0 + k ≡ k = omega arith in
    let own : width (0 + k) v ≡ width k v = ap (λ (n : ℕ). width n v) z in
    let s = start_next g 0 k v is in
    let e : start g (k + 1) ≡ start g (suc k) = ap (start g) f in
    omega arith

long_places : (f : ℕ → ℕ) (n : ℕ) → length (map f (upto n)) ≡ n
long_places f zero = refl
long_places f (suc n) = ap (λ (xs : List ℕ). length xs) (map_push f (upto n) n)
    ∙ length_push (map f (upto n)) (f n) ∙ ap suc (long_places f n)

pub long_starts : (g : List Vertex) (places : List ℕ) → places ≡ map (start g) (upto (length g))
    → length places ≡ length g
long_starts g places is = ap (λ (xs : List ℕ). length xs) is ∙ long_places (start g) (length g)

place_at : (f : ℕ → ℕ) (n j : ℕ) → j < n → slice_index (map f (upto n)) j ≡ f j
place_at f zero j low = absurd (omega arith)
place_at f (suc n) j low =
    let l = long_places f n in
    ap (λ (xs : List ℕ). slice_index xs j) (map_push f (upto n) n)
    ∙ ⊎_elim
    (λ less. index_append (map f (upto n)) (f n ∷ []) j (omega arith) ∙ place_at f n j less)
    (λ more. let e : j ≡ length (map f (upto n)) = omega arith in let h : n ≡ j = omega arith in
    ap (slice_index (map f (upto n) ++ f n ∷ [])) e ∙ index_end (map f (upto n)) (f n)
    ∙ ap f h)
    (cases_lt j n)

pub start_at : (g : List Vertex) (places : List ℕ) (j : ℕ)
    → places ≡ map (start g) (upto (length g)) → j < length g → slice_index places j ≡ start g j
start_at g places j is low = ap (λ (xs : List ℕ). slice_index xs j) is
    ∙ place_at (start g) (length g) j low

-- one more vertex
drop_one : (g : List Vertex) (k : ℕ) (v : Vertex) → slice_get g k ≡ Some v
    → drop k g ≡ v ∷ drop (suc k) g
drop_one [] k v e = cc
drop_one (w ∷ g) zero v e = let f : w ≡ v = cc in ap (λ (u : Vertex). u ∷ g) f
drop_one (w ∷ g) (suc k) v e = drop_one g k v e

pub one_vertex : (at : ℕ → ℕ) (g : List Vertex) (code more whole : List Instr) (k : ℕ) (v : Vertex)
    → code ++ laid_out at k (drop k g) ≡ whole → slice_get g k ≡ Some v
    → more ≡ code ++ given_by at k v → more ++ laid_out at (k + 1) (drop (k + 1) g) ≡ whole
one_vertex at g code more whole k v is is_v e =
    let f : k + 1 ≡ suc k = omega arith in
    ap (λ (n : ℕ). more ++ laid_out at n (drop n g)) f
    ∙ ap (λ (xs : List Instr). xs ++ laid_out at (suc k) (drop (suc k) g)) e
    ∙ append_assoc code (given_by at k v) (laid_out at (suc k) (drop (suc k) g))
    ∙ ap (λ (vs : List Vertex). code ++ laid_out at k vs) (sym (drop_one g k v is_v))
    ∙ is

drop_all : (g : List Vertex) (k : ℕ) → length g ≤ k → drop k g ≡ []
drop_all [] zero h = refl
drop_all [] (suc k) h = refl
drop_all (v ∷ g) zero h = absurd (omega arith)
drop_all (v ∷ g) (suc k) h = drop_all g k (omega arith)

append_none : (xs : List Instr) → xs ++ [] ≡ xs
append_none [] = refl
append_none (x ∷ xs) = ap (λ (ys : List Instr). x ∷ ys) (append_none xs)

pub all_vertices : (at : ℕ → ℕ) (g : List Vertex) (code whole : List Instr) (k : ℕ)
    → code ++ laid_out at k (drop k g) ≡ whole → length g ≤ k → code ≡ whole
all_vertices at g code whole k is h =
    sym (append_none code) ∙ ap (λ (vs : List Vertex). code ++ laid_out at k vs)
    (sym (drop_all g k h)) ∙ is

-- an assignment and its goto
pub set_goto : (starts : List ℕ) (k result code next place : ℕ) (xs ys zs : List Instr) (v : Vertex)
    → v ≡ Assign result code next → (next ≡ k + 1 → ⊥) → slice_get starts next ≡ Some place
    → ys ≡ xs ++ Set result code ∷ [] → zs ≡ ys ++ Goto place ∷ []
    → zs ≡ xs ++ given_by (slice_index starts) k v
set_goto starts k result code next place xs ys zs v is other is_place one two =
    let off : (next == suc k) ≡ false = ne_eqb next (suc k) (λ e. other (omega arith)) in
    two
    ∙ ap (λ (is : List Instr). is ++ Goto place ∷ []) one
    ∙ append_assoc xs (Set result code ∷ []) (Goto place ∷ [])
    ∙ ap (λ (p : ℕ). xs ++ Set result code ∷ Goto p ∷ []) (sym (got starts next place is_place))
    ∙ ap (λ (b : Bool). xs ++ Set result code ∷ cond b [] (Goto (slice_index starts next) ∷ []))
    (sym off)
    ∙ ap (λ (w : Vertex). xs ++ given_by (slice_index starts) k w) (sym is)
