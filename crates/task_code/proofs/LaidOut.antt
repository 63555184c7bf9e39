-- Where the instructions of a vertex stand.
use Rattle.std.proofs.Common.{◌≡◌, ⊎_elim, ℕ, zero, suc, ◌+◌, ◌-◌, ◌<◌, ◌≤◌, Bool, true, false, cond, ◌==◌, List, [], ◌∷◌, ◌++◌, length, slice_get, slice_index, Some, refl, ap, sym, ◌∙◌, arith, length-append}
use Rattle.std.proofs.lemmas.Bool.{cases_lt}
use Rattle.sgraph.specs.declared.vertex.Vertex.{Vertex}
use Rattle.sgraph.specs.declared.vertex.Vertex.TheVariants.{Begin, Test as Tests, Assign, End}
use Rattle.task_code.specs.declared.instr.Instr.{Instr}
use Rattle.task_code.specs.declared.instr.Instr.TheVariants.{Test, Set, Goto}
use Rattle.sgraph.specs.Graphs.{kids_of}
use Rattle.task_code.specs.Codes.{width, given_before, start, given_by, laid_out}
use Rattle.sgraph.proofs.GraphOf.{map_numbers}

-- ---- places
pub long_given : (at : ℕ → ℕ) (k : ℕ) (v : Vertex) → length (given_by at k v) ≡ width k v
long_given at k (Begin next) = refl
long_given at k (Tests var kids) = refl
long_given at k (Assign result code next) = go (next == suc k)
  where
    go : (b : Bool) → length (Set result code ∷ cond b [] (Goto (at next) ∷ []))
        ≡ cond {A = ℕ} b 1 2
    go true = refl
    go false = refl
long_given at k End = refl

pub get_front : (xs ys : List Instr) (i : ℕ) → i < length xs
    → slice_get (xs ++ ys) i ≡ slice_get xs i
get_front [] ys i low = absurd (omega arith)
get_front (x ∷ xs) ys zero low = refl
get_front (x ∷ xs) ys (suc i) low = get_front xs ys i (omega arith)

pub get_behind : (xs ys : List Instr) (n i : ℕ) → length xs ≡ n
    → slice_get (xs ++ ys) (n + i) ≡ slice_get ys i
get_behind [] ys n i e = let f : n + i ≡ i = omega arith in ap (slice_get ys) f
get_behind (x ∷ xs) ys zero i e = absurd (omega arith)
get_behind (x ∷ xs) ys (suc n) i e = let f : suc n + i ≡ suc (n + i) = omega arith in
    ap (slice_get (x ∷ (xs ++ ys))) f ∙ get_behind xs ys n i (omega arith)

-- the instructions of a vertex stand from its place on
pub code_at : (at : ℕ → ℕ) (vs : List Vertex) (k n i : ℕ) (v : Vertex) → slice_get vs n ≡ Some v
    → i < width (k + n) v → slice_get (laid_out at k vs) (given_before k vs n + i)
    ≡ slice_get (given_by at (k + n) v) i
code_at at [] k n i v is low = cc
code_at at (x ∷ xs) k zero i v is low =
    let same : x ≡ v = cc in
    let e : k + 0 ≡ k = omega arith in
    let f : 0 + i ≡ i = omega arith in
    let inside : i < width k x = rw (same, ← e) low in
    let l = long_given at k x in
    ap (slice_get (laid_out at k (x ∷ xs))) f
    ∙ get_front (given_by at k x) (laid_out at (suc k) xs) i (omega arith)
    ∙ ap (λ (w : Vertex). slice_get (given_by at k w) i) same
    ∙ ap (λ (j : ℕ). slice_get (given_by at j v) i) (sym e)
code_at at (x ∷ xs) k (suc n) i v is low =
    let e : suc k + n ≡ k + suc n = omega arith in
    let f : width k x + given_before (suc k) xs n + i
    ≡ width k x + (given_before (suc k) xs n + i) = omega arith in
    ap (slice_get (laid_out at k (x ∷ xs))) f
    ∙ get_behind (given_by at k x) (laid_out at (suc k) xs) (width k x)
    (given_before (suc k) xs n + i) (long_given at k x)
    ∙ code_at at xs (suc k) n i v is (rw e low)
    ∙ ap (λ (j : ℕ). slice_get (given_by at j v) i) e

-- places rise
pub start_next : (vs : List Vertex) (k n : ℕ) (v : Vertex) → slice_get vs n ≡ Some v
    → given_before k vs (suc n) ≡ given_before k vs n + width (k + n) v
start_next [] k n v is = cc
start_next (x ∷ xs) k zero v is =
    let same : x ≡ v = cc in
    let e : k + 0 ≡ k = omega arith in
    let w : width k x ≡ width (k + 0) v = ap (width k) same ∙ ap (λ (j : ℕ). width j v) (sym e) in
    let none : given_before (suc k) xs 0 ≡ 0 = refl in
    omega arith
start_next (x ∷ xs) k (suc n) v is =
    let e : suc k + n ≡ k + suc n = omega arith in
    let rest = start_next xs (suc k) n v is in
    let w : width (suc k + n) v ≡ width (k + suc n) v = ap (λ (j : ℕ). width j v) e in
    omega arith

pub start_rises : (vs : List Vertex) (k n more : ℕ)
    → given_before k vs n ≤ given_before k vs (n + more)
start_rises vs k zero more = omega arith
start_rises [] k (suc n) more = let e : suc n + more ≡ suc (n + more) = omega arith in
    rw e (omega arith)
start_rises (x ∷ xs) k (suc n) more =
    let e : suc n + more ≡ suc (n + more) = omega arith in
    let rest = start_rises xs (suc k) n more in
    rw e (omega arith)

module _ (g : List Vertex) where
  abbrev pub laid : List Instr
  laid = laid_out (start g) 0 g

  -- a later vertex has its place behind the instructions of this one
  pub start_later : (k j : ℕ) (v : Vertex) → slice_get g k ≡ Some v → k < j
      → start g k + width k v ≤ start g j
  start_later k j v is less =
      let e : 0 + k ≡ k = omega arith in
      let w : width (0 + k) v ≡ width k v = ap (λ (i : ℕ). width i v) e in
      let next = start_next g 0 k v is in
      let more : ℕ = j - suc k in
      let f : suc k + more ≡ j = omega arith in
      let rises = start_rises g 0 (suc k) more in
      let at : given_before 0 g (suc k + more) ≡ given_before 0 g j = ap (given_before 0 g) f in
      omega arith

  pub instr_at : (k i : ℕ) (v : Vertex) → slice_get g k ≡ Some v → i < width k v
      → slice_get laid (start g k + i) ≡ slice_get (given_by (start g) k v) i
  instr_at k i v is low =
      let e : 0 + k ≡ k = omega arith in
      code_at (start g) g 0 k i v is (rw e low)
      ∙ ap (λ (j : ℕ). slice_get (given_by (start g) j v) i) e

-- ---- the whole
-- an instruction is one of some vertex

pub record Located (at : ℕ → ℕ) (k : ℕ) (vs : List Vertex) (p : ℕ) (i : Instr) : Type 0 where
  pub n : ℕ
  pub v : Vertex
  pub off : ℕ
  pub is : slice_get vs n ≡ Some v
  pub inside : off < width (k + n) v
  pub place : p ≡ given_before k vs n + off
  pub instr : slice_get (given_by at (k + n) v) off ≡ Some i

pub located : (at : ℕ → ℕ) (vs : List Vertex) (k p : ℕ) (i : Instr)
    → slice_get (laid_out at k vs) p ≡ Some i → Located at k vs p i
located at [] k p i is = cc
located at (v ∷ vs) k p i is =
    let long = long_given at k v in
    let e : k + 0 ≡ k = omega arith in
    ⊎_elim
    (λ front.
    record {
      n = 0;
      v = v;
      off = p;
      is = refl;
      inside = rw e front;
      place = omega arith;
      instr = rw e (sym (get_front (given_by at k v) (laid_out at (suc k) vs) p (omega arith))
          ∙ is);
    })
    (λ behind.
    let d : ℕ = p - width k v in
    let f : width k v + d ≡ p = omega arith in
    let rest = located at vs (suc k) d i
    (sym (get_behind (given_by at k v) (laid_out at (suc k) vs) (width k v) d long)
    ∙ ap (slice_get (laid_out at k (v ∷ vs))) f ∙ is) in
    let h : suc k + rest.n ≡ k + suc rest.n = omega arith in
    let place = rest.place in
    record {
      n = suc rest.n;
      v = rest.v;
      off = rest.off;
      is = rest.is;
      inside = rw (← h) rest.inside;
      place = omega arith;
      instr = rw (← h) rest.instr;
    })
    (cases_lt p (width k v))

pub long_laid : (at : ℕ → ℕ) (vs : List Vertex) (k : ℕ)
    → length (laid_out at k vs) ≡ given_before k vs (length vs)
long_laid at [] k = refl
long_laid at (v ∷ vs) k =
    let a = length-append (given_by at k v) (laid_out at (suc k) vs) in
    let b = long_given at k v in
    let c = long_laid at vs (suc k) in
    omega arith

pub same_given : (at other : ℕ → ℕ) (k : ℕ) (v : Vertex)
    → ((j : ℕ) → j < length (kids_of v)
    → at (slice_index (kids_of v) j) ≡ other (slice_index (kids_of v) j))
    → given_by at k v ≡ given_by other k v
same_given at other k (Begin next) h = refl
same_given at other k (Tests var kids) h =
    ap (λ (ts : List ℕ). Test var ts ∷ []) (map_numbers at other kids h)
same_given at other k (Assign result code next) h =
    ap (λ (t : ℕ). Set result code ∷ cond (next == suc k) [] (Goto t ∷ [])) (h 0 (omega arith))
same_given at other k End h = refl
