-- The layout of a graph is code.
use Rattle.std.proofs.Common.{◌≡◌, ℕ, zero, suc, ◌+◌, ◌-◌, ◌<◌, ◌≤◌, Bool, true, false, cond, ◌==◌, List, ◌∷◌, map, length, slice_get, slice_index, Some, refl, ap, sym, subst, ◌∙◌, arith, []}
use Rattle.sgraph.specs.declared.vertex.Vertex.{Vertex}
use Rattle.sgraph.specs.declared.vertex.Vertex.TheVariants.{Begin, Test as Tests, Assign, End}
use Rattle.task_code.specs.declared.limits.TheConstants.{CODE_MAX}
use Rattle.task_code.specs.declared.instr.Instr.{Instr}
use Rattle.task_code.specs.declared.instr.Instr.TheVariants.{Test, Set, Goto, Halt}
use Rattle.task_code.specs.Codes.{width, given_before, start, given_by}
use Rattle.sgraph.specs.Facts.{IsGraph}
use Rattle.task_code.specs.Facts.{FitsAt, IsCode}
use Rattle.task_code.proofs.LaidOut.{laid, located, long_laid, start_next, start_rises, start_later, instr_at}
use Rattle.sgraph.proofs.IsGraph.{there_is}

-- ---- its layout

module _ (g : List Vertex) (ok : IsGraph g) where
  -- the place of each vertex but the begin stands within
  start_within : (k : ℕ) → k < length g → 0 < k → start g k < length (laid g)
  start_within k low high =
      let v = there_is g k low in
      let l = long_laid (start g) g 0 in
      let more : ℕ = length g - suc k in
      let e : suc k + more ≡ length g = omega arith in
      let rises = start_rises g 0 (suc k) more in
      let at : given_before 0 g (suc k + more) ≡ given_before 0 g (length g) =
      ap (given_before 0 g) e in
      let next = start_next g 0 k v.0 v.1 in
      let some = wide (0 + k) k v.0 v.1 high in
      omega arith
    where
      wide : (j k : ℕ) (v : Vertex) → slice_get g k ≡ Some v → 0 < k → 0 < width j v
      wide j k (Begin next) is high = absurd (let e = ok.only_begin k next is in omega arith)
      wide j k (Tests var kids) is high = omega arith
      wide j k (Assign result code next) is high = go (next == suc j)
        where
          go : (b : Bool) → 0 < cond {A = ℕ} b 1 2
          go true = omega arith
          go false = omega arith
      wide j k End is high = omega arith

  index_map : (f : ℕ → ℕ) (xs : List ℕ) (j : ℕ) → j < length xs
      → slice_index (map f xs) j ≡ f (slice_index xs j)
  index_map f [] j low = absurd (omega arith)
  index_map f (x ∷ xs) zero low = refl
  index_map f (x ∷ xs) (suc j) low = index_map f xs j (omega arith)

  long_map : (f : ℕ → ℕ) (xs : List ℕ) → length (map f xs) ≡ length xs
  long_map f [] = refl
  long_map f (x ∷ xs) = ap suc (long_map f xs)

  of_vertex : (n off p : ℕ) (v : Vertex) (i : Instr) → slice_get g n ≡ Some v → off < width n v
      → p ≡ start g n + off → slice_get (given_by (start g) n v) off ≡ Some i
      → FitsAt (length (laid g)) p i
  of_vertex n off p (Begin next) i is low place instr = absurd (omega arith)
  of_vertex n off p (Tests var kids) i is low place instr =
      let zero_off : off ≡ 0 = omega arith in
      let same : i ≡ Test var (map (start g) kids) = the off zero_off instr in
      subst (FitsAt (length (laid g)) p) (sym same) (let l = long_map (start g) kids in (
        omega (arith, ok.some_kid n var kids is),
        λ j inside.
            let above = ok.above n (Tests var kids) j is (omega arith) in
            let within = ok.within n (Tests var kids) j is (omega arith) in
            let later = start_later g n (slice_index kids j) (Tests var kids) is above in
            let e = index_map (start g) kids j (omega arith) in
            let w : width n (Tests var kids) ≡ 1 = refl in
            let there = start_within (slice_index kids j) within (omega arith) in
            (omega arith, omega arith),
      ))
    where
      the : (o : ℕ) → o ≡ 0 → slice_get (Test var (map (start g) kids) ∷ []) o ≡ Some i
          → i ≡ Test var (map (start g) kids)
      the zero e h = cc
      the (suc o) e h = absurd (omega arith)
  of_vertex n off p (Assign result code next) i is low place instr =
      two (next == suc n) refl off place low instr
    where
      two : (b : Bool) → (next == suc n) ≡ b → (o : ℕ) → p ≡ start g n + o → o < cond {A = ℕ} b 1 2
          → slice_get (Set result code ∷ cond b [] (Goto (start g next) ∷ [])) o ≡ Some i
          → FitsAt (length (laid g)) p i
      two b e zero at l h = let same : Set result code ≡ i = cc in
          subst (FitsAt (length (laid g)) p) same tt
      two true e (suc o) at l h = absurd (omega arith)
      two false e (suc zero) at l h =
          let same : Goto (start g next) ≡ i = cc in
          let above = ok.above n (Assign result code next) 0 is (omega arith) in
          let within = ok.within n (Assign result code next) 0 is (omega arith) in
          let later = start_later g n next (Assign result code next) is above in
          let w : width n (Assign result code next) ≡ 2 = ap (λ (b : Bool). cond {A = ℕ} b 1 2) e in
          let there = start_within next within (omega arith) in
          subst (FitsAt (length (laid g)) p) same (omega arith, omega arith)
      two false e (suc (suc o)) at l h = absurd (omega arith)
  of_vertex n off p End i is low place instr =
      let zero_off : off ≡ 0 = omega arith in
      let same : i ≡ Halt = the off zero_off instr in
      subst (FitsAt (length (laid g)) p) (sym same) tt
    where
      the : (o : ℕ) → o ≡ 0 → slice_get (Halt ∷ []) o ≡ Some i → i ≡ Halt
      the zero e h = cc
      the (suc o) e h = absurd (omega arith)

  pub is_code : length (laid g) ≤ CODE_MAX → IsCode (laid g)
  is_code few =
      let first = ok.above 0 (Begin ok.begin.0) 0 ok.begin.1 (omega arith) in
      let within = ok.within 0 (Begin ok.begin.0) 0 ok.begin.1 (omega arith) in
      let n : ℕ = length g - 1 in
      let e : n + 1 ≡ length g = omega arith in
      let end = ok.end n e in
      let l = long_laid (start g) g 0 in
      let next = start_next g 0 n End end in
      let at : given_before 0 g (suc n) ≡ given_before 0 g (length g) =
      (let f : suc n ≡ length g = omega arith in ap (given_before 0 g) f) in
      let w : width (0 + n) End ≡ 1 = refl in
      record {
        some = omega arith;
        few = few;
        last = λ k h. let f : k ≡ start g n + 0 = omega arith in
            ap (slice_get (laid g)) f ∙ instr_at g n 0 End end (omega arith);
        each = λ k i is.
            let found = located (start g) g 0 k i is in
            let z : 0 + found.n ≡ found.n = omega arith in
            of_vertex found.n found.off k found.v i found.is
            (subst (λ (m : ℕ). found.off < width m found.v) z found.inside) found.place
            (subst (λ (m : ℕ). slice_get (given_by (start g) m found.v) found.off ≡ Some i) z
            found.instr);
      }
