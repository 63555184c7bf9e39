-- The layout of a graph of a machine fits the machine.
use Rattle.std.proofs.Common.{◌≡◌, ◌⊎◌, inl, inr, ⊎_elim, ℕ, zero, suc, ◌+◌, ◌<◌, Bool, true, false, cond, ◌==◌, List, ◌∷◌, ◌++◌, map, length, slice_get, slice_index, Some, None, refl, ap, sym, ◌∙◌, arith, []}
use Rattle.transition_table.specs.declared.machine.Machine.{Machine}
use Rattle.sgraph.specs.declared.vertex.Vertex.{Vertex}
use Rattle.sgraph.specs.declared.vertex.Vertex.TheVariants.{Begin, Test as Tests, Assign, End}
use Rattle.sgraph.specs.Walks.{FitsMachine}
use Rattle.task_code.specs.declared.instr.Instr.{Instr}
use Rattle.task_code.specs.declared.instr.Instr.TheVariants.{Test, Set, Goto, Halt}
use Rattle.task_code.specs.Codes.{given_by, laid_out}
use Rattle.task_machine.specs.Running.{CodeFits}
use Rattle.sgraph.proofs.IsGraph.{long_map}

-- an instruction is one of some vertex
record OfVertex (at : ℕ → ℕ) (k : ℕ) (vs : List Vertex) (i : Instr) : Type 0 where
  pub n : ℕ
  pub v : Vertex
  pub off : ℕ
  pub is : slice_get vs n ≡ Some v
  pub gives : slice_get (given_by at (k + n) v) off ≡ Some i

split : (xs ys : List Instr) (p : ℕ) (i : Instr) → slice_get (xs ++ ys) p ≡ Some i
    → (slice_get xs p ≡ Some i) ⊎ ((q : ℕ) × (slice_get ys q ≡ Some i))
split [] ys p i is = inr (p, is)
split (x ∷ xs) ys zero i is = inl is
split (x ∷ xs) ys (suc p) i is = split xs ys p i is

of_vertex : (at : ℕ → ℕ) (vs : List Vertex) (k p : ℕ) (i : Instr)
    → slice_get (laid_out at k vs) p ≡ Some i → OfVertex at k vs i
of_vertex at [] k p i is = absurd (clash is)
  where
    clash : None ≡ Some i → ⊥
    clash e = cc
of_vertex at (v ∷ vs) k p i is =
    ⊎_elim
    (λ first.
    let e : k ≡ k + 0 = omega arith in
    record {
      n = 0;
      v = v;
      off = p;
      is = refl;
      gives = ap (λ (j : ℕ). slice_get (given_by at j v) p) (sym e) ∙ first;
    })
    (λ later.
    let rest = of_vertex at vs (suc k) later.0 i later.1 in
    let e : suc k + rest.n ≡ k + suc rest.n = omega arith in
    record {
      n = suc rest.n;
      v = rest.v;
      off = rest.off;
      is = rest.is;
      gives = ap (λ (j : ℕ). slice_get (given_by at j rest.v) rest.off) (sym e) ∙ rest.gives;
    })
    (split (given_by at k v) (laid_out at (suc k) vs) p i is)

module _ (m : Machine) (g : List Vertex) (fit : FitsMachine m g) (at : ℕ → ℕ) where
  one_test : (n k off var : ℕ) (targets : List ℕ) (v : Vertex) → slice_get g n ≡ Some v
      → slice_get (given_by at k v) off ≡ Some (Test var targets)
      → (var < length m.vars) × (length targets ≡ slice_index m.vars var)
  one_test n k off var targets (Begin next) is gives = absurd (clash gives)
    where
      clash : None ≡ Some (Test var targets) → ⊥
      clash e = cc
  one_test n k off var targets (Tests own kids) is gives = of_off off gives
    where
      of_off : (o : ℕ) → slice_get (Test own (map at kids) ∷ []) o ≡ Some (Test var targets)
          → (var < length m.vars) × (length targets ≡ slice_index m.vars var)
      of_off zero e =
          let same : own ≡ var = cc in
          let places : map at kids ≡ targets = cc in
          let test = fit.tests n own kids is in
          let low : own < length m.vars = test.0 in (
            omega arith,
            sym (ap (λ (xs : List ℕ). length xs) places) ∙ long_map at kids ∙ test.1
                ∙ ap (slice_index m.vars) same,
          )
      of_off (suc o) e = absurd (clash e)
        where
          clash : None ≡ Some (Test var targets) → ⊥
          clash h = cc
  one_test n k off var targets (Assign result code next) is gives =
      absurd (of_off (next == suc k) off gives)
    where
      of_off : (b : Bool) (o : ℕ) → slice_get (Set result code ∷ cond b [] (Goto (at next) ∷ [])) o
          ≡ Some (Test var targets) → ⊥
      of_off b zero e = cc
      of_off true (suc o) e = cc
      of_off false (suc zero) e = cc
      of_off false (suc (suc o)) e = cc
  one_test n k off var targets End is gives = absurd (of_off off gives)
    where
      of_off : (o : ℕ) → slice_get (Halt ∷ []) o ≡ Some (Test var targets) → ⊥
      of_off zero e = cc
      of_off (suc o) e = cc

  one_set : (n k off result code : ℕ) (v : Vertex) → slice_get g n ≡ Some v
      → slice_get (given_by at k v) off ≡ Some (Set result code)
      → (result < length m.results) × (code < slice_index m.results result)
  one_set n k off result code (Begin next) is gives = absurd (clash gives)
    where
      clash : None ≡ Some (Set result code) → ⊥
      clash e = cc
  one_set n k off result code (Tests var kids) is gives = absurd (of_off off gives)
    where
      of_off : (o : ℕ) → slice_get (Test var (map at kids) ∷ []) o ≡ Some (Set result code) → ⊥
      of_off zero e = cc
      of_off (suc o) e = cc
  one_set n k off result code (Assign own given next) is gives = of_off (next == suc k) off gives
    where
      of_off : (b : Bool) (o : ℕ) → slice_get (Set own given ∷ cond b [] (Goto (at next) ∷ [])) o
          ≡ Some (Set result code)
          → (result < length m.results) × (code < slice_index m.results result)
      of_off b zero e =
          let same : own ≡ result = cc in
          let put : given ≡ code = cc in
          let low = fit.assigns n own given next is in
          let one = fit.codes n own given next is in
          let size = ap (slice_index m.results) same in
          (omega arith, omega (arith, put, one, size))
      of_off true (suc o) e = absurd (clash e)
        where
          clash : None ≡ Some (Set result code) → ⊥
          clash h = cc
      of_off false (suc zero) e = absurd (clash e)
        where
          clash : Some (Goto (at next)) ≡ Some (Set result code) → ⊥
          clash h = cc
      of_off false (suc (suc o)) e = absurd (clash e)
        where
          clash : None ≡ Some (Set result code) → ⊥
          clash h = cc
  one_set n k off result code End is gives = absurd (of_off off gives)
    where
      of_off : (o : ℕ) → slice_get (Halt ∷ []) o ≡ Some (Set result code) → ⊥
      of_off zero e = cc
      of_off (suc o) e = cc

  pub layout_fits : CodeFits m (laid_out at 0 g)
  layout_fits = record {
    tests = λ k var targets is. let one = of_vertex at g 0 k (Test var targets) is in
        one_test one.n (0 + one.n) one.off var targets one.v one.is one.gives;
    sets = λ k result code is. let one = of_vertex at g 0 k (Set result code) is in
        (one_set one.n (0 + one.n) one.off result code one.v one.is one.gives).0;
    codes = λ k result code is. let one = of_vertex at g 0 k (Set result code) is in
        (one_set one.n (0 + one.n) one.off result code one.v one.is one.gives).1;
  }
