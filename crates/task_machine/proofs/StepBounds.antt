-- How many instructions are executed of a graph's layout.
use Rattle.std.proofs.Common.{◌≡◌, ◌⊎◌, inl, inr, ⊎_elim, ℕ, suc, ◌+◌, ◌<◌, ◌≤◌, Bool, true, false, cond, not, ◌||◌, ◌==◌, List, [], ◌∷◌, ◌++◌, length, slice_get, slice_index, Option, Some, None, refl, ap, sym, subst, ◌∙◌, arith, eqb}
use Rattle.std.specs.Prelude.{Contains}
use Rattle.std.specs.List.{cons_option, list_any, IsDistinct, AllByRecursion}
use Rattle.std.proofs.lemmas.Bool.{and_parts, eqb-true, eq-eqb, ne_eqb, or_cases, true≢false}
use Rattle.std.proofs.lemmas.Map.Steps.{length-le_from_distinct_below}
use Rattle.transition_table.specs.declared.machine.Machine.{Machine}
use Rattle.transition_table.specs.NetworkFacts.{has, are_different}
use Rattle.sgraph.specs.declared.vertex.Vertex.{Vertex}
use Rattle.sgraph.specs.declared.vertex.Vertex.TheVariants.{Begin, Test as Tests, Assign, End}
use Rattle.sgraph.specs.Trails.{is_at}
use Rattle.sgraph.specs.Facts.{IsGraph, assigned_by, assigned}
use Rattle.sgraph.specs.Graphs.{next_of, kids_of, kids_in, kids_at, IsPath, tested_by, tests, Once, GoesOn}
use Rattle.sgraph.specs.Walks.{FitsMachine}
use Rattle.task_code.specs.declared.instr.Instr.{Instr}
use Rattle.task_code.specs.declared.instr.Instr.TheVariants.{Set, Goto}
use Rattle.task_code.specs.Codes.{start, given_by, laid_out, StepsOf}
use Rattle.task_machine.proofs.Layouts.{Rest, rest_first, rest_next, rest_all, got, given_on, executed_is}
use Rattle.polis_base.proofs.Places.{contains_at}

-- ---- numbers that differ and are below n are at most n
apart : (x : ℕ) (xs : List ℕ) → has xs x ≡ false → AllByRecursion (λ (y : ℕ). eqb x y ≡ false) xs
apart x [] h = tt
apart x (y ∷ ys) h =
    let parts = or_false (eqb y x) (has ys x) h in
    (ne_eqb x y (λ same. true≢false (sym (eq-eqb y x (sym same)) ∙ parts.0)), apart x ys parts.1)
  where
    or_false : (a b : Bool) → (a || b) ≡ false → (a ≡ false) × (b ≡ false)
    or_false true b e = absurd (true≢false e)
    or_false false b e = (refl, e)

distinct : (xs : List ℕ) → are_different xs ≡ true → IsDistinct eqb xs
unfolding IsDistinct
distinct [] h = tt
distinct (x ∷ xs) h =
    let parts = and_parts (not (has xs x)) (are_different xs) h in
    (apart x xs (off (has xs x) parts.0), distinct xs parts.1)
  where
    off : (b : Bool) → not b ≡ true → b ≡ false
    off true e = absurd (true≢false (sym e))
    off false e = refl

few_different : (xs : List ℕ) (n : ℕ) → are_different xs ≡ true
    → ((q : ℕ) → list_any (eqb q) xs ≡ true → q < n) → length xs ≤ n
few_different xs n h below = length-le_from_distinct_below xs n (distinct xs h) below

-- ---- a walk is a path
abbrev last : Option ℕ → ℕ
last None = 0
last (Some j) = 1

last_low : (o : Option ℕ) → last o ≤ 1
last_low None = omega arith
last_low (Some j) = omega arith

here : (k : ℕ) (o : Option ℕ) → is_at k o ≡ true → o ≡ Some k
here k None e = absurd (true≢false (sym e))
here k (Some j) e = ap Some (sym (eqb-true k j e))

module _ (g : List Vertex) (s : List ℕ) where
  -- the numbers of the vertices of the walk, from number k on
  abbrev numbers : ℕ → List Vertex → Option ℕ → List ℕ
  numbers k [] o = []
  numbers k (v ∷ vs) o =
      cond (is_at k o) (k ∷ numbers (suc k) vs (next_of s k v)) (numbers (suc k) vs o)

  heads : (k : ℕ) (vs : List Vertex) (o : Option ℕ)
      → (numbers k vs o ≡ [])
      ⊎ ((j : ℕ) × (more : List ℕ) × (numbers k vs o ≡ j ∷ more) × (o ≡ Some j))
  heads k [] o = inl refl
  heads k (v ∷ vs) o = go (heads (suc k) vs o) (is_at k o) refl
    where
      go : (numbers (suc k) vs o ≡ [])
          ⊎ ((j : ℕ) × (more : List ℕ) × (numbers (suc k) vs o ≡ j ∷ more) × (o ≡ Some j))
          → (b : Bool) → is_at k o ≡ b
          → (cond b (k ∷ numbers (suc k) vs (next_of s k v)) (numbers (suc k) vs o) ≡ [])
          ⊎ ((j : ℕ) × (more : List ℕ)
          × (cond b (k ∷ numbers (suc k) vs (next_of s k v)) (numbers (suc k) vs o) ≡ j ∷ more)
          × (o ≡ Some j))
      go rest true e = inr (k, numbers (suc k) vs (next_of s k v), refl, here k o e)
      go rest false e = rest

  kid_of : (k : ℕ) (v : Vertex) (j : ℕ) → next_of s k v ≡ Some j → Contains (kids_of v) j
  kid_of k (Begin next) j e = let same : next ≡ j = cc in
      subst (Contains (next ∷ [])) same (contains_at (next ∷ []) 0 (omega arith))
  kid_of k (Tests var kids) j e =
      ⊎_elim
      (λ none. absurd (clash (slice_get kids (slice_index s var)) none e))
      (λ some. subst (Contains kids) (some.3
      ∙ same (slice_get kids (slice_index s var)) some.0 some.1 e)
      (contains_at kids (slice_index s var) some.2))
      (got kids (slice_index s var))
    where
      clash : (o : Option ℕ) → o ≡ None → o ≡ Some j → ⊥
      clash o none some = cc

      same : (o : Option ℕ) (x : ℕ) → o ≡ Some x → o ≡ Some j → x ≡ j
      same o x a b = cc
  kid_of k (Assign result code next) j e = let same : next ≡ j = cc in
      subst (Contains (next ∷ [])) same (contains_at (next ∷ []) 0 (omega arith))
  kid_of k End j e = absurd (clash e)
    where
      clash : None ≡ Some j → ⊥
      clash e = cc

  longer : (k : ℕ) (ns : List ℕ) → IsPath g ns
      → (ns ≡ []) ⊎ ((j : ℕ) × (more : List ℕ) × (ns ≡ j ∷ more) × Contains (kids_at g k) j)
      → IsPath g (k ∷ ns)
  longer k [] path next = tt
  longer k (n ∷ ns) path (inl none) =
      absurd (let l : suc (length ns) ≡ 0 = ap (λ (xs : List ℕ). length xs) none in omega arith)
  longer k (n ∷ ns) path (inr some) = (
    subst (Contains (kids_at g k)) (sym (ap (λ (xs : List ℕ). slice_index xs 0) some.2))
        some.3,
    path,
  )

  path_on : (k : ℕ) (vs : List Vertex) (o : Option ℕ) → Rest g k vs → IsPath g (numbers k vs o)
  path_on k [] o rest = tt
  path_on k (v ∷ vs) o rest = go (λ p. path_on (suc k) vs p (rest_next g k v vs rest)) (is_at k o)
    where
      kids : kids_at g k ≡ kids_of v
      kids = ap kids_in (rest_first g k v vs rest)

      go : ((p : Option ℕ) → IsPath g (numbers (suc k) vs p)) → (b : Bool)
          → IsPath g (cond b (k ∷ numbers (suc k) vs (next_of s k v)) (numbers (suc k) vs o))
      go paths true =
          longer k (numbers (suc k) vs (next_of s k v)) (paths (next_of s k v))
          (⊎_elim
          (λ none. inl none)
          (λ some. inr (
            some.0,
            some.1,
            some.2,
            subst (λ (ks : List ℕ). Contains ks some.0) (sym kids) (kid_of k v some.0 some.3),
          ))
          (heads (suc k) vs (next_of s k v)))
      go paths false = paths o

  -- ---- what it gives
  -- a test gives one instruction, an assignment at most two
  one_vertex : (k : ℕ) (v : Vertex) (more : List Instr) (ts sets : List ℕ)
      → length more ≤ length ts + (length sets + length sets) + last (next_of s k v)
      → length (given_by (start g) k v ++ more)
      ≤ length (cons_option (tested_by (Some v)) ts)
      + (length (cons_option (assigned_by (Some v)) sets)
      + length (cons_option (assigned_by (Some v)) sets)) + 1
  one_vertex k (Begin next) more ts sets few = few
  one_vertex k (Tests var kids) more ts sets few = let low =
      last_low (slice_get kids (slice_index s var)) in omega arith
  one_vertex k (Assign result code next) more ts sets few = go (next == suc k)
    where
      go : (b : Bool) → length ((Set result code ∷ cond b [] (Goto (start g next) ∷ [])) ++ more)
          ≤ length ts + (suc (length sets) + suc (length sets)) + 1
      go true = omega arith
      go false = omega arith
  one_vertex k End more ts sets few = omega arith

  few_on : (k : ℕ) (vs : List Vertex) (o : Option ℕ) → Rest g k vs
      → length (given_on g s k vs o) ≤ length (tests g (numbers k vs o))
      + (length (assigned g (numbers k vs o)) + length (assigned g (numbers k vs o))) + last o
  few_on k [] o rest = omega arith
  few_on k (v ∷ vs) o rest =
      go (λ p. few_on (suc k) vs p (rest_next g k v vs rest)) (is_at k o) refl
    where
      go : ((p : Option ℕ) → length (given_on g s (suc k) vs p)
          ≤ length (tests g (numbers (suc k) vs p))
          + (length (assigned g (numbers (suc k) vs p))
          + length (assigned g (numbers (suc k) vs p))) + last p) → (b : Bool) → is_at k o ≡ b
          → length (cond b (given_by (start g) k v ++ given_on g s (suc k) vs (next_of s k v))
          (given_on g s (suc k) vs o)) ≤ length
          (tests g (cond b (k ∷ numbers (suc k) vs (next_of s k v)) (numbers (suc k) vs o)))
          + (length (assigned g
          (cond b (k ∷ numbers (suc k) vs (next_of s k v)) (numbers (suc k) vs o)))
          + length (assigned g
          (cond b (k ∷ numbers (suc k) vs (next_of s k v)) (numbers (suc k) vs o)))) + last o
      go few true e =
          let ns : List ℕ = numbers (suc k) vs (next_of s k v) in
          let is = rest_first g k v vs rest in
          let one : last o ≡ 1 = ap last (here k o e) in
          let own_tests : length (tests g (k ∷ ns))
          ≡ length (cons_option (tested_by (Some v)) (tests g ns)) =
          ap (λ (w : Option Vertex). length (cons_option (tested_by w) (tests g ns))) is in
          let own_assigned : length (assigned g (k ∷ ns))
          ≡ length (cons_option (assigned_by (Some v)) (assigned g ns)) =
          ap (λ (w : Option Vertex). length (cons_option (assigned_by w) (assigned g ns))) is in
          let own = one_vertex k v (given_on g s (suc k) vs (next_of s k v)) (tests g ns)
          (assigned g ns) (few (next_of s k v)) in
          omega arith
      go few false e = few o

  -- ---- of a machine
  module _ (m : Machine) (fit : FitsMachine m g) where
    one_test : (k q : ℕ) (xs : List ℕ) → (list_any (eqb q) xs ≡ true → q < length m.vars)
        → (o : Option Vertex) → slice_get g k ≡ o
        → list_any (eqb q) (cons_option (tested_by o) xs) ≡ true → q < length m.vars
    one_test k q xs rest None is h = rest h
    one_test k q xs rest (Some (Begin next)) is h = rest h
    one_test k q xs rest (Some (Tests var kids)) is h =
        ⊎_elim
        (λ own. let e = eqb-true q var own in let low = (fit.tests k var kids is).0 in omega arith)
        rest
        (or_cases (eqb q var) (list_any (eqb q) xs) h)
    one_test k q xs rest (Some (Assign result code next)) is h = rest h
    one_test k q xs rest (Some End) is h = rest h

    one_assigned : (k q : ℕ) (xs : List ℕ) → (list_any (eqb q) xs ≡ true → q < length m.results)
        → (o : Option Vertex) → slice_get g k ≡ o
        → list_any (eqb q) (cons_option (assigned_by o) xs) ≡ true → q < length m.results
    one_assigned k q xs rest None is h = rest h
    one_assigned k q xs rest (Some (Begin next)) is h = rest h
    one_assigned k q xs rest (Some (Tests var kids)) is h = rest h
    one_assigned k q xs rest (Some (Assign result code next)) is h =
        ⊎_elim
        (λ own. let e = eqb-true q result own in let low = fit.assigns k result code next is in
        omega arith)
        rest
        (or_cases (eqb q result) (list_any (eqb q) xs) h)
    one_assigned k q xs rest (Some End) is h = rest h

    tests_below : (ns : List ℕ) (q : ℕ) → list_any (eqb q) (tests g ns) ≡ true → q < length m.vars
    tests_below [] q h = absurd (true≢false (sym h))
    tests_below (k ∷ ns) q h = one_test k q (tests g ns) (tests_below ns q) (slice_get g k) refl h

    assigned_below : (ns : List ℕ) (q : ℕ) → list_any (eqb q) (assigned g ns) ≡ true
        → q < length m.results
    assigned_below [] q h = absurd (true≢false (sym h))
    assigned_below (k ∷ ns) q h =
        one_assigned k q (assigned g ns) (assigned_below ns q) (slice_get g k) refl h

    -- one instruction for each variable, two for each result, and the halt
    pub steps_by_items : GoesOn g → IsGraph g → Once g
        → StepsOf (laid_out (start g) 0 g) s
        ≤ length m.vars + (length m.results + length m.results) + 1
    steps_by_items on ok once =
        let ns : List ℕ = numbers 0 g (Some 0) in
        let path : IsPath g ns = path_on 0 g (Some 0) (rest_all g) in
        let few = few_on 0 g (Some 0) (rest_all g) in
        let few_tests =
        few_different (tests g ns) (length m.vars) (once ns path) (tests_below ns) in
        let few_assigned =
        few_different (assigned g ns) (length m.results) (ok.assigns_once ns path)
        (assigned_below ns) in
        let same : StepsOf (laid_out (start g) 0 g) s ≡ length (given_on g s 0 g (Some 0)) =
        ap (λ (xs : List Instr). length xs) (executed_is g s on) in
        omega arith
