-- A vertex that stands earlier in the order than another has codes that the other can't give.
use Rattle.std.proofs.Common.{◌≡◌, ℕ, suc, ◌+◌, ◌<◌, true, not, List, [], ◌∷◌, length, replicate, map, slice_get, slice_index, slice_set, Some, refl, ap, sym, ◌∙◌, arith, get_or-set_other}
use Rattle.std.specs.List.{list_all}
use Rattle.std.proofs.lemmas.Bool.{and_parts, not-true, true≢false}
use Rattle.domains.specs.Names.{are_distinct}
use Rattle.domains.specs.Orders.{place}
use Rattle.transition_table.specs.declared.machine.Machine.{Machine}
use Rattle.sgraph.specs.declared.vertex.Vertex.{Vertex}
use Rattle.sgraph.specs.declared.vertex.Vertex.TheVariants.{Begin, Test, Assign, End}
use Rattle.sgraph.specs.Graphs.{key_of, kids_of, are_same, varies, depth}
use Rattle.sgraph.proofs.Edges.{got_all}
use Rattle.sgraph.proofs.EvalSteps.{there}
use Rattle.sgraph_opt.proofs.Depths.{Placed, deepest}
use Rattle.sgraph_opt.proofs.FirstCodes.{code_in}
use Rattle.sgraph_opt.proofs.LaterItems.{late_code, unmoved}
use Rattle.sgraph_opt.proofs.Reduced.{eq_all}
use Rattle.sgraph_opt.proofs.Twins.{Same, zero_fits, leads_to, child_code, own_code}
use Rattle.sgraph_opt.proofs.WalksFrom.{child}

-- children of the vertex from which walks give the same codes are one
abbrev pub OneForEach : Machine → List Vertex → Vertex → Type 0
OneForEach m g v =
    (i j : ℕ) → i < length (kids_of v) → j < length (kids_of v)
    → Same m g g (child v i) (child v j)
    → child v i ≡ child v j

all_same : (xs : List ℕ)
    → ((i j : ℕ) → i < length xs → j < length xs → slice_index xs i ≡ slice_index xs j)
    → are_same xs ≡ true
all_same [] same = refl
all_same (x ∷ xs) same = eq_all x xs (λ i low. same (suc i) 0 (omega arith) (omega arith))

module _ (m : Machine) (order : List ℕ) (g h : List Vertex) (pg : Placed m order g)
    (ph : Placed m order h) where
  -- where the other vertex doesn't depend on the variable
  kid_same : (k l v : ℕ) (kids : List ℕ) → slice_get g k ≡ Some (Test v kids) → l < length h
      → place order v + 1 < depth (length m.vars) order (slice_get h l) → Same m g h k l → (i : ℕ)
      → i < length kids → Same m g h (slice_index kids i) l
  kid_same k l v kids is low_l less same i inside s fit y low =
      let t : List ℕ = slice_set s v i in
      let fit_t = leads_to m order g pg k v kids is i inside s fit in
      child_code m order g pg k v kids is i inside s fit y
      ∙ same t fit_t y low
      ∙ sym (ap (λ (vs : List Vertex). code_in vs y) (unmoved m order h ph v s t fit fit_t
      (λ w other. sym (get_or-set_other s v w i 0 other)) l low_l less))

  test_deeper : (k l v : ℕ) (kids : List ℕ) → slice_get g k ≡ Some (Test v kids) → l < length h
      → place order v + 1 < depth (length m.vars) order (slice_get h l)
      → OneForEach m g (Test v kids) → Same m g h k l → ⊥
  test_deeper k l v kids is low_l less one same =
      let each = kid_same k l v kids is low_l less same in
      let equal : are_same kids ≡ true = all_same kids (λ i j low_i low_j.
      one i j low_i low_j
      (λ s fit y low. each i low_i s fit y low ∙ sym (each j low_j s fit y low))) in
      let parts = and_parts (are_distinct (map key_of g)) (list_all varies g)
      pg.of_machine.reduced in
      let some : not (are_same kids) ≡ true = got_all varies g k (Test v kids) parts.1 is in
      true≢false (sym equal ∙ not-true (are_same kids) some)

  assign_deeper : (k l y c next : ℕ) → slice_get g k ≡ Some (Assign y c next) → l < length h
      → place order (length m.vars + y) + 1 < depth (length m.vars) order (slice_get h l)
      → Same m g h k l → ⊥
  assign_deeper k l y c next is low_l less same =
      let z : List ℕ = replicate (length m.vars) 0 in
      let fit = zero_fits m order g pg in
      pg.without k y c next is
      (sym (own_code m order g pg k y c next is z y refl)
      ∙ same z fit y (pg.of_machine.fits_machine.assigns k y c next is)
      ∙ late_code m order h ph z fit l low_l y less)

  pub deeper : (k l : ℕ) (a b : Vertex) → slice_get g k ≡ Some a → slice_get h l ≡ Some b → 0 < k
      → OneForEach m g a → Same m g h k l
      → depth (length m.vars) order (Some a) < depth (length m.vars) order (Some b) → ⊥
  deeper k l (Begin next) b is_a is_b some one same less =
      let first = pg.graph.only_begin k next is_a in omega arith
  deeper k l (Test v kids) b is_a is_b some one same less =
      let at = ap (depth (length m.vars) order) is_b in
      test_deeper k l v kids is_a (there h l b is_b) (omega (arith, less, at)) one same
  deeper k l (Assign y c next) b is_a is_b some one same less =
      let at = ap (depth (length m.vars) order) is_b in
      assign_deeper k l y c next is_a (there h l b is_b) (omega (arith, less, at)) same
  deeper k l End b is_a is_b some one same less =
      let most = deepest m order h ph l b is_b in omega (arith, less, most)
