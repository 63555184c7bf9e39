-- A deterministic machine has one graph at most in an allowed order.
use Rattle.std.proofs.Common.{◌≡◌, ⊎_elim, ℕ, zero, suc, ◌-◌, ◌<◌, List, [], ◌∷◌, length, slice_get, slice_index, Some, refl, ap, sym, subst, ◌∙◌, arith}
use Rattle.std.proofs.lemmas.Bool.{cases_lt}
use Rattle.std.proofs.lemmas.Option.{slice_get_past}
use Rattle.polis_base.specs.Lists.{upto}
use Rattle.decision_diagram.proofs.ByVariable.{index_upto}
use Rattle.transition_table.specs.declared.machine.Machine.{Machine}
use Rattle.transition_table.specs.Transitions.{IsDeterministic}
use Rattle.sgraph.specs.declared.vertex.Vertex.{Vertex}
use Rattle.sgraph.specs.declared.vertex.Vertex.TheVariants.{Begin}
use Rattle.sgraph.specs.Graphs.{kids_of, kids_in, kids_at, each, left_after, GoesOn, Numbered}
use Rattle.sgraph.proofs.IsGraph.{there_is}
use Rattle.sgraph.proofs.LeftAfter.{visit_new}
use Rattle.sgraph.proofs.RightGraphs.{numbered_goes_on}
use Rattle.sgraph_opt.specs.Laws.{OneGraph}
use Rattle.sgraph_opt.proofs.Depths.{Placed}
use Rattle.sgraph_opt.proofs.FirstCodes.{code_in}
use Rattle.sgraph_opt.proofs.Matched.{Zipped, zipped_long, zipped_at, Matched, lockstep}
use Rattle.sgraph_opt.proofs.OneForm.{twins}
use Rattle.sgraph_opt.proofs.OneVertex.{equal_twins, one_vertex, one_for_each}
use Rattle.sgraph_opt.proofs.SameCodes.{same_codes}
use Rattle.sgraph_opt.proofs.Twins.{Same, same_back, same_both}
use Rattle.sgraph_opt.proofs.WalksFrom.{walk_from, child, step_on}
use Rattle.polis_base.proofs.UptoPlaces.{length_upto}

-- lists with the same items
same_items : (g h : List Vertex) → ((k : ℕ) → slice_get g k ≡ slice_get h k) → g ≡ h
same_items [] [] same = refl
same_items [] (w ∷ ws) same = absurd (let e = same 0 in cc)
same_items (v ∷ vs) [] same = absurd (let e = same 0 in cc)
same_items (v ∷ vs) (w ∷ ws) same =
    let first : v ≡ w = (let e : Some v ≡ Some w = same 0 in cc) in
    ap (λ (u : Vertex). u ∷ vs) first
    ∙ ap (λ (us : List Vertex). w ∷ us) (same_items vs ws (λ k. same (suc k)))

-- the walk leaves vertex 1 and what follows on it, and then the begin
left_from_one : (g : List Vertex) → GoesOn g → Numbered g → (more : ℕ) → length g ≡ suc more
    → 0 ∷ left_after more (kids_at g) [] 1 ≡ upto (length g)
left_from_one g on numbered more e =
    sym (visit_new (kids_at g) more [] 0 refl
    ∙ ap (λ (ks : List ℕ). 0 ∷ each (left_after more (kids_at g)) [] ks) (ap kids_in on.begin))
    ∙ ap (λ (n : ℕ). left_after n (kids_at g) [] 0) (sym e)
    ∙ numbered

index_left : (g : List Vertex) (more : ℕ) (xs : List ℕ) → 0 ∷ xs ≡ upto (length g) → (i : ℕ)
    → suc i < length g → slice_index xs i ≡ suc i
index_left g more xs is i low =
    ap (λ (ys : List ℕ). slice_index ys (suc i)) is ∙ index_upto (length g) (suc i) low

long_left : (g : List Vertex) (xs : List ℕ) → 0 ∷ xs ≡ upto (length g) → suc (length xs) ≡ length g
long_left g xs is = ap (λ (ys : List ℕ). length ys) is ∙ length_upto (length g)

begin_code : (g : List Vertex) → GoesOn g → (s : List ℕ) (y : ℕ)
    → code_in (walk_from g s 0) y ≡ code_in (walk_from g s 1) y
begin_code g on s y =
    ap (λ (vs : List Vertex). code_in vs y)
    (step_on g s 0 1 (Begin 1) on.begin refl (omega arith))

module _ (m : Machine) (order : List ℕ) (g h : List Vertex) (pg : Placed m order g)
    (ph : Placed m order h) (sure : IsDeterministic m) where
  on_g : GoesOn g
  on_g = numbered_goes_on g pg.graph pg.of_machine.numbered

  on_h : GoesOn h
  on_h = numbered_goes_on h ph.graph ph.of_machine.numbered

  first_same : Same m g h 1 1
  first_same s fit y low =
      sym (begin_code g on_g s y)
      ∙ same_codes m order g h pg ph sure s fit y low
      ∙ begin_code h on_h s y

  first_matched : Matched m g h 1 1
  first_matched = record {
    some_k = omega arith;
    some_l = omega arith;
    low_k = on_g.within 0 (Begin 1) 0 on_g.begin (omega arith);
    low_l = on_h.within 0 (Begin 1) 0 on_h.begin (omega arith);
    same = first_same;
  }

  -- both graphs are left in lockstep
  record Left : Type 0 where
    xs : List ℕ
    ys : List ℕ
    is_g : 0 ∷ xs ≡ upto (length g)
    is_h : 0 ∷ ys ≡ upto (length h)
    pairs : Zipped (Matched m g h) xs ys

  left : Left
  left =
      let low_g = first_matched.low_k in
      let low_h = first_matched.low_l in
      let a : ℕ = length g - 1 in
      let b : ℕ = length h - 1 in
      record {
        xs = left_after a (kids_at g) [] 1;
        ys = left_after b (kids_at h) [] 1;
        is_g = left_from_one g on_g pg.of_machine.numbered a (omega (arith, low_g));
        is_h = left_from_one h on_h ph.of_machine.numbered b (omega (arith, low_h));
        pairs = lockstep m order g h pg ph a b [] [] 1 1 (omega (arith, low_g))
            (omega (arith, low_h)) first_matched tt;
      }

  same_long : length g ≡ length h
  same_long =
      sym (long_left g left.xs left.is_g)
      ∙ ap suc (zipped_long (Matched m g h) left.xs left.ys left.pairs)
      ∙ long_left h left.ys left.is_h

  matched : (i : ℕ) → suc i < length g → Matched m g h (suc i) (suc i)
  matched i low =
      let long_g = long_left g left.xs left.is_g in
      let pair = zipped_at (Matched m g h) left.xs left.ys left.pairs i (omega (arith, long_g, low)) in
      let at_g = index_left g 0 left.xs left.is_g i low in
      let at_h = index_left h 0 left.ys left.is_h i (omega (arith, low, same_long)) in
      subst (λ (k : ℕ). Matched m g h k (suc i)) at_g
      (subst (λ (l : ℕ). Matched m g h (slice_index left.xs i) l) at_h pair)

  matched_at : (k : ℕ) → 0 < k → k < length g → Matched m g h k k
  matched_at zero some low = absurd (omega arith)
  matched_at (suc i) some low = matched i low

  -- children of one vertex of both
  same_child : (k : ℕ) (u w : Vertex) → slice_get g k ≡ Some u → slice_get h k ≡ Some w → (i j : ℕ)
      → i < length (kids_of u) → j < length (kids_of w) → Same m g h (child u i) (child w j)
      → child u i ≡ child w j
  same_child k u w is_u is_w i j low_i low_j same =
      let a : ℕ = child u i in
      let b : ℕ = child w j in
      let up_a : k < a = pg.graph.above k u i is_u low_i in
      let up_b : k < b = ph.graph.above k w j is_w low_j in
      let within_a : a < length g = pg.graph.within k u i is_u low_i in
      let within_b : b < length h = ph.graph.within k w j is_w low_j in
      let own = matched_at a (omega (arith, up_a)) within_a in
      one_vertex m order h ph a b own.low_l within_b (omega (arith, up_a)) (omega (arith, up_b))
      (same_both m h g h a a b (same_back m g h a a own.same) same)

  same_vertex : (i : ℕ) → suc i < length g → slice_get g (suc i) ≡ slice_get h (suc i)
  same_vertex i low =
      let k : ℕ = suc i in
      let here = matched i low in
      let u = there_is g (suc i) here.low_k in
      let w = there_is h (suc i) here.low_l in
      let pair = twins m order g h pg ph (suc i) (suc i) u.0 w.0 u.1 w.1 here.some_k here.some_l
      (one_for_each m order g pg (suc i) u.0 u.1) (one_for_each m order h ph (suc i) w.0 w.1)
      here.same in
      let equal = equal_twins m g h u.0 w.0 pair (same_child (suc i) u.0 w.0 u.1 w.1) in
      u.1 ∙ ap (λ (v : Vertex). Some v) equal ∙ sym w.1

  same_at : (k : ℕ) → slice_get g k ≡ slice_get h k
  same_at zero = on_g.begin ∙ sym on_h.begin
  same_at (suc i) =
      ⊎_elim
      (λ low. same_vertex i low)
      (λ past. slice_get_past g (suc i) past
      ∙ sym (slice_get_past h (suc i) (omega (arith, past, same_long))))
      (cases_lt (suc i) (length g))

  pub equal_graphs : g ≡ h
  equal_graphs = same_items g h same_at

pub one_graph : OneGraph
one_graph m order g h sure allowed ok_g ok_h of_g of_h none_g none_h =
    equal_graphs m order g h
    (record { graph = ok_g; of_machine = of_g; allowed = allowed; without = none_g })
    (record { graph = ok_h; of_machine = of_h; allowed = allowed; without = none_h }) sure
