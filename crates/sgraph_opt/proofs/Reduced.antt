-- Where no two vertices that stand for themselves are equal, the smaller graph is reduced.
use Rattle.std.proofs.Common.{◌≡◌, ℕ, zero, suc, ◌<◌, Bool, true, not, List, ◌∷◌, map, length, slice_get, slice_index, Some, refl, ap, sym, subst, ◌∙◌, arith, eqb, []}
use Rattle.std.specs.List.{list_all}
use Rattle.std.proofs.lemmas.Bool.{and_parts, and_from, eqb-true, eq-eqb, true≢false, false_from_ne_true}
use Rattle.domains.specs.Names.{are_distinct}
use Rattle.domains.specs.Orders.{place}
use Rattle.transition_table.specs.NetworkFacts.{has}
use Rattle.sgraph.specs.declared.vertex.Vertex.{Vertex}
use Rattle.sgraph.specs.declared.vertex.Vertex.TheVariants.{Begin, Test, Assign, End}
use Rattle.sgraph.specs.Facts.{IsGraph}
use Rattle.sgraph.specs.Graphs.{kids_of, kids_in, kids_at, key_of, are_same, varies, Reduced}
use Rattle.sgraph_opt.specs.inner.Choices.{stays, Shared}
use Rattle.sgraph_opt.specs.Renumbering.{all_left}
use Rattle.sgraph_opt.specs.inner.Renumbering.{vertex_at, numbered_of, replaced}
use Rattle.sgraph_opt.specs.inner.Representatives.{renamed, Standing, Dropping}
use Rattle.sgraph_opt.specs.Smaller.{NoDefaults}
use Rattle.sgraph_opt.proofs.NumberedOf.{closed, long_vertices, same as same_number}
use Rattle.sgraph.proofs.IsGraph.{long_map}
use Rattle.sgraph.proofs.LeftAfter.{closed_next, has_at}
use Rattle.sgraph_opt.proofs.DroppedDefaults.{not_default}
use Rattle.sgraph_opt.proofs.Keeps.{Origin, origin_of, was_assign}
use Rattle.sgraph_opt.proofs.Standing.{got_map, some_vertex, rises, within}
use Rattle.sgraph.proofs.BuiltReduced.{distinct_keys, each_vertex}
use Rattle.decision_diagram.proofs.ListItems.{read_within}
use Rattle.decision_diagram.proofs.ByVariable.{index_map}

-- ---- numbers that differ where the vertices do
back_list : (f : ℕ → ℕ) (In : ℕ → Type 0) → ((a b : ℕ) → In a → In b → f a ≡ f b → a ≡ b)
    → (xs ys : List ℕ) → ((i : ℕ) → i < length xs → In (slice_index xs i))
    → ((i : ℕ) → i < length ys → In (slice_index ys i)) → map f xs ≡ map f ys → xs ≡ ys
back_list f In one [] [] in_x in_y e = refl
back_list f In one [] (y ∷ ys) in_x in_y e =
    absurd (let l = ap (λ (zs : List ℕ). length zs) e in omega arith)
back_list f In one (x ∷ xs) [] in_x in_y e =
    absurd (let l = ap (λ (zs : List ℕ). length zs) e in omega arith)
back_list f In one (x ∷ xs) (y ∷ ys) in_x in_y e =
    let first : f x ≡ f y = ap (λ (zs : List ℕ). slice_index zs 0) e in
    let rest : map f xs ≡ map f ys = ap tail e in
    ap (λ (z : ℕ). z ∷ xs) (one x y (in_x 0 (omega arith)) (in_y 0 (omega arith)) first)
    ∙ ap (λ (zs : List ℕ). y ∷ zs)
    (back_list f In one xs ys (λ i low. in_x (suc i) (omega arith))
    (λ i low. in_y (suc i) (omega arith)) rest)
  where
    tail : List ℕ → List ℕ
    tail [] = []
    tail (z ∷ zs) = zs

back_vertex : (f : ℕ → ℕ) (In : ℕ → Type 0) → ((a b : ℕ) → In a → In b → f a ≡ f b → a ≡ b)
    → (v w : Vertex) → ((i : ℕ) → i < length (kids_of v) → In (slice_index (kids_of v) i))
    → ((i : ℕ) → i < length (kids_of w) → In (slice_index (kids_of w) i))
    → renamed f v ≡ renamed f w → v ≡ w
back_vertex f In one (Begin a) (Begin b) in_v in_w e = let h : f a ≡ f b = cc in
    ap Begin (one a b (in_v 0 (omega arith)) (in_w 0 (omega arith)) h)
back_vertex f In one (Begin a) (Test var kids) in_v in_w e =
    absurd (let h : Begin (f a) ≡ Test var (map f kids) = e in cc)
back_vertex f In one (Begin a) (Assign y c b) in_v in_w e =
    absurd (let h : Begin (f a) ≡ Assign y c (f b) = e in cc)
back_vertex f In one (Begin a) End in_v in_w e = absurd (let h : Begin (f a) ≡ End = e in cc)
back_vertex f In one (Test var kids) (Begin b) in_v in_w e =
    absurd (let h : Test var (map f kids) ≡ Begin (f b) = e in cc)
back_vertex f In one (Test var kids) (Test other others) in_v in_w e =
    let h : Test var (map f kids) ≡ Test other (map f others) = e in
    let same_var : var ≡ other = cc in
    let same_kids : map f kids ≡ map f others = cc in
    ap (λ (n : ℕ). Test n kids) same_var
    ∙ ap (Test other) (back_list f In one kids others in_v in_w same_kids)
back_vertex f In one (Test var kids) (Assign y c b) in_v in_w e =
    absurd (let h : Test var (map f kids) ≡ Assign y c (f b) = e in cc)
back_vertex f In one (Test var kids) End in_v in_w e =
    absurd (let h : Test var (map f kids) ≡ End = e in cc)
back_vertex f In one (Assign y c a) (Begin b) in_v in_w e =
    absurd (let h : Assign y c (f a) ≡ Begin (f b) = e in cc)
back_vertex f In one (Assign y c a) (Test var kids) in_v in_w e =
    absurd (let h : Assign y c (f a) ≡ Test var (map f kids) = e in cc)
back_vertex f In one (Assign y c a) (Assign z d b) in_v in_w e =
    let h : Assign y c (f a) ≡ Assign z d (f b) = e in
    let same_result : y ≡ z = cc in
    let same_code : c ≡ d = cc in
    let same_next : f a ≡ f b = cc in
    ap (λ (n : ℕ). Assign n c a) same_result ∙ ap (λ (n : ℕ). Assign z n a) same_code
    ∙ ap (Assign z d) (one a b (in_v 0 (omega arith)) (in_w 0 (omega arith)) same_next)
back_vertex f In one (Assign y c a) End in_v in_w e =
    absurd (let h : Assign y c (f a) ≡ End = e in cc)
back_vertex f In one End (Begin b) in_v in_w e = absurd (let h : End ≡ Begin (f b) = e in cc)
back_vertex f In one End (Test var kids) in_v in_w e =
    absurd (let h : End ≡ Test var (map f kids) = e in cc)
back_vertex f In one End (Assign y c b) in_v in_w e =
    absurd (let h : End ≡ Assign y c (f b) = e in cc)
back_vertex f In one End End in_v in_w e = refl

-- children that are all the same
pub all_eq : (k : ℕ) (xs : List ℕ) → list_all (λ j. eqb j k) xs ≡ true → (i : ℕ) → i < length xs
    → slice_index xs i ≡ k
all_eq k [] h i low = absurd (omega arith)
all_eq k (x ∷ xs) h zero low = eqb-true x k (and_parts (eqb x k) (list_all (λ j. eqb j k) xs) h).0
all_eq k (x ∷ xs) h (suc i) low =
    all_eq k xs (and_parts (eqb x k) (list_all (λ j. eqb j k) xs) h).1 i (omega arith)

pub eq_all : (k : ℕ) (xs : List ℕ) → ((i : ℕ) → i < length xs → slice_index xs i ≡ k)
    → list_all (λ j. eqb j k) xs ≡ true
eq_all k [] h = refl
eq_all k (x ∷ xs) h =
    and_from (eqb x k) (list_all (λ j. eqb j k) xs) (eq-eqb x k (h 0 (omega arith)))
    (eq_all k xs (λ i low. h (suc i) (omega arith)))

same_back : (f : ℕ → ℕ) (In : ℕ → Type 0) → ((a b : ℕ) → In a → In b → f a ≡ f b → a ≡ b)
    → (xs : List ℕ) → ((i : ℕ) → i < length xs → In (slice_index xs i)) → are_same (map f xs) ≡ true
    → are_same xs ≡ true
same_back f In one [] in_x h = refl
same_back f In one (x ∷ xs) in_x h =
    eq_all x xs (λ i low. one (slice_index xs i) x (in_x (suc i) (omega arith))
    (in_x 0 (omega arith)) (sym (index_map f xs i low)
    ∙ all_eq (f x) (map f xs) h i (let l = long_map f xs in omega arith)))

varies_back : (f : ℕ → ℕ) (In : ℕ → Type 0) → ((a b : ℕ) → In a → In b → f a ≡ f b → a ≡ b)
    → (v : Vertex) → ((i : ℕ) → i < length (kids_of v) → In (slice_index (kids_of v) i))
    → varies v ≡ true → varies (renamed f v) ≡ true
varies_back f In one (Begin next) in_v h = refl
varies_back f In one (Test var kids) in_v h =
    ap not (false_from_ne_true (are_same (map f kids))
    (λ on. true≢false (sym h ∙ ap not (same_back f In one kids in_v on))))
varies_back f In one (Assign result code next) in_v h = refl
varies_back f In one End in_v h = refl

stays_varies : (drops : Bool) (v : Vertex) → stays drops v ≡ true → varies v ≡ true
stays_varies drops (Begin next) h = refl
stays_varies drops (Test var kids) h = h
stays_varies drops (Assign result code next) h = refl
stays_varies drops End h = refl

module _ (g : List Vertex) (reps : List ℕ) (ok : IsGraph g) (s : Standing g reps 0) where
  abbrev In : ℕ → Type 0
  In k = has (all_left (replaced g reps)) k ≡ true

  one_number : (a b : ℕ) → In a → In b
      → place (all_left (replaced g reps)) a ≡ place (all_left (replaced g reps)) b → a ≡ b
  one_number a b in_a in_b e =
      same_number (replaced g reps) (some_vertex g ok reps s) (rises g ok reps s) a b in_a in_b e

  -- the children of what stands for itself are left
  kids_left : (j : ℕ) → j < length (numbered_of (replaced g reps))
      → (o : Origin g reps ok s j) → (i : ℕ)
      → i < length (kids_of (renamed (slice_index reps) o.vertex))
      → In (slice_index (kids_of (renamed (slice_index reps) o.vertex)) i)
  kids_left j low o i inside =
      let h = replaced g reps in
      let here : slice_get (replaced g reps) o.number ≡ Some (renamed (slice_index reps) o.vertex) =
      got_map (renamed (slice_index reps)) g o.number o.vertex o.is in
      let kids : kids_at (replaced g reps) o.number
      ≡ kids_of (renamed (slice_index reps) o.vertex) = ap kids_in here in
      let long = ap (λ (ks : List ℕ). length ks) kids in
      let there : has (all_left (replaced g reps)) o.number ≡ true =
      ap (has (all_left (replaced g reps))) o.is_at
      ∙ has_at (kids_at (replaced g reps)) (all_left (replaced g reps)) j (left_low j low) in
      let step = closed_next (kids_at (replaced g reps)) (all_left (replaced g reps)) o.number i
      (closed (replaced g reps) (some_vertex g ok reps s) (rises g ok reps s)) there
      (omega arith) in
      subst (λ (ks : List ℕ). has (all_left (replaced g reps)) (slice_index ks i) ≡ true) kids
      step.0
    where
      left_low : (j : ℕ) → j < length (numbered_of (replaced g reps))
          → j < length (all_left (replaced g reps))
      left_low j low = let l =
          long_vertices (λ k. renamed (place (all_left (replaced g reps)))
          (vertex_at (replaced g reps) k)) (all_left (replaced g reps)) in omega arith

  once_each : (drops : Bool) → Shared drops g reps → (i j : ℕ) (v : Vertex)
      → slice_get (numbered_of (replaced g reps)) i ≡ Some v
      → slice_get (numbered_of (replaced g reps)) j ≡ Some v → i ≡ j
  once_each drops shared i j v at_i at_j =
      let a = origin_of g reps ok s i v at_i in
      let b = origin_of g reps ok s j v at_j in
      let low_i = read_within (numbered_of (replaced g reps)) i v at_i in
      let low_j = read_within (numbered_of (replaced g reps)) j v at_j in
      let same = back_vertex (place (all_left (replaced g reps))) In one_number
      (renamed (slice_index reps) a.0.vertex) (renamed (slice_index reps) b.0.vertex)
      (kids_left i low_i a.0) (kids_left j low_j b.0) (sym a.1 ∙ b.1) in
      let one = shared.apart a.0.number b.0.number a.0.vertex b.0.vertex a.0.is b.0.is a.0.itself
      b.0.itself same in
      sym a.0.place_is ∙ ap (place (all_left (replaced g reps))) one ∙ b.0.place_is

  all_vary : (drops : Bool) → Shared drops g reps → (j : ℕ) (v : Vertex)
      → slice_get (numbered_of (replaced g reps)) j ≡ Some v → varies v ≡ true
  all_vary drops shared j v at_j =
      let a = origin_of g reps ok s j v at_j in
      let low = read_within (numbered_of (replaced g reps)) j v at_j in
      ap varies a.1 ∙ varies_back (place (all_left (replaced g reps))) In one_number
      (renamed (slice_index reps) a.0.vertex) (kids_left j low a.0)
      (stays_varies drops (renamed (slice_index reps) a.0.vertex)
      (shared.stay a.0.number a.0.vertex a.0.is a.0.itself))

  pub is_reduced_graph : (drops : Bool) → Shared drops g reps → Reduced (numbered_of (replaced g reps))
  is_reduced_graph drops shared =
      and_from (are_distinct (map key_of (numbered_of (replaced g reps))))
      (list_all varies (numbered_of (replaced g reps)))
      (distinct_keys (numbered_of (replaced g reps)) (once_each drops shared))
      (each_vertex varies (numbered_of (replaced g reps)) (all_vary drops shared))

  -- ---- no code 0
  pub stay_without : NoDefaults g → NoDefaults (numbered_of (replaced g reps))
  stay_without none k result code next is =
      let o = origin_of g reps ok s k (Assign result code next) is in
      let was = was_assign g reps ok s (place (all_left (replaced g reps)))
      (slice_index reps) o.0.vertex result code next o.1 in
      none o.0.number result code was.0 (o.0.is ∙ ap (λ (v : Vertex). Some v) was.1)

  pub are_without : Dropping g reps 0 → NoDefaults (numbered_of (replaced g reps))
  are_without dropped k result code next is =
      let o = origin_of g reps ok s k (Assign result code next) is in
      let was = was_assign g reps ok s (place (all_left (replaced g reps)))
      (slice_index reps) o.0.vertex result code next o.1 in
      let there : slice_get g o.0.number ≡ Some (Assign result code was.0) =
      o.0.is ∙ ap (λ (v : Vertex). Some v) was.1 in
      let up : o.0.number < was.0 =
      ok.above o.0.number (Assign result code was.0) 0 there (omega arith) in
      let inside : was.0 < length g =
      ok.within o.0.number (Assign result code was.0) 0 there (omega arith) in
      let high = (within g ok reps s (length g) was.0 (omega arith) inside).0 in
      not_default g ok reps dropped s o.0.number result code was.0 there o.0.itself (omega arith)

  pub drop_without : Shared true g reps → NoDefaults (numbered_of (replaced g reps))
  drop_without shared k result code next is =
      let o = origin_of g reps ok s k (Assign result code next) is in
      let was = was_assign g reps ok s (place (all_left (replaced g reps)))
      (slice_index reps) o.0.vertex result code next o.1 in
      let there : slice_get g o.0.number ≡ Some (Assign result code was.0) =
      o.0.is ∙ ap (λ (v : Vertex). Some v) was.1 in
      λ zero_code. true≢false (sym (shared.stay o.0.number (Assign result code was.0) there
      o.0.itself) ∙ ap not (eq-eqb code 0 zero_code))
