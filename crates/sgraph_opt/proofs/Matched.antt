-- Two graphs of one machine are left in lockstep, through vertices that give the same codes.
use Rattle.std.proofs.Common.{◌≡◌, ⊎_elim, ℕ, zero, suc, ◌+◌, ◌<◌, ◌≤◌, Bool, ◌||◌, eqb, List, [], ◌∷◌, length, slice_index, refl, ap, sym, subst, ◌∙◌, arith}
use Rattle.std.specs.Prelude.{⊤}
use Rattle.std.proofs.lemmas.Bool.{cases_Bool, cases_eq, eq-eqb, ne_eqb}
use Rattle.transition_table.specs.NetworkFacts.{has}
use Rattle.transition_table.specs.declared.machine.Machine.{Machine}
use Rattle.sgraph.specs.declared.vertex.Vertex.{Vertex}
use Rattle.sgraph.specs.declared.vertex.Vertex.TheVariants.{Test, Assign, End}
use Rattle.sgraph.specs.Graphs.{kids_of, kids_in, kids_at, each, left_after}
use Rattle.sgraph.proofs.IsGraph.{there_is}
use Rattle.sgraph.proofs.LeftAfter.{visit_there, visit_new}
use Rattle.sgraph_opt.proofs.Depths.{Placed}
use Rattle.sgraph_opt.proofs.FirstCodes.{code_in}
use Rattle.sgraph_opt.proofs.OneForm.{twins}
use Rattle.sgraph_opt.proofs.OneVertex.{one_vertex, one_for_each}
use Rattle.sgraph_opt.proofs.Twins.{Same, Twins}
use Rattle.sgraph_opt.proofs.WalksFrom.{walk_from, child}

-- ---- lists of which the items are in a relation, one by one
abbrev pub Zipped : (ℕ → ℕ → Type 0) → List ℕ → List ℕ → Type 0
Zipped R [] [] = ⊤
Zipped R (x ∷ xs) (y ∷ ys) = R x y × Zipped R xs ys
Zipped R [] (y ∷ ys) = ⊥
Zipped R (x ∷ xs) [] = ⊥

pub zipped_long : (R : ℕ → ℕ → Type 0) (xs ys : List ℕ) → Zipped R xs ys → length xs ≡ length ys
zipped_long R [] [] z = refl
zipped_long R (x ∷ xs) (y ∷ ys) z = ap suc (zipped_long R xs ys z.1)
zipped_long R [] (y ∷ ys) z = absurd z
zipped_long R (x ∷ xs) [] z = absurd z

pub zipped_at : (R : ℕ → ℕ → Type 0) (xs ys : List ℕ) → Zipped R xs ys → (i : ℕ) → i < length xs
    → R (slice_index xs i) (slice_index ys i)
zipped_at R [] [] z i low = absurd (omega arith)
zipped_at R (x ∷ xs) (y ∷ ys) z zero low = z.0
zipped_at R (x ∷ xs) (y ∷ ys) z (suc i) low = zipped_at R xs ys z.1 i (omega arith)
zipped_at R [] (y ∷ ys) z i low = absurd z
zipped_at R (x ∷ xs) [] z i low = absurd z

zipped_from : (R : ℕ → ℕ → Type 0) (xs ys : List ℕ) → length xs ≡ length ys
    → ((i : ℕ) → i < length xs → R (slice_index xs i) (slice_index ys i)) → Zipped R xs ys
zipped_from R [] [] long all = tt
zipped_from R (x ∷ xs) (y ∷ ys) long all =
    (all 0 (omega arith), zipped_from R xs ys (omega arith) (λ i low. all (suc i) (omega arith)))
zipped_from R [] (y ∷ ys) long all = absurd (omega arith)
zipped_from R (x ∷ xs) [] long all = absurd (omega arith)

-- children of twins
zipped_kids : (m : Machine) (g h : List Vertex) (R : ℕ → ℕ → Type 0) (u w : Vertex)
    → Twins m g h u w
    → ((i j : ℕ) → i < length (kids_of u) → j < length (kids_of w)
    → Same m g h (child u i) (child w j) → R (child u i) (child w j))
    → Zipped R (kids_of u) (kids_of w)
zipped_kids m g h R (Test v kids) (Test x others) t to =
    let long : length kids ≡ length others = t.1 in
    zipped_from R kids others long (λ i low. to i i low (omega (arith, low, long)) (t.2 i low))
zipped_kids m g h R (Assign y c next) (Assign z d other) t to =
    (to 0 0 (omega arith) (omega arith) t.2, tt)
zipped_kids m g h R End End t to = tt
zipped_kids m g h R u w t to = absurd t

-- vertices after the begins from which walks give the same codes
pub record Matched (m : Machine) (g h : List Vertex) (k l : ℕ) : Type 0 where
  pub some_k : 0 < k
  pub some_l : 0 < l
  pub low_k : k < length g
  pub low_l : l < length h
  pub same : Same m g h k l

module _ (m : Machine) (order : List ℕ) (g h : List Vertex) (pg : Placed m order g)
    (ph : Placed m order h) where
  same_head : (x y k l : ℕ) → Matched m g h x y → Matched m g h k l → eqb x k ≡ eqb y l
  same_head x y k l first here =
      ⊎_elim
      (λ e.
      eq-eqb x k e
      ∙ sym (eq-eqb y l (one_vertex m order h ph y l first.low_l here.low_l first.some_l here.some_l
      (λ s fit z low. sym (first.same s fit z low)
      ∙ ap (λ (n : ℕ). code_in (walk_from g s n) z) e
      ∙ here.same s fit z low))))
      (λ differ.
      ne_eqb x k differ
      ∙ sym (ne_eqb y l (λ e. differ
      (one_vertex m order g pg x k first.low_k here.low_k first.some_k here.some_k
      (λ s fit z low. first.same s fit z low
      ∙ ap (λ (n : ℕ). code_in (walk_from h s n) z) e
      ∙ sym (here.same s fit z low))))))
      (cases_eq x k)

  same_has : (xs ys : List ℕ) (k l : ℕ) → Zipped (Matched m g h) xs ys → Matched m g h k l
      → has xs k ≡ has ys l
  same_has [] [] k l z here = refl
  same_has (x ∷ xs) (y ∷ ys) k l z here =
      ap (λ (b : Bool). b || has xs k) (same_head x y k l z.0 here)
      ∙ ap (λ (b : Bool). eqb y l || b) (same_has xs ys k l z.1 here)
  same_has [] (y ∷ ys) k l z here = absurd z
  same_has (x ∷ xs) [] k l z here = absurd z

  -- matched, and with enough fuel
  abbrev Ready : ℕ → ℕ → ℕ → ℕ → Type 0
  Ready a b k l = Matched m g h k l × (length g ≤ k + a) × (length h ≤ l + b)

  ready_kids : (a b k l : ℕ) → length g ≤ k + suc a → length h ≤ l + suc b → Matched m g h k l
      → Zipped (Ready a b) (kids_at g k) (kids_at h l)
  ready_kids a b k l bound_k bound_l here =
      let u = there_is g k here.low_k in
      let w = there_is h l here.low_l in
      let pair = twins m order g h pg ph k l u.0 w.0 u.1 w.1 here.some_k here.some_l
      (one_for_each m order g pg k u.0 u.1) (one_for_each m order h ph l w.0 w.1) here.same in
      let kids = zipped_kids m g h (Ready a b) u.0 w.0 pair (λ i j low_i low_j same.
      let up_k : k < child u.0 i = pg.graph.above k u.0 i u.1 low_i in
      let up_l : l < child w.0 j = ph.graph.above l w.0 j w.1 low_j in (
        record {
          some_k = omega (arith, up_k);
          some_l = omega (arith, up_l);
          low_k = pg.graph.within k u.0 i u.1 low_i;
          low_l = ph.graph.within l w.0 j w.1 low_j;
          same = same;
        },
        omega (arith, bound_k, up_k),
        omega (arith, bound_l, up_l),
      )) in
      subst (λ (ks : List ℕ). Zipped (Ready a b) ks (kids_at h l)) (sym (ap kids_in u.1))
      (subst (λ (ls : List ℕ). Zipped (Ready a b) (kids_of u.0) ls) (sym (ap kids_in w.1)) kids)

  abbrev Lockstep : ℕ → ℕ → Type 0
  Lockstep a b =
      (xs ys : List ℕ) (k l : ℕ) → length g ≤ k + a → length h ≤ l + b → Matched m g h k l
      → Zipped (Matched m g h) xs ys
      → Zipped (Matched m g h) (left_after a (kids_at g) xs k) (left_after b (kids_at h) ys l)

  each_lockstep : (a b : ℕ) → Lockstep a b → (ks ls xs ys : List ℕ) → Zipped (Ready a b) ks ls
      → Zipped (Matched m g h) xs ys
      → Zipped (Matched m g h) (each (left_after a (kids_at g)) xs ks)
      (each (left_after b (kids_at h)) ys ls)
  each_lockstep a b go [] [] xs ys ready z = z
  each_lockstep a b go (k ∷ ks) (l ∷ ls) xs ys ready z =
      each_lockstep a b go ks ls (left_after a (kids_at g) xs k) (left_after b (kids_at h) ys l)
      ready.1 (go xs ys k l ready.0.1 ready.0.2 ready.0.0 z)
  each_lockstep a b go [] (l ∷ ls) xs ys ready z = absurd ready
  each_lockstep a b go (k ∷ ks) [] xs ys ready z = absurd ready

  pub lockstep : (a b : ℕ) → Lockstep a b
  lockstep zero b xs ys k l bound_k bound_l here z =
      absurd (let low = here.low_k in omega arith)
  lockstep (suc a) zero xs ys k l bound_k bound_l here z =
      absurd (let low = here.low_l in omega arith)
  lockstep (suc a) (suc b) xs ys k l bound_k bound_l here z =
      let equal = same_has xs ys k l z here in
      ⊎_elim
      (λ there.
      subst (λ (us : List ℕ). Zipped (Matched m g h) us (left_after (suc b) (kids_at h) ys l))
      (sym (visit_there (kids_at g) a xs k there))
      (subst (λ (ws : List ℕ). Zipped (Matched m g h) xs ws)
      (sym (visit_there (kids_at h) b ys l (sym equal ∙ there))) z))
      (λ fresh.
      let rest = each_lockstep a b (lockstep a b) (kids_at g k) (kids_at h l) xs ys
      (ready_kids a b k l bound_k bound_l here) z in
      subst (λ (us : List ℕ). Zipped (Matched m g h) us (left_after (suc b) (kids_at h) ys l))
      (sym (visit_new (kids_at g) a xs k fresh))
      (subst (λ (ws : List ℕ). Zipped (Matched m g h)
      (k ∷ each (left_after a (kids_at g)) xs (kids_at g k)) ws)
      (sym (visit_new (kids_at h) b ys l (sym equal ∙ fresh))) (here, rest)))
      (cases_Bool (has xs k))
