-- Stores with more nodes.
use Rattle.std.proofs.Common.{◌≡◌, ◌⊎◌, inl, inr, ⊎_elim, ℕ, ◌+◌, eqb, [], ◌∷◌, ◌++◌, length, slice_index, Some, refl, sym, ap, ◌∙◌, subst, arith}
use Rattle.std.proofs.lemmas.Bool.{cases_lt}
use Rattle.std.proofs.lemmas.List.{length_push}
use Rattle.decision_diagram.specs.Diagrams.{Diagrams, Node, inner_at, shape_in, kids_in, level_in, level_of, IsNode, IsReducedNode, AreReduced, Keeps}
use Rattle.decision_diagram.specs.inner.Diagrams.{IsNew}
use Rattle.decision_diagram.proofs.Nodes.{inner_prefix, inner_last, inner_within}
use Rattle.decision_diagram.proofs.Values.{follow_prefix}

-- the diagrams with one more inner node
abbrev pub with_node : Diagrams → Node → Diagrams
with_node s node = record { sizes = s.sizes; order = s.order; nodes = s.nodes ++ node ∷ [] }

-- ---- what is kept
pub keeps_same : (s : Diagrams) → Keeps s s
keeps_same s = record {
  sizes = refl;
  order = refl;
  nodes = λ n h. h;
  values = λ n codes h. refl;
  shapes = λ n h. refl;
  children = λ n h. refl;
  levels = λ n h. refl;
}

pub keeps_trans : (a b c : Diagrams) → Keeps a b → Keeps b c → Keeps a c
keeps_trans a b c one two = record {
  sizes = two.sizes ∙ one.sizes;
  order = two.order ∙ one.order;
  nodes = λ n h. two.nodes n (one.nodes n h);
  values = λ n codes h. two.values n codes (one.nodes n h) ∙ one.values n codes h;
  shapes = λ n h. two.shapes n (one.nodes n h) ∙ one.shapes n h;
  children = λ n h. two.children n (one.nodes n h) ∙ one.children n h;
  levels = λ n h. two.levels n (one.nodes n h) ∙ one.levels n h;
}

pub keeps_node : (s : Diagrams) → AreReduced s → (node : Node) → Keeps s (with_node s node)
keeps_node s ok node = record {
  sizes = refl;
  order = refl;
  nodes = λ n h. omega (arith, length_push s.nodes node);
  values = λ n codes h. ap (λ (m : ℕ). eqb m 1) (follow_prefix s ok (node ∷ []) s.order codes n h);
  shapes = λ n h. ap (shape_in n) (inner_prefix s.nodes (node ∷ []) n h);
  children = λ n h. ap kids_in (inner_prefix s.nodes (node ∷ []) n h);
  levels = λ n h. ap (level_in s.order) (inner_prefix s.nodes (node ∷ []) n h);
}

pub keeps_level : (old new : Diagrams) → Keeps old new → (n : ℕ) → IsNode old n
    → level_of new n ≡ level_of old n
keeps_level old new keeps n h = keeps.levels n h

-- ---- one more inner node
-- an inner node of the larger store is an earlier one, or the new one
cases_node : (s : Diagrams) (node : Node) (n : ℕ) (other : Node)
    → inner_at (s.nodes ++ node ∷ []) n ≡ Some other
    → (inner_at s.nodes n ≡ Some other) ⊎ ((n ≡ length s.nodes + 2) × (other ≡ node))
cases_node s node n other is =
    ⊎_elim
    (λ old. inl (sym (inner_prefix s.nodes (node ∷ []) n old) ∙ is))
    (λ past.
    let w = inner_within (s.nodes ++ node ∷ []) n other is in
    let e : n ≡ length s.nodes + 2 = omega (arith, length_push s.nodes node) in
    let f : Some node ≡ Some other = sym (inner_last s.nodes node n e) ∙ is in
    inr (e, cc))
    (cases_lt n (length s.nodes + 2))

reduced_old : (s : Diagrams) → AreReduced s → (node : Node) (n : ℕ) (other : Node)
    → inner_at s.nodes n ≡ Some other → IsReducedNode (with_node s node) n other
reduced_old s ok node n other is =
    let good = ok.nodes n other is in
    let w = inner_within s.nodes n other is in
    record {
      var = good.var;
      kids = good.kids;
      before = good.before;
      later = λ code h.
          let b = good.before code h in
          let l = good.later code h in
          let e = keeps_level s (with_node s node) (keeps_node s ok node)
          (slice_index other.kids code) (omega arith) in
          omega arith;
      varied = good.varied;
    }

reduced_new : (s : Diagrams) → AreReduced s → (node : Node) → IsNew s node
    → IsReducedNode (with_node s node) (length s.nodes + 2) node
reduced_new s ok node new = record {
  var = new.var;
  kids = new.kids;
  before = new.nodes;
  later = λ code h.
      let l = new.later code h in
      let e = keeps_level s (with_node s node) (keeps_node s ok node) (slice_index node.kids code)
      (new.nodes code h) in
      omega arith;
  varied = new.varied;
}

pub reduced_more : (s : Diagrams) → AreReduced s → (node : Node) → IsNew s node
    → AreReduced (with_node s node)
reduced_more s ok node new = record {
  sizes = ok.sizes;
  order = ok.order;
  lengths = ok.lengths;
  nodes = λ n other is.
      ⊎_elim
      (λ old. reduced_old s ok node n other old)
      (λ now. subst (λ (m : ℕ). IsReducedNode (with_node s node) m other) (sym now.0)
      (subst (λ (x : Node). IsReducedNode (with_node s node) (length s.nodes + 2) x) (sym now.1)
      (reduced_new s ok node new)))
      (cases_node s node n other is);
  unique = λ m n a b is_a is_b var kids.
      ⊎_elim
      (λ old_a.
      ⊎_elim
      (λ old_b. ok.unique m n a b old_a old_b var kids)
      (λ now_b. absurd
      (new.fresh m a old_a (var ∙ ap (λ (x : Node). x.var) now_b.1)
      (kids ∙ ap (λ (x : Node). x.kids) now_b.1)))
      (cases_node s node n b is_b))
      (λ now_a.
      ⊎_elim
      (λ old_b. absurd
      (new.fresh n b old_b (sym var ∙ ap (λ (x : Node). x.var) now_a.1)
      (sym kids ∙ ap (λ (x : Node). x.kids) now_a.1)))
      (λ now_b. now_a.0 ∙ sym now_b.0)
      (cases_node s node n b is_b))
      (cases_node s node m a is_a);
}
