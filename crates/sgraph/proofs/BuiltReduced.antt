-- The graph that a diagram becomes goes on in the order, and is reduced.
use Rattle.std.proofs.Common.{◌≡◌, ◌≢◌, ⊎_elim, ℕ, zero, suc, ◌+◌, ◌-◌, ◌<◌, ◌≤◌, Bool, true, false, not, List, [], ◌∷◌, ◌++◌, map, length, take, drop, replicate, slice_get, slice_index, slice_set, Some, refl, ap, sym, subst, ◌∙◌, arith, eqb, ltb, get_or-take, get_or-set_same, get_or-set_other, length-append}
use Rattle.std.specs.List.{list_all, list_any}
use Rattle.std.proofs.lemmas.Bool.{and_parts, and_from, cases_eq, cases_lt, lt-ltb, eqb-true, true≢false, false_from_ne_true, or_cases}
use Rattle.std.proofs.lemmas.Grind.{same_number_lists}
use Rattle.std.specs.Cmp.Lexicographic.{same_text}
use Rattle.domains.specs.Names.{is_same, are_distinct}
use Rattle.domains.specs.Tables.{fits}
use Rattle.transition_table.specs.declared.machine.Machine.{Machine}
use Rattle.domains.specs.Orders.{place}
use Rattle.decision_diagram.specs.Diagrams.{Node, Diagrams, inner_at, level_of, IsNode, value_of, AreReduced, kids_of as kids_of_node, kids_in as kids_in_node}
use Rattle.decision_diagram.specs.Reached.{Walk, Reaches}
use Rattle.std.specs.Prelude.{Contains, slice_index_or}
use Rattle.sgraph.specs.declared.vertex.Vertex.{Vertex}
use Rattle.sgraph.specs.declared.vertex.Vertex.TheVariants.{Begin, Test, Assign, End}
use Rattle.transition_table.specs.Computed.{char, result_codes, supports}
use Rattle.transition_table.specs.Orders.{sizes_of}
use Rattle.transition_table.proofs.SupportByTest.{char_there}
use Rattle.sgraph.specs.Graphs.{kids_of, key_of, are_same, varies, is_reduced, depth, deepens, edges_rise}
use Rattle.sgraph.specs.Built.{Built}
use Rattle.sgraph.proofs.ByRows.{IsDiagramByRows}
use Rattle.sgraph.specs.Walks.{FitsMachine}
use Rattle.decision_diagram.proofs.AllCodes.{all_map}
use Rattle.sgraph.proofs.Decides.{char_code, one_code}
use Rattle.decision_diagram.proofs.AppendedLists.{reaches_child}
use Rattle.sgraph.proofs.BuiltEvaluates.{not_low}
use Rattle.decision_diagram.specs.Leading.{led, OneCode}
use Rattle.sgraph.proofs.Below.{HasResults}
use Rattle.decision_diagram.proofs.Prefixes.{led_codes, led_value, some_kid, mixed, mixed_fits, mixed_prefix, mixed_value}
use Rattle.decision_diagram.proofs.Nodes.{cases_inner, inner_low, none_low, inner_within}
use Rattle.domains.proofs.Places.{place_of_item}
use Rattle.decision_diagram.proofs.Values.{level_none, level_some, level_below, value_inner}
use Rattle.domains.proofs.Ranks.{length_fits, fits_zeros}
use Rattle.sgraph.proofs.NextNodes.{index_after}
use Rattle.domains.proofs.FittingCodes.{fits_both, fits_prefix, fits_set_any}
use Rattle.polis_base.proofs.Places.{index_append, length_map}

node_of_kid : (s : Diagrams) → AreReduced s → (n : ℕ) (node : Node) (c : ℕ)
    → inner_at s.nodes n ≡ Some node → c < length node.kids → IsNode s (slice_index node.kids c)
node_of_kid s ok n node c is low =
    let before : slice_index node.kids c < n = (ok.nodes n node is).before c low in
    let within : (2 ≤ n) × (n < length s.nodes + 2) = inner_within s.nodes n node is in
    let inside : n < length s.nodes + 2 = within.1 in
    omega arith

-- ---- no child of a variable's node is False

module _ (m : Machine) (s : Diagrams) (root : ℕ) (d : IsDiagramByRows m s root) (has : HasResults m) where
  -- another code of a variable leaves the results before it as they are
  turned_agrees : (one : List ℕ) (v c : ℕ) → fits s.sizes one ≡ true → value_of s root one ≡ true
      → v < length m.vars → c < slice_index m.vars v → (j : ℕ) → j < place s.order v
      → j < length s.order
      → slice_index (slice_set (take (length m.vars) one) v c
      ++ result_codes m (slice_set (take (length m.vars) one) v c)) (slice_index s.order j)
      ≡ slice_index one (slice_index s.order j)
  turned_agrees one v c fit holds hv hc j before inside =
      let n = length m.vars in
      let u = slice_index s.order j in
      let snap : List ℕ = take n one in
      let turned : List ℕ = slice_set snap v c in
      let long : length s.sizes ≡ length m.vars + length m.results =
      ap (λ (xs : List ℕ). length xs) d.sizes ∙ length-append m.vars m.results in
      let lengths : length s.order ≡ length s.sizes = d.reduced.lengths in
      let below : u < length s.order = d.reduced.order.below j inside in
      let fit_too : fits (sizes_of m) one ≡ true = rw (← d.sizes) fit in
      let fit_snap : fits m.vars snap ≡ true = fits_prefix m.vars m.results one fit_too in
      let long_snap : length turned ≡ n =
      length_fits m.vars turned (fits_set_any m.vars snap fit_snap v c hc) in
      let own = place_of_item s.order d.reduced.order j inside in
      let holds_char : char m one ≡ true = sym (d.means.value one fit) ∙ holds in
      ⊎_elim
      (λ var.
      index_append turned (result_codes m turned) u (omega arith)
      ∙ get_or-set_other snap v u c 0 (λ same. let f = ap (place s.order) same in
      absurd (omega arith))
      ∙ get_or-take n one u 0 var)
      (λ result.
      let y : ℕ = u - n in
      let e : u ≡ n + y = omega arith in
      let off : supports m y v ≡ false = false_from_ne_true (supports m y v) (λ on.
      let after = d.allowed.after y v (omega arith) hv ((has.below.by_test m y v d.sure hv).0 on) in
      let f = ap (place s.order) e in
      absurd (omega arith))
      in
      ap (slice_index (turned ++ result_codes m turned)) e
      ∙ after_prefix turned (result_codes m turned) n y long_snap
      ∙ has.below.on_support m y turned snap (fits_set_any m.vars snap fit_snap v c hc) fit_snap
      (λ w low sup. get_or-set_other snap v w c 0
      (λ same. absurd (true≢false (sym sup ∙ ap (supports m y) same ∙ off))))
      ∙ sym (char_code m one y holds_char)
      ∙ ap (slice_index one) (sym e))
      (cases_lt u n)
    where
      after_prefix : (xs ys : List ℕ) (n y : ℕ) → length xs ≡ n
          → slice_index (xs ++ ys) (n + y) ≡ slice_index ys y
      after_prefix [] ys n y e = let f : n + y ≡ y = omega arith in ap (slice_index ys) f
      after_prefix (x ∷ xs) ys zero y e = absurd (omega arith)
      after_prefix (x ∷ xs) ys (suc n) y e = let f : suc n + y ≡ suc (n + y) = omega arith in
          ap (slice_index (x ∷ (xs ++ ys))) f ∙ after_prefix xs ys n y (omega arith)

  pub no_false_kid : (n : ℕ) (node : Node) → Reaches s root n → inner_at s.nodes n ≡ Some node
      → node.var < length m.vars → (c : ℕ) → c < length node.kids → slice_index node.kids c ≢ 0
  no_false_kid n node there is hv c low =
      let ok = d.reduced in
      let i = level_of s n in
      let v = node.var in
      let good = ok.nodes n node is in
      let var : node.var < length s.sizes = good.var in
      let kids : length node.kids ≡ slice_index s.sizes node.var = good.kids in
      let own_size : slice_index s.sizes node.var ≡ slice_index m.vars node.var =
      ap (λ (xs : List ℕ). slice_index xs v) d.sizes ∙ index_append m.vars m.results v hv in
      let below : i < length s.order = level_below s ok n node is in
      let own_level : i ≡ place s.order node.var = level_some s n node is in
      let led_there = has.below.led s root n ok there in
      let a : List ℕ = led_there.0 in
      let some = some_kid s ok n node is in
      let deep = has.below.somewhere s (slice_index node.kids (some.0)) ok
      (node_of_kid s ok n node some.0 is some.1) some.2 in
      let one : List ℕ = mixed s i v some.0 a deep.0 in
      let some_low : some.0 < length node.kids = some.1 in
      let fit_one : fits s.sizes one ≡ true =
      mixed_fits s ok i v some.0 a deep.0 (omega arith) (omega arith) led_there.1 deep.1 in
      let true_one : value_of s root one ≡ true =
      mixed_value s ok root n node is some.0 some.1 a deep.0 led_there.1 deep.1 led_there.2
      ∙ deep.2 in
      let snap : List ℕ = take (length m.vars) one in
      let fit_too : fits (sizes_of m) one ≡ true =
      subst (λ (xs : List ℕ). fits xs one ≡ true) d.sizes fit_one in
      let fit_snap : fits m.vars snap ≡ true = fits_prefix m.vars m.results one fit_too in
      let turned : List ℕ = slice_set snap v c in
      let hc : c < slice_index m.vars v = omega arith in
      let fit_turned : fits m.vars turned ≡ true = fits_set_any m.vars snap fit_snap v c hc in
      let other : List ℕ = turned ++ result_codes m turned in
      let fit_other : fits s.sizes other ≡ true =
      subst (λ (xs : List ℕ). fits xs other ≡ true) (sym d.sizes)
      (fits_both m.vars m.results turned (result_codes m turned) fit_turned
      (has.fit turned fit_turned)) in
      let true_other : value_of s root other ≡ true =
      d.means.value other fit_other ∙ char_there m turned
      (length_fits m.vars turned fit_turned) in
      let led_one : led s i other root ≡ n =
      led_codes s i root other a (omega arith)
      (λ j less. turned_agrees one v c fit_one true_one hv hc j (omega arith) (omega arith)
      ∙ mixed_prefix s ok i v some.0 a deep.0 (omega arith) deep.1 j less) ∙ led_there.2
      in
      let at_n : value_of s root other ≡ value_of s n other =
      led_value s ok i root other (rw led_one (omega arith))
      ∙ ap (λ (k : ℕ). value_of s k other) led_one in
      let long_snap = length_fits m.vars snap fit_snap in
      let long_turned = length_fits m.vars turned fit_turned in
      let own : slice_index other v ≡ c =
      index_append turned (result_codes m turned) v (omega arith)
      ∙ get_or-set_same snap v c 0 (omega arith) in
      not_low s (slice_index node.kids c) other
      (sym (at_n ∙ value_inner s ok n node other is (omega arith)
      ∙ ap (λ (k : ℕ). value_of s (slice_index node.kids k) other) own) ∙ true_other)

  pub root_true : root ≢ 0
  root_true =
      let zeros : List ℕ = replicate (length s.sizes) 0 in
      let fit_zeros : fits s.sizes zeros ≡ true = fits_zeros s.sizes d.reduced.sizes in
      let snap : List ℕ = take (length m.vars) zeros in
      let fit_snap : fits m.vars snap ≡ true =
      fits_prefix m.vars m.results zeros
      (subst (λ (xs : List ℕ). fits xs zeros ≡ true) d.sizes fit_zeros) in
      let both : List ℕ = snap ++ result_codes m snap in
      let fit_both : fits s.sizes both ≡ true =
      subst (λ (xs : List ℕ). fits xs both ≡ true) (sym d.sizes)
      (fits_both m.vars m.results snap (result_codes m snap) fit_snap
      (has.fit snap fit_snap)) in
      not_low s root both (d.means.value both fit_both
      ∙ char_there m snap (length_fits m.vars snap fit_snap))

module _ (m : Machine) (s : Diagrams) (root : ℕ) (d : IsDiagramByRows m s root) where
  pub reached_node : (n : ℕ) → Reaches s root n → IsNode s n
  reached_node n there = walked there.0 n there.1
    where
      walked : (steps n : ℕ) → Walk s root n steps → IsNode s n
      walked zero n same = subst (λ (k : ℕ). IsNode s k) same d.means.node
      walked (suc steps) n walk =
          let k = walk.0 in
          ⊎_elim
          (λ none. absurd (nowhere (kids_of_node s k) n (ap kids_in_node none) walk.2))
          (λ some.
          let node = some.0 in
          let there : Contains node.kids n = rw (ap kids_in_node (some.1)) at (walk.2) in
          let low : there.0 < length node.kids = there.1 in
          let kid : slice_index node.kids (there.0) ≡ n =
          default_too node.kids there.0 n low ∙ there.2 in
          rw kid at (node_of_kid s d.reduced k node there.0 some.1 low))
          (cases_inner s.nodes k)
        where
          nowhere : (kids : List ℕ) (n : ℕ) → kids ≡ [] → Contains kids n → ⊥
          nowhere kids n none there = let e : length kids ≡ 0 =
              ap (λ (xs : List ℕ). length xs) none in let low : there.0 < length kids = there.1 in
              omega arith

          default_too : (xs : List ℕ) (i d : ℕ) → i < length xs
              → slice_index xs i ≡ slice_index_or xs i d
          default_too [] i d low = absurd (omega arith)
          default_too (x ∷ xs) zero d low = refl
          default_too (x ∷ xs) (suc i) d low = default_too xs i d (omega arith)

all_from : (p : ℕ → Bool) (xs : List ℕ) → ((k : ℕ) → k < length xs → p (slice_index xs k) ≡ true)
    → list_all p xs ≡ true
all_from p [] h = refl
all_from p (x ∷ xs) h =
    and_from (p x) (list_all p xs) (h 0 (omega arith))
    (all_from p xs (λ k low. h (suc k) (omega arith)))

pub each_vertex : (p : Vertex → Bool) (g : List Vertex)
    → ((k : ℕ) (v : Vertex) → slice_get g k ≡ Some v → p v ≡ true) → list_all p g ≡ true
each_vertex p [] h = refl
each_vertex p (v ∷ vs) h =
    and_from (p v) (list_all p vs) (h 0 v refl) (each_vertex p vs (λ k w is. h (suc k) w is))

-- ---- vertices as lists of numbers
pub same_vertex : (u v : Vertex) → key_of u ≡ key_of v → u ≡ v
same_vertex (Begin next) (Begin other) e = let f = ap (λ xs. slice_index xs 1) e in ap Begin f
same_vertex (Begin next) (Test var kids) e =
    absurd (let f = ap (λ xs. slice_index xs 0) e in omega arith)
same_vertex (Begin next) (Assign result code other) e =
    absurd (let f = ap (λ xs. slice_index xs 0) e in omega arith)
same_vertex (Begin next) End e = absurd (let f = ap (λ xs. slice_index xs 0) e in omega arith)
same_vertex (Test var kids) (Begin next) e =
    absurd (let f = ap (λ xs. slice_index xs 0) e in omega arith)
same_vertex (Test var kids) (Test var' kids') e = let f : var ≡ var' =
    ap (λ xs. slice_index xs 1) e in let g : kids ≡ kids' = ap (drop 2) e in cc
same_vertex (Test var kids) (Assign result code other) e =
    absurd (let f = ap (λ xs. slice_index xs 0) e in omega arith)
same_vertex (Test var kids) End e = absurd (let f = ap (λ xs. slice_index xs 0) e in omega arith)
same_vertex (Assign result code next) (Begin other) e =
    absurd (let f = ap (λ xs. slice_index xs 0) e in omega arith)
same_vertex (Assign result code next) (Test var kids) e =
    absurd (let f = ap (λ xs. slice_index xs 0) e in omega arith)
same_vertex (Assign result code next) (Assign result' code' next') e =
    let f : result ≡ result' = ap (λ xs. slice_index xs 1) e in
    let g : code ≡ code' = ap (λ xs. slice_index xs 2) e in
    let h : next ≡ next' = ap (λ xs. slice_index xs 3) e in
    cc
same_vertex (Assign result code next) End e =
    absurd (let f = ap (λ xs. slice_index xs 0) e in omega arith)
same_vertex End (Begin other) e = absurd (let f = ap (λ xs. slice_index xs 0) e in omega arith)
same_vertex End (Test var kids) e = absurd (let f = ap (λ xs. slice_index xs 0) e in omega arith)
same_vertex End (Assign result code next) e =
    absurd (let f = ap (λ xs. slice_index xs 0) e in omega arith)
same_vertex End End e = refl

pub found_key : (v : Vertex) (vs : List Vertex) → list_any (is_same (key_of v)) (map key_of vs) ≡ true
    → (j : ℕ) × (slice_get vs j ≡ Some v)
found_key v [] h = absurd (true≢false (sym h))
found_key v (w ∷ vs) h =
    ⊎_elim
    (λ here. (0, ap Some (sym (same_vertex v w (same_text (key_of v) (key_of w) (sym here))))))
    (λ later. let rest = found_key v vs later in (suc (rest.0), rest.1))
    (or_cases (is_same (key_of v) (key_of w)) (list_any (is_same (key_of v)) (map key_of vs)) h)

pub distinct_keys : (vs : List Vertex)
    → ((i j : ℕ) (v : Vertex) → slice_get vs i ≡ Some v → slice_get vs j ≡ Some v → i ≡ j)
    → are_distinct (map key_of vs) ≡ true
distinct_keys [] once = refl
distinct_keys (v ∷ vs) once =
    and_from (not (list_any (is_same (key_of v)) (map key_of vs))) (are_distinct (map key_of vs))
    (ap not (false_from_ne_true (list_any (is_same (key_of v)) (map key_of vs)) (λ on.
    let there = found_key v vs on in
    let e : 0 ≡ suc (there.0) = once 0 (suc (there.0)) v refl (there.1) in
    omega arith)))
    (distinct_keys vs (λ i j w at_i at_j. let e :
    suc i ≡ suc j = once (suc i) (suc j) w at_i at_j in omega arith))

module _ (m : Machine) (s : Diagrams) (root : ℕ) (g : List Vertex) (number : ℕ → ℕ)
    (d : IsDiagramByRows m s root) (built : Built m s root g number) (has : HasResults m) where
  vars_long : length s.sizes ≡ length m.vars + length m.results
  vars_long = ap (λ (xs : List ℕ). length xs) d.sizes ∙ length-append m.vars m.results

  -- what stands for a node
  data Stands (n : ℕ) (v : Vertex) : Type 0 where
    ends : n ≡ 1 → v ≡ End → Stands n v
    tests : (node : Node) → inner_at s.nodes n ≡ Some node → node.var < length m.vars
        → v ≡ Test node.var (map number node.kids)
        → ((c : ℕ) → c < length node.kids → slice_index node.kids c ≢ 0) → Stands n v
    assigns : (node : Node) (y c : ℕ) → inner_at s.nodes n ≡ Some node
        → node.var ≡ length m.vars + y → c < length node.kids → slice_index node.kids c ≢ 0
        → ((e : ℕ) → e < length node.kids → slice_index node.kids e ≢ 0 → c ≡ e)
        → v ≡ Assign y c (number (slice_index node.kids c)) → Stands n v

  got_one : (k : ℕ) (u v : Vertex) → slice_get g k ≡ Some u → slice_get g k ≡ Some v → u ≡ v
  got_one k u v a b = cc

  stands : (n : ℕ) (v : Vertex) → Reaches s root n → n ≢ 0 → slice_get g (number n) ≡ Some v
      → Stands n v
  stands n v there some is =
      ⊎_elim
      (λ none.
      let low = none_low s.nodes n (reached_node m s root d n there) none in
      let one : n ≡ 1 = ⊎_elim (λ z. absurd (some z)) (λ nz. omega arith) (cases_eq n 0) in
      ends one (got_one (number n) v End is
      (ap (λ (k : ℕ). slice_get g (number k)) one ∙ built.end)))
      (λ inner. of_inner n v there is inner.0 inner.1)
      (cases_inner s.nodes n)
    where
      of_inner : (n : ℕ) (v : Vertex) → Reaches s root n → slice_get g (number n) ≡ Some v
          → (node : Node) → inner_at s.nodes n ≡ Some node → Stands n v
      of_inner n v there is node node_is =
          let var : node.var < length s.sizes = (d.reduced.nodes n node node_is).var in
          let long = vars_long in
          ⊎_elim
          (λ test. tests node node_is test
          (got_one (number n) v (Test node.var (map number node.kids)) is
          (built.test n node there node_is test))
          (λ c low. no_false_kid m s root d has n node there node_is test c low))
          (λ result.
          let y : ℕ = node.var - length m.vars in
          let e : node.var ≡ length m.vars + y = omega arith in
          let leads = has.below.led s root n d.reduced there in
          let code : OneCode node.kids =
          one_code m has.below s root n node y d node_is e (omega arith) leads.0 leads.1
          leads.2 in
          assigns node y code.0 node_is e code.1 code.2 code.3
          (got_one (number n) v (Assign y code.0 (number (slice_index node.kids (code.0)))) is
          (built.assign n node y code.0 there node_is e code.1 code.2)))
          (cases_lt node.var (length m.vars))

  -- every node that is reached and isn't False has its vertex
  has_vertex : (n : ℕ) → Reaches s root n → n ≢ 0 → (v : Vertex) × (slice_get g (number n) ≡ Some v)
  has_vertex n there some =
      ⊎_elim
      (λ none.
      let low = none_low s.nodes n (reached_node m s root d n there) none in
      let one : n ≡ 1 = ⊎_elim (λ z. absurd (some z)) (λ nz. omega arith) (cases_eq n 0) in
      (End, ap (λ (k : ℕ). slice_get g (number k)) one ∙ built.end))
      (λ inner. of_inner inner.0 inner.1)
      (cases_inner s.nodes n)
    where
      of_inner : (node : Node) → inner_at s.nodes n ≡ Some node
          → (v : Vertex) × (slice_get g (number n) ≡ Some v)
      of_inner node node_is =
          ⊎_elim
          (λ test. (Test node.var (map number node.kids), built.test n node there node_is test))
          (λ result.
          let kid = some_kid s d.reduced n node node_is in
          let y : ℕ = node.var - length m.vars in
          let e : node.var ≡ length m.vars + y = omega arith in (
            Assign y kid.0 (number (slice_index node.kids (kid.0))),
            built.assign n node y kid.0 there node_is e kid.1 kid.2,
          ))
          (cases_lt node.var (length m.vars))

  -- a vertex is as deep as its node
  depth_of : (n : ℕ) (v : Vertex) → Stands n v
      → depth (length m.vars) s.order (Some v) ≡ level_of s n + 1
  depth_of n v (ends one is) = ap (λ (w : Vertex). depth (length m.vars) s.order (Some w)) is
      ∙ (let e = level_none s n (inner_low s.nodes n (omega arith)) in omega arith)
  depth_of n v (tests node is var e some) =
      ap (λ (w : Vertex). depth (length m.vars) s.order (Some w)) e
      ∙ (let l = level_some s n node is in omega arith)
  depth_of n v (assigns node y c is var low some only e) =
      ap (λ (w : Vertex). depth (length m.vars) s.order (Some w)) e
      ∙ (let l = level_some s n node is in let f = ap (place s.order) var in omega arith)

  depth_there : (n : ℕ) → Reaches s root n → n ≢ 0
      → depth (length m.vars) s.order (slice_get g (number n)) ≡ level_of s n + 1
  depth_there n there some =
      let v = has_vertex n there some in
      ap (depth (length m.vars) s.order) v.1 ∙ depth_of n v.0 (stands n v.0 there some v.1)

  deeper : (n : ℕ) (v : Vertex) → Reaches s root n → Stands n v
      → deepens (length m.vars) s.order g v ≡ true
  deeper n v there (ends one is) = ap (deepens (length m.vars) s.order g) is
  deeper n v there (tests node is var e some) =
      let own = depth_of n v (tests node is var e some) in
      ap (λ (w : Vertex). list_all (λ j.
      ltb (depth (length m.vars) s.order (Some v))
      (depth (length m.vars) s.order (slice_get g j))) (kids_of w)) e
      ∙ all_map (λ j. ltb (depth (length m.vars) s.order (Some v))
      (depth (length m.vars) s.order (slice_get g j))) number node.kids
      ∙ all_from (λ k. ltb (depth (length m.vars) s.order (Some v))
      (depth (length m.vars) s.order (slice_get g (number k)))) node.kids (λ c low.
      let kid = slice_index node.kids c in
      let e = depth_there kid (reaches_child s root n node c there is low) (some c low) in
      let l = level_some s n node is in
      let later : place s.order node.var < level_of s kid =
      (d.reduced.nodes n node is).later c low in
      lt-ltb (depth (length m.vars) s.order (Some v))
      (depth (length m.vars) s.order (slice_get g (number kid))) (omega arith))
  deeper n v there (assigns node y c is var low some only e) =
      let own = depth_of n v (assigns node y c is var low some only e) in
      let kid = slice_index node.kids c in
      let f = depth_there kid (reaches_child s root n node c there is low) some in
      let l = level_some s n node is in
      let later : place s.order node.var < level_of s kid =
      (d.reduced.nodes n node is).later c low in
      ap (λ (w : Vertex). list_all (λ j.
      ltb (depth (length m.vars) s.order (Some v))
      (depth (length m.vars) s.order (slice_get g j))) (kids_of w)) e
      ∙ and_from (ltb (depth (length m.vars) s.order (Some v))
      (depth (length m.vars) s.order (slice_get g (number kid)))) true
      (lt-ltb (depth (length m.vars) s.order (Some v))
      (depth (length m.vars) s.order (slice_get g (number kid))) (omega arith)) refl

  pub built_rises : edges_rise (length m.vars) s.order g ≡ true
  built_rises =
      each_vertex (deepens (length m.vars) s.order g) g (λ k v is.
      ⊎_elim
      (λ first.
      let e : v ≡ Begin (number root) =
      got_one 0 v (Begin (number root)) (ap (slice_get g) (sym first) ∙ is) built.begin in
      let f = depth_there root (0, refl) (root_true m s root d has) in
      ap (deepens (length m.vars) s.order g) e
      ∙ and_from (ltb 0 (depth (length m.vars) s.order (slice_get g (number root)))) true
      (lt-ltb 0 (depth (length m.vars) s.order (slice_get g (number root))) (omega arith)) refl)
      (λ node.
      let n = node.0 in
      deeper n v node.1 (stands n v node.1 node.2 (ap (slice_get g) (sym node.3) ∙ is)))
      (built.only k v is))

  -- ---- no two vertices are equal
  kids_same : (xs ys : List ℕ) → length xs ≡ length ys
      → ((c : ℕ) → c < length xs → slice_index xs c ≡ slice_index ys c) → xs ≡ ys
  kids_same xs ys long same = same_number_lists xs ys long same

  numbers_at : (xs ys : List ℕ) → map number xs ≡ map number ys
      → (length xs ≡ length ys)
      × ((c : ℕ) → c < length xs → number (slice_index xs c) ≡ number (slice_index ys c))
  numbers_at [] [] e = (refl, λ c low. absurd (omega arith))
  numbers_at [] (y ∷ ys) e = absurd (let f = ap (λ (zs : List ℕ). length zs) e in omega arith)
  numbers_at (x ∷ xs) [] e = absurd (let f = ap (λ (zs : List ℕ). length zs) e in omega arith)
  numbers_at (x ∷ xs) (y ∷ ys) e =
      let rest = numbers_at xs ys (ap (drop 1) e) in
      let first : number x ≡ number y = ap (λ (zs : List ℕ). slice_index zs 0) e in
      (ap suc rest.0, at first rest.1)
    where
      at : number x ≡ number y
          → ((c : ℕ) → c < length xs → number (slice_index xs c) ≡ number (slice_index ys c))
          → (c : ℕ) → c < length (x ∷ xs) → number (slice_index (x ∷ xs) c)
          ≡ number (slice_index (y ∷ ys) c)
      at first rest zero low = first
      at first rest (suc c) low = rest c (omega arith)

  -- where one vertex stands for two nodes, they are one
  one_node : (a b : ℕ) (v : Vertex) → Reaches s root a → Reaches s root b → Stands a v → Stands b v
      → a ≡ b
  one_node a b v ra rb (ends one is) (ends one_too is_too) = one ∙ sym one_too
  one_node a b v ra rb (ends one is) (tests node ni var e some) =
      absurd (let f : End ≡ Test node.var (map number node.kids) = sym is ∙ e in cc)
  one_node a b v ra rb (ends one is) (assigns node y c ni var low some only e) =
      absurd (let f : End ≡ Assign y c (number (slice_index node.kids c)) = sym is ∙ e in cc)
  one_node a b v ra rb (tests node ni var e some) (ends one is) =
      absurd (let f : End ≡ Test node.var (map number node.kids) = sym is ∙ e in cc)
  one_node a b v ra rb (tests node ni var e some)
      (assigns other y c ni_too var_too low some_too only e_too) =
      absurd (let f : Test node.var (map number node.kids)
      ≡ Assign y c (number (slice_index other.kids c)) = sym e ∙ e_too in cc)
  one_node a b v ra rb (assigns other y c ni_too var_too low some_too only e_too) (ends one is) =
      absurd (let f : End ≡ Assign y c (number (slice_index other.kids c)) = sym is ∙ e_too in cc)
  one_node a b v ra rb (assigns other y c ni_too var_too low some_too only e_too)
      (tests node ni var e some) =
      absurd (let f : Test node.var (map number node.kids)
      ≡ Assign y c (number (slice_index other.kids c)) = sym e ∙ e_too in cc)
  one_node a b v ra rb (tests node ni var e some) (tests other ni_too var_too e_too some_too) =
      let f : Test node.var (map number node.kids) ≡ Test other.var (map number other.kids) =
      sym e ∙ e_too in
      let same_var : node.var ≡ other.var = cc in
      let same_kids : map number node.kids ≡ map number other.kids = cc in
      let at = numbers_at node.kids other.kids same_kids in
      let long : length node.kids ≡ length other.kids = at.0 in
      d.reduced.unique a b node other ni ni_too same_var
      (same_number_lists node.kids other.kids long (λ k low.
      built.apart (slice_index node.kids k) (slice_index other.kids k)
      (reaches_child s root a node k ra ni low)
      (reaches_child s root b other k rb ni_too (omega arith)) (some k low)
      (some_too k (omega arith)) (at.1 k low)))
  one_node a b v ra rb (assigns node y c ni var low some only e)
      (assigns other z f ni_too var_too low_too some_too only_too e_too) =
      let g : Assign y c (number (slice_index node.kids c))
      ≡ Assign z f (number (slice_index other.kids f)) = sym e ∙ e_too in
      let same_result : y ≡ z = cc in
      let same_code : c ≡ f = cc in
      let same_kid : number (slice_index node.kids c) ≡ number (slice_index other.kids f) = cc in
      let same_var : node.var ≡ other.var = omega arith in
      let one = (d.reduced.nodes a node ni).kids in
      let two = (d.reduced.nodes b other ni_too).kids in
      let sizes = ap (slice_index s.sizes) same_var in
      let long : length node.kids ≡ length other.kids = omega arith in
      let kid = built.apart (slice_index node.kids c) (slice_index other.kids f)
      (reaches_child s root a node c ra ni low) (reaches_child s root b other f rb ni_too low_too)
      some some_too same_kid in
      d.reduced.unique a b node other ni ni_too same_var
      (same_number_lists node.kids other.kids long (λ k inside.
      ⊎_elim
      (λ own. ap (slice_index node.kids) own ∙ kid
      ∙ ap (slice_index other.kids) (sym same_code ∙ sym own))
      (λ elsewhere. zero_else node.kids c k inside only (λ h. elsewhere (sym h))
      ∙ sym (zero_else other.kids f k (omega arith) only_too
      (λ h. elsewhere (sym h ∙ sym same_code))))
      (cases_eq k c)))
    where
      zero_else : (kids : List ℕ) (c k : ℕ) → k < length kids
          → ((e : ℕ) → e < length kids → slice_index kids e ≢ 0 → c ≡ e) → c ≢ k
          → slice_index kids k ≡ 0
      zero_else kids c k low only other =
          ⊎_elim (λ z. z) (λ nz. absurd (other (only k low nz))) (cases_eq (slice_index kids k) 0)

  not_begin : (n next : ℕ) → Stands n (Begin next) → ⊥
  not_begin n next (ends one is) = cc
  not_begin n next (tests node ni var e some) = cc
  not_begin n next (assigns node y c ni var low some only e) = cc

  pub built_once_each : (i j : ℕ) (v : Vertex) → slice_get g i ≡ Some v → slice_get g j ≡ Some v
      → i ≡ j
  built_once_each i j v at_i at_j =
      ⊎_elim
      (λ first.
      ⊎_elim
      (λ first_too. first ∙ sym first_too)
      (λ node.
      let e : v ≡ Begin (number root) =
      got_one 0 v (Begin (number root)) (ap (slice_get g) (sym first) ∙ at_i) built.begin in
      absurd (not_begin node.0 (number root)
      (stands node.0 (Begin (number root)) node.1 node.2
      (ap (slice_get g) (sym node.3) ∙ at_j ∙ ap Some e))))
      (built.only j v at_j))
      (λ node.
      ⊎_elim
      (λ first.
      let e : v ≡ Begin (number root) =
      got_one 0 v (Begin (number root)) (ap (slice_get g) (sym first) ∙ at_j) built.begin in
      absurd (not_begin node.0 (number root)
      (stands node.0 (Begin (number root)) node.1 node.2
      (ap (slice_get g) (sym node.3) ∙ at_i ∙ ap Some e))))
      (λ other.
      let e = one_node node.0 other.0 v node.1 other.1
      (stands node.0 v node.1 node.2 (ap (slice_get g) (sym node.3) ∙ at_i))
      (stands other.0 v other.1 other.2 (ap (slice_get g) (sym other.3) ∙ at_j)) in
      node.3 ∙ ap number e ∙ sym (other.3))
      (built.only j v at_j))
      (built.only i v at_i)

  -- ---- no test has all its children the same
  not_all_same : (n : ℕ) (v : Vertex) → Reaches s root n → Stands n v → varies v ≡ true
  not_all_same n v there (ends one is) = ap varies is
  not_all_same n v there (assigns node y c ni var low some only e) = ap varies e
  not_all_same n v there (tests node ni var e some) =
      ap varies e ∙ ap not (false_from_ne_true (are_same (map number node.kids)) (λ on.
      (d.reduced.nodes n node ni).varied (slice_index node.kids 0) (λ c low.
      built.apart (slice_index node.kids c) (slice_index node.kids 0)
      (reaches_child s root n node c there ni low)
      (reaches_child s root n node 0 there ni (omega arith)) (some c low) (some 0 (omega arith))
      (all_one node.kids on c low))))
    where
      rest_one : (k : ℕ) (xs : List ℕ) → list_all (λ j. eqb j k) (map number xs) ≡ true → (c : ℕ)
          → c < length xs → number (slice_index xs c) ≡ k
      rest_one k [] h c low = absurd (omega arith)
      rest_one k (x ∷ xs) h zero low =
          eqb-true (number x) k
          (and_parts (eqb (number x) k) (list_all (λ j. eqb j k) (map number xs)) h).0
      rest_one k (x ∷ xs) h (suc c) low =
          rest_one k xs (and_parts (eqb (number x) k) (list_all (λ j. eqb j k) (map number xs)) h).1
          c (omega arith)

      all_one : (xs : List ℕ) → are_same (map number xs) ≡ true → (c : ℕ) → c < length xs
          → number (slice_index xs c) ≡ number (slice_index xs 0)
      all_one [] h c low = absurd (omega arith)
      all_one (x ∷ xs) h zero low = refl
      all_one (x ∷ xs) h (suc c) low = rest_one (number x) xs h c (omega arith)

  pub built_varies : list_all varies g ≡ true
  built_varies =
      each_vertex varies g (λ k v is.
      ⊎_elim
      (λ first. ap varies
      (got_one 0 v (Begin (number root)) (ap (slice_get g) (sym first) ∙ is) built.begin))
      (λ node. not_all_same node.0 v node.1
      (stands node.0 v node.1 node.2 (ap (slice_get g) (sym node.3) ∙ is)))
      (built.only k v is))

  pub built_reduced : is_reduced g ≡ true
  built_reduced =
      and_from (are_distinct (map key_of g)) (list_all varies g) (distinct_keys g built_once_each)
      built_varies

  -- ---- the graph fits the machine
  test_fits : (n var : ℕ) (kids : List ℕ) → Stands n (Test var kids)
      → (var < length m.vars) × (length kids ≡ slice_index m.vars var)
  test_fits n var kids (ends one is) = cc
  test_fits n var kids (assigns node y c ni var_is low some only e) = cc
  test_fits n var kids (tests node ni low e some) =
      let same_var : var ≡ node.var = cc in
      let same_kids : kids ≡ map number node.kids = cc in
      let long = (d.reduced.nodes n node ni).kids in
      let size : slice_index s.sizes node.var ≡ slice_index m.vars node.var =
      ap (λ (xs : List ℕ). slice_index xs node.var) d.sizes
      ∙ index_append m.vars m.results node.var low in
      rw same_var (
        low,
        ap (λ (xs : List ℕ). length xs) same_kids ∙ length_map number node.kids ∙ long
            ∙ size,
      )

  assign_fits : (n result code next : ℕ) → Stands n (Assign result code next)
      → result < length m.results
  assign_fits n result code next (ends one is) = cc
  assign_fits n result code next (tests node ni low e some) = cc
  assign_fits n result code next (assigns node y c ni var_is low some only e) =
      let same : result ≡ y = cc in
      let inside = (d.reduced.nodes n node ni).var in
      let long = vars_long in
      omega arith

  code_fits : (n result code next : ℕ) → Stands n (Assign result code next)
      → code < slice_index m.results result
  code_fits n result code next (ends one is) = cc
  code_fits n result code next (tests node ni low e some) = cc
  code_fits n result code next (assigns node y c ni var_is low some only e) =
      let same : result ≡ y = cc in
      let given : code ≡ c = cc in
      let long = (d.reduced.nodes n node ni).kids in
      let off : node.var - length m.vars ≡ result = omega (arith, var_is, same) in
      let size : slice_index s.sizes node.var ≡ slice_index m.results result =
      ap (λ (xs : List ℕ). slice_index xs node.var) d.sizes
      ∙ index_after m.vars m.results node.var (omega (arith, var_is))
      ∙ ap (slice_index m.results) off in
      omega (arith, given, low, long, size)

  pub built_fits : FitsMachine m g
  built_fits = record {
    tests = λ k var kids is.
        ⊎_elim
        (λ first. absurd (let e : Test var kids
        ≡ Begin (number root) =
        got_one 0 (Test var kids) (Begin (number root)) (ap (slice_get g) (sym first) ∙ is)
        built.begin in cc))
        (λ node. test_fits node.0 var kids
        (stands node.0 (Test var kids) node.1 node.2 (ap (slice_get g) (sym node.3) ∙ is)))
        (built.only k (Test var kids) is);
    assigns = λ k result code next is.
        ⊎_elim
        (λ first. absurd (let e : Assign result code next
        ≡ Begin (number root) =
        got_one 0 (Assign result code next) (Begin (number root))
        (ap (slice_get g) (sym first) ∙ is) built.begin in cc))
        (λ node. assign_fits node.0 result code next
        (stands node.0 (Assign result code next) node.1 node.2
        (ap (slice_get g) (sym node.3) ∙ is)))
        (built.only k (Assign result code next) is);
    codes = λ k result code next is.
        ⊎_elim
        (λ first. absurd (let e : Assign result code next
        ≡ Begin (number root) =
        got_one 0 (Assign result code next) (Begin (number root))
        (ap (slice_get g) (sym first) ∙ is) built.begin in cc))
        (λ node. code_fits node.0 result code next
        (stands node.0 (Assign result code next) node.1 node.2
        (ap (slice_get g) (sym node.3) ∙ is)))
        (built.only k (Assign result code next) is);
  }
