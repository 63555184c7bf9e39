-- A node that is reached by the codes of a prefix, and its children.
use Rattle.std.proofs.Common.{◌≡◌, ◌≢◌, ◌⊎◌, inl, inr, ⊎_elim, ℕ, zero, suc, ◌+◌, ◌<◌, ◌≤◌, true, List, [], ◌∷◌, ◌++◌, length, take, drop, replicate, slice_index, slice_set, Some, refl, ap, sym, ◌∙◌, arith, eqb, get_or-set_same, get_or-set_other, get_or-drop, get_or-take, length-set, length-take, length-drop}
use Rattle.std.proofs.lemmas.Bool.{cases_eq, eq-eqb}
use Rattle.std.proofs.lemmas.List.{take-append-drop}
use Rattle.domains.specs.Tables.{fits}
use Rattle.domains.specs.Orders.{place}
use Rattle.decision_diagram.specs.Diagrams.{Diagrams, Node, inner_at, step, follow, level_of, IsNode, value_of, AreReduced}
use Rattle.decision_diagram.specs.Leading.{led, TrueSomewhere, Decided}
use Rattle.decision_diagram.proofs.Fits.{fits_at}
use Rattle.decision_diagram.proofs.Nodes.{none_low, cases_inner, inner_within}
use Rattle.domains.proofs.Places.{place_of_item}
use Rattle.decision_diagram.proofs.Values.{level_some, level_below, skip, value_none, value_inner, follow_codes}
use Rattle.domains.proofs.Ranks.{length_fits, fits_zeros}
use Rattle.domains.proofs.FittingCodes.{fits_set_any}

-- ---- a node that isn't False is true somewhere
pub some_or_all : (kids : List ℕ) (z : ℕ)
    → ((k : ℕ) × (k < length kids) × (slice_index kids k ≢ z))
    ⊎ ((k : ℕ) → k < length kids → slice_index kids k ≡ z)
some_or_all [] z = inr (λ k low. absurd (omega arith))
some_or_all (kid ∷ kids) z =
    ⊎_elim
    (λ same.
    ⊎_elim
    (λ some. inl (suc (some.0), omega (arith, some.1), some.2))
    (λ all. inr (more same all))
    (some_or_all kids z))
    (λ other. inl (0, omega arith, other))
    (cases_eq kid z)
  where
    more : kid ≡ z → ((k : ℕ) → k < length kids → slice_index kids k ≡ z) → (k : ℕ)
        → k < length (kid ∷ kids) → slice_index (kid ∷ kids) k ≡ z
    more same all zero low = same
    more same all (suc k) low = all k (omega arith)

-- some child isn't False
pub some_kid : (s : Diagrams) → AreReduced s → (n : ℕ) (node : Node)
    → inner_at s.nodes n ≡ Some node → (c : ℕ) × (c < length node.kids)
    × (slice_index node.kids c ≢ 0)
some_kid s ok n node is =
    ⊎_elim (λ some. some) (λ all. absurd ((ok.nodes n node is).varied 0 all))
    (some_or_all node.kids 0)

-- a variable before the node's own doesn't matter
pub value_apart : (s : Diagrams) → AreReduced s → (n i : ℕ) (one other : List ℕ) → i ≤ level_of s n
    → ((j : ℕ) → i ≤ j → j < length s.order
    → slice_index one (slice_index s.order j) ≡ slice_index other (slice_index s.order j))
    → value_of s n one ≡ value_of s n other
value_apart s ok n i one other h same =
    ap (λ (m : ℕ). eqb m 1)
    (skip s ok one n i h
    ∙ follow_codes s.nodes (drop i s.order) one other n (λ j low.
    let e = get_or-drop i s.order j 0 in
    let inside : i + j < length s.order = omega (arith, length-drop i s.order) in
    ap (slice_index one) e ∙ same (i + j) (omega arith) inside ∙ sym (ap (slice_index other) e))
    ∙ sym (skip s ok other n i h))

true_inner : (s : Diagrams) → AreReduced s → (n : ℕ) (node : Node) → inner_at s.nodes n ≡ Some node
    → ((k : ℕ) → k < n → IsNode s k → k ≢ 0 → TrueSomewhere s k) → TrueSomewhere s n
true_inner s ok n node is earlier =
    let good = ok.nodes n node is in
    let var : node.var < length s.sizes = good.var in
    let kids : length node.kids ≡ slice_index s.sizes node.var = good.kids in
    let lengths : length s.order ≡ length s.sizes = ok.lengths in
    let kid = some_kid s ok n node is in
    let c = kid.0 in
    let low : c < length node.kids = kid.1 in
    let before : slice_index node.kids c < n = good.before c low in
    let within : (2 ≤ n) × (n < length s.nodes + 2) = inner_within s.nodes n node is in
    let inside : n < length s.nodes + 2 = within.1 in
    let deep = earlier (slice_index node.kids c) before (omega arith) kid.2 in
    let codes = deep.0 in
    let long = length_fits s.sizes codes deep.1 in
    let set : List ℕ = slice_set codes node.var c in
    let own : slice_index set node.var ≡ c = get_or-set_same codes node.var c 0 (omega arith) in
    let later : place s.order node.var < level_of s (slice_index node.kids c) =
    good.later c low in (
      set,
      fits_set_any s.sizes codes deep.1 node.var c (omega arith),
      value_inner s ok n node set is (omega arith)
          ∙ ap (λ (k : ℕ). value_of s (slice_index node.kids k) set) own
          ∙ value_apart s ok (slice_index node.kids c) (place s.order node.var + 1) set codes
          (omega arith) (λ j from inside.
          get_or-set_other codes node.var (slice_index s.order j) c 0 (λ same.
          let f = ap (place s.order) same in
          let g = place_of_item s.order ok.order j inside in
          absurd (omega arith)))
          ∙ deep.2,
    )

true_below : (s : Diagrams) → AreReduced s → (bound n : ℕ) → n < bound → IsNode s n → n ≢ 0
    → TrueSomewhere s n
true_below s ok zero n less in_n some = absurd (omega arith)
true_below s ok (suc bound) n less in_n some =
    ⊎_elim
    (λ none.
    let low = none_low s.nodes n in_n none in
    let e : n ≡ 1 = ⊎_elim (λ z. absurd (some z)) (λ nz. omega arith) (cases_eq n 0) in (
      replicate (length s.sizes) 0,
      fits_zeros s.sizes ok.sizes,
      value_none s n (replicate (length s.sizes) 0) none ∙ eq-eqb n 1 e,
    ))
    (λ inner. true_inner s ok n inner.0 inner.1
    (λ k below in_k some_k. true_below s ok bound k (omega arith) in_k some_k))
    (cases_inner s.nodes n)

pub true_somewhere : (s : Diagrams) → AreReduced s → (n : ℕ) → IsNode s n → n ≢ 0
    → TrueSomewhere s n
true_somewhere s ok n in_n some = true_below s ok (suc n) n (omega arith) in_n some

-- ---- codes that agree with others on a prefix
pub put_all : List ℕ → List ℕ → List ℕ → List ℕ
put_all [] a b = b
put_all (v ∷ vs) a b = slice_set (put_all vs a b) v (slice_index a v)

pub put_long : (vs a b : List ℕ) → length (put_all vs a b) ≡ length b
unfolding put_all
put_long [] a b = refl
put_long (v ∷ vs) a b = length-set (put_all vs a b) v (slice_index a v) ∙ put_long vs a b

pub put_out : (vs a b : List ℕ) (v : ℕ) → ((j : ℕ) → j < length vs → slice_index vs j ≢ v)
    → slice_index (put_all vs a b) v ≡ slice_index b v
unfolding put_all
put_out [] a b v out = refl
put_out (w ∷ vs) a b v out =
    get_or-set_other (put_all vs a b) w v (slice_index a w) 0
    (λ same. out 0 (omega arith) (sym same)) ∙ put_out vs a b v (λ j low. out (suc j) (omega arith))

pub put_in : (vs a b : List ℕ) (j : ℕ) → j < length vs → slice_index vs j < length b
    → slice_index (put_all vs a b) (slice_index vs j) ≡ slice_index a (slice_index vs j)
unfolding put_all
put_in [] a b j low inside = absurd (omega arith)
put_in (w ∷ vs) a b zero low inside = let l = put_long vs a b in
    get_or-set_same (put_all vs a b) w (slice_index a w) 0 (omega arith)
put_in (w ∷ vs) a b (suc j) low inside =
    let l = put_long vs a b in
    ⊎_elim
    (λ same. rw same
    (get_or-set_same (put_all vs a b) w (slice_index a w) 0
    (let e : slice_index vs j < length b = inside in omega arith)))
    (λ other. get_or-set_other (put_all vs a b) w (slice_index vs j) (slice_index a w) 0 other
    ∙ put_in vs a b j (omega arith) inside)
    (cases_eq (slice_index vs j) w)

pub put_fits : (sizes vs a b : List ℕ) → ((j : ℕ) → j < length vs → slice_index vs j < length sizes)
    → fits sizes a ≡ true → fits sizes b ≡ true → fits sizes (put_all vs a b) ≡ true
unfolding put_all
put_fits sizes [] a b inside fit_a fit_b = fit_b
put_fits sizes (v ∷ vs) a b inside fit_a fit_b =
    fits_set_any sizes (put_all vs a b)
    (put_fits sizes vs a b (λ j low. inside (suc j) (omega arith)) fit_a fit_b) v (slice_index a v)
    (fits_at sizes a fit_a v (inside 0 (omega arith)))

-- ---- reading a prefix
pub follow_append : (nodes : List Node) (xs ys codes : List ℕ) (n : ℕ)
    → follow nodes (xs ++ ys) codes n ≡ follow nodes ys codes (follow nodes xs codes n)
follow_append nodes [] ys codes n = refl
follow_append nodes (x ∷ xs) ys codes n =
    follow_append nodes xs ys codes (step (inner_at nodes n) x (slice_index codes x) n)

pub led_value : (s : Diagrams) → AreReduced s → (i n : ℕ) (codes : List ℕ)
    → i ≤ level_of s (led s i codes n) → value_of s n codes ≡ value_of s (led s i codes n) codes
led_value s ok i n codes h =
    ap (λ (m : ℕ). eqb m 1)
    (ap (λ (vars : List ℕ). follow s.nodes vars codes n) (sym (take-append-drop i s.order))
    ∙ follow_append s.nodes (take i s.order) (drop i s.order) codes n
    ∙ sym (skip s ok codes (led s i codes n) i h))

pub led_codes : (s : Diagrams) (i n : ℕ) (one other : List ℕ) → i ≤ length s.order
    → ((j : ℕ) → j < i → slice_index one (slice_index s.order j)
    ≡ slice_index other (slice_index s.order j)) → led s i one n ≡ led s i other n
led_codes s i n one other h same =
    follow_codes s.nodes (take i s.order) one other n (λ j low.
    let inside : j < i = omega (arith, length-take i s.order) in
    let e : slice_index (take i s.order) j ≡ slice_index s.order j =
    get_or-take i s.order j 0 inside in
    ap (slice_index one) e ∙ same j inside ∙ sym (ap (slice_index other) e))

-- ---- the codes of a prefix, then one of the node's own variable, then those of others
pub mixed : Diagrams → ℕ → ℕ → ℕ → List ℕ → List ℕ → List ℕ
mixed s i w c a b = put_all (take i s.order) a (slice_set b w c)

pub prefix_item : (s : Diagrams) (i j : ℕ) → j < i
    → slice_index (take i s.order) j ≡ slice_index s.order j
prefix_item s i j low = get_or-take i s.order j 0 low

pub mixed_fits : (s : Diagrams) → AreReduced s → (i w c : ℕ) (a b : List ℕ) → i ≤ length s.order
    → c < slice_index s.sizes w → fits s.sizes a ≡ true → fits s.sizes b ≡ true
    → fits s.sizes (mixed s i w c a b) ≡ true
unfolding mixed
mixed_fits s ok i w c a b h low fit_a fit_b =
    put_fits s.sizes (take i s.order) a (slice_set b w c) (λ j less.
    let lengths : length s.order ≡ length s.sizes = ok.lengths in
    let inside : j < i = omega (arith, length-take i s.order) in
    let e = prefix_item s i j inside in
    let below = ok.order.below j (omega arith) in
    omega arith) fit_a (fits_set_any s.sizes b fit_b w c low)

pub mixed_prefix : (s : Diagrams) → AreReduced s → (i w c : ℕ) (a b : List ℕ) → i ≤ length s.order
    → fits s.sizes b ≡ true → (j : ℕ) → j < i
    → slice_index (mixed s i w c a b) (slice_index s.order j)
    ≡ slice_index a (slice_index s.order j)
unfolding mixed
mixed_prefix s ok i w c a b h fit_b j low =
    let lengths : length s.order ≡ length s.sizes = ok.lengths in
    let long = length_fits s.sizes b fit_b in
    let long_too = length-set b w c in
    let e = prefix_item s i j low in
    let below = ok.order.below j (omega arith) in
    rw (← e) (put_in (take i s.order) a (slice_set b w c) j (omega (arith, length-take i s.order))
    (omega arith))

pub mixed_own : (s : Diagrams) → AreReduced s → (i w c : ℕ) (a b : List ℕ) → i ≤ place s.order w
    → w < length s.sizes → fits s.sizes b ≡ true → slice_index (mixed s i w c a b) w ≡ c
unfolding mixed
mixed_own s ok i w c a b h low fit_b =
    let long = length_fits s.sizes b fit_b in
    put_out (take i s.order) a (slice_set b w c) w (λ j less same.
    let inside : (j < i) × (j < length s.order) =
    (omega (arith, length-take i s.order), omega (arith, length-take i s.order)) in
    let e = prefix_item s i j inside.0 in
    let f = place_of_item s.order ok.order j inside.1 in
    let g = ap (place s.order) (sym e ∙ same) in
    let k : j < i = inside.0 in
    absurd (omega arith))
    ∙ get_or-set_same b w c 0 (omega arith)

pub mixed_after : (s : Diagrams) → AreReduced s → (i w c : ℕ) (a b : List ℕ) → (j : ℕ) → i ≤ j
    → j < length s.order → slice_index s.order j ≢ w
    → slice_index (mixed s i w c a b) (slice_index s.order j)
    ≡ slice_index b (slice_index s.order j)
unfolding mixed
mixed_after s ok i w c a b j from inside other =
    put_out (take i s.order) a (slice_set b w c) (slice_index s.order j) (λ k less same.
    let low : k < i = omega (arith, length-take i s.order) in
    let e = prefix_item s i k low in
    ok.order.distinct k j (omega arith) inside (sym e ∙ same))
    ∙ get_or-set_other b w (slice_index s.order j) c 0 other

-- the root has there the value that the node's child has on the others
pub mixed_value : (s : Diagrams) → AreReduced s → (root n : ℕ) (node : Node)
    → inner_at s.nodes n ≡ Some node → (c : ℕ) → c < length node.kids → (a b : List ℕ)
    → fits s.sizes a ≡ true → fits s.sizes b ≡ true → led s (level_of s n) a root ≡ n
    → value_of s root (mixed s (level_of s n) node.var c a b)
    ≡ value_of s (slice_index node.kids c) b
mixed_value s ok root n node is c low a b fit_a fit_b reach =
    let i = level_of s n in
    let mix : List ℕ = mixed s i node.var c a b in
    let good = ok.nodes n node is in
    let var : node.var < length s.sizes = good.var in
    let lengths : length s.order ≡ length s.sizes = ok.lengths in
    let below : i < length s.order = level_below s ok n node is in
    let own_level : i ≡ place s.order node.var = level_some s n node is in
    let later : place s.order node.var < level_of s (slice_index node.kids c) = good.later c low in
    let there : led s i mix root ≡ n =
    led_codes s i root mix a (omega arith)
    (λ j less. mixed_prefix s ok i node.var c a b (omega arith) fit_b j less) ∙ reach in
    let own : slice_index mix node.var ≡ c =
    mixed_own s ok i node.var c a b (omega arith) var fit_b in
    led_value s ok i root mix (rw there (omega arith))
    ∙ ap (λ (m : ℕ). value_of s m mix) there
    ∙ value_inner s ok n node mix is (omega arith)
    ∙ ap (λ (k : ℕ). value_of s (slice_index node.kids k) mix) own
    ∙ value_apart s ok (slice_index node.kids c) (i + 1) mix b (omega arith) (λ j from inside.
    mixed_after s ok i node.var c a b j (omega arith) inside (λ same.
    let f = ap (place s.order) same in
    let g = place_of_item s.order ok.order j inside in
    absurd (omega arith)))

-- at most one child isn't False
pub one_kid : (s : Diagrams) → AreReduced s → (root n : ℕ) (node : Node)
    → inner_at s.nodes n ≡ Some node → (a : List ℕ) → fits s.sizes a ≡ true
    → led s (level_of s n) a root ≡ n → Decided s root node.var → (c d : ℕ) → c < length node.kids
    → d < length node.kids → slice_index node.kids c ≢ 0 → slice_index node.kids d ≢ 0 → c ≡ d
one_kid s ok root n node is a fit reach decided c d low_c low_d some_c some_d =
    let i = level_of s n in
    let good = ok.nodes n node is in
    let var : node.var < length s.sizes = good.var in
    let kids : length node.kids ≡ slice_index s.sizes node.var = good.kids in
    let before_c : slice_index node.kids c < n = good.before c low_c in
    let before_d : slice_index node.kids d < n = good.before d low_d in
    let within : (2 ≤ n) × (n < length s.nodes + 2) = inner_within s.nodes n node is in
    let inside : n < length s.nodes + 2 = within.1 in
    let below : i < length s.order = level_below s ok n node is in
    let own_level : i ≡ place s.order node.var = level_some s n node is in
    let at_c = true_somewhere s ok (slice_index node.kids c) (omega arith) some_c in
    let at_d = true_somewhere s ok (slice_index node.kids d) (omega arith) some_d in
    let mix_c : List ℕ = mixed s i node.var c a at_c.0 in
    let mix_d : List ℕ = mixed s i node.var d a at_d.0 in
    sym (mixed_own s ok i node.var c a at_c.0 (omega arith) var at_c.1)
    ∙ decided mix_c mix_d
    (mixed_fits s ok i node.var c a at_c.0 (omega arith) (omega arith) fit at_c.1)
    (mixed_fits s ok i node.var d a at_d.0 (omega arith) (omega arith) fit at_d.1)
    (mixed_value s ok root n node is c low_c a at_c.0 fit at_c.1 reach ∙ at_c.2)
    (mixed_value s ok root n node is d low_d a at_d.0 fit at_d.1 reach ∙ at_d.2)
    (λ j less. mixed_prefix s ok i node.var c a at_c.0 (omega arith) at_c.1 j (omega arith)
    ∙ sym (mixed_prefix s ok i node.var d a at_d.0 (omega arith) at_d.1 j (omega arith)))
    ∙ mixed_own s ok i node.var d a at_d.0 (omega arith) var at_d.1
