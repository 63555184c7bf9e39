-- The nodes that codes lead to, from the root on.
use Rattle.std.proofs.Common.{◌≡◌, ℕ, zero, suc, ◌+◌, ◌-◌, ◌<◌, ◌≤◌, List, [], ◌∷◌, ◌++◌, length, take, slice_index, Some, refl, ap, ◌∙◌, arith}
use Rattle.std.proofs.lemmas.List.{take_more}
use Rattle.domains.specs.Orders.{place}
use Rattle.decision_diagram.specs.Diagrams.{Diagrams, Node, inner_at, step, follow, level_of, AreReduced}
use Rattle.decision_diagram.proofs.Nodes.{step_here}
use Rattle.decision_diagram.proofs.Values.{level_some, level_below, level_within, item_at_level, step_before}
use Rattle.decision_diagram.specs.Leading.{led, LeadTo}

-- one more variable
pub led_more : (s : Diagrams) (i n : ℕ) (codes : List ℕ) → i < length s.order
    → led s (i + 1) codes n ≡ step (inner_at s.nodes (led s i codes n)) (slice_index s.order i)
    (slice_index codes (slice_index s.order i)) (led s i codes n)
led_more s i n codes h =
    ap (λ (vars : List ℕ). follow s.nodes vars codes n) (take_more s.order i 0 h)
    ∙ append s.nodes (take i s.order) n
  where
    append : (nodes : List Node) (xs : List ℕ) (n : ℕ)
        → follow nodes (xs ++ slice_index s.order i ∷ []) codes n
        ≡ step (inner_at nodes (follow nodes xs codes n)) (slice_index s.order i)
        (slice_index codes (slice_index s.order i)) (follow nodes xs codes n)
    append nodes [] n = refl
    append nodes (x ∷ xs) n = append nodes xs (step (inner_at nodes n) x (slice_index codes x) n)

-- the variables up to the node's own lead on to it
pub stays : (s : Diagrams) → AreReduced s → (root n : ℕ) (codes : List ℕ) (i more : ℕ)
    → led s i codes root ≡ n → i + more ≤ level_of s n → led s (i + more) codes root ≡ n
stays s ok root n codes i zero at h = let e : i + 0 ≡ i = omega arith in rw e at
stays s ok root n codes i (suc more) at h =
    let e : i + suc more ≡ i + more + 1 = omega arith in
    let w = level_within s ok n in
    let before = stays s ok root n codes i more at (omega arith) in
    rw e
    (led_more s (i + more) root codes (omega arith)
    ∙ ap (λ (m : ℕ). step (inner_at s.nodes m) (slice_index s.order (i + more))
    (slice_index codes (slice_index s.order (i + more))) m) before
    ∙ step_before s ok n (i + more) (slice_index codes (slice_index s.order (i + more)))
    (omega arith))

pub lead_root : (s : Diagrams) → AreReduced s → (root : ℕ) (codes : List ℕ)
    → LeadTo s root codes root
lead_root s ok root codes =
    let e : 0 + level_of s root ≡ level_of s root = omega arith in
    rw e at (stays s ok root root codes 0 (level_of s root) refl (omega arith))

-- and on to the child at the code of its variable
pub lead_kid : (s : Diagrams) → AreReduced s → (root n : ℕ) (node : Node) (codes : List ℕ)
    → inner_at s.nodes n ≡ Some node → LeadTo s root codes n
    → slice_index codes node.var < length node.kids
    → LeadTo s root codes (slice_index node.kids (slice_index codes node.var))
lead_kid s ok root n node codes is at low =
    let i = level_of s n in
    let kid = slice_index node.kids (slice_index codes node.var) in
    let below : i < length s.order = level_below s ok n node is in
    let var : slice_index s.order i ≡ node.var = item_at_level s ok n node is in
    let own : i ≡ place s.order node.var = level_some s n node is in
    let later : place s.order node.var < level_of s kid =
    (ok.nodes n node is).later (slice_index codes node.var) low in
    let next : led s (i + 1) codes root ≡ kid =
    led_more s i root codes below
    ∙ ap (λ (m : ℕ). step (inner_at s.nodes m) (slice_index s.order i)
    (slice_index codes (slice_index s.order i)) m) at
    ∙ ap (λ (v : ℕ). step (inner_at s.nodes n) v (slice_index codes v) n) var
    ∙ step_here (inner_at s.nodes n) node node.var (slice_index codes node.var) n is refl
    in
    let more : ℕ = level_of s kid - (i + 1) in
    let e : i + 1 + more ≡ level_of s kid = omega arith in
    rw e at (stays s ok root kid codes (i + 1) more next (omega arith))
