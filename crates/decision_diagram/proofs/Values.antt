-- Values of nodes: reading the variables in order.
use Rattle.std.proofs.Common.{◌≡◌, ⊎_elim, ℕ, zero, suc, ◌+◌, ◌<◌, ◌≤◌, eqb, List, [], ◌∷◌, ◌++◌, length, drop, slice_index, Option, Some, None, refl, sym, ap, ◌∙◌, arith}
use Rattle.std.proofs.lemmas.Bool.{cases_lt, cases_eq}
use Rattle.std.proofs.lemmas.List.{get_or_past, drop_more}
use Rattle.domains.specs.Orders.{place}
use Rattle.decision_diagram.specs.Diagrams.{Diagrams, Node, inner_at, step, follow, level_in, level_of, value_of, AreReduced}
use Rattle.domains.proofs.Places.{place_of_item, place_below, at_place}
use Rattle.decision_diagram.proofs.Nodes.{inner_prefix, inner_within, cases_inner, step_none, step_here, step_other}

-- ---- levels
pub level_none : (s : Diagrams) (n : ℕ) → inner_at s.nodes n ≡ None → level_of s n ≡ length s.order
level_none s n is = ap (level_in s.order) is

pub level_some : (s : Diagrams) (n : ℕ) (node : Node) → inner_at s.nodes n ≡ Some node
    → level_of s n ≡ place s.order node.var
level_some s n node is = ap (level_in s.order) is

pub level_below : (s : Diagrams) → AreReduced s → (n : ℕ) (node : Node)
    → inner_at s.nodes n ≡ Some node → level_of s n < length s.order
level_below s ok n node is =
    let e = level_some s n node is in
    let v = (ok.nodes n node is).var in
    let l = ok.lengths in
    let b = place_below s.order ok.order node.var (omega arith) in
    omega arith

pub level_within : (s : Diagrams) → AreReduced s → (n : ℕ) → level_of s n ≤ length s.order
level_within s ok n =
    ⊎_elim
    (λ none. let e = level_none s n none in omega arith)
    (λ some. let b = level_below s ok n some.0 some.1 in omega arith)
    (cases_inner s.nodes n)

-- the variable at an inner node's level
pub item_at_level : (s : Diagrams) → AreReduced s → (n : ℕ) (node : Node)
    → inner_at s.nodes n ≡ Some node → slice_index s.order (level_of s n) ≡ node.var
item_at_level s ok n node is =
    let e = level_some s n node is in
    let b = level_below s ok n node is in
    rw e (at_place s.order node.var (omega arith))

-- ---- reading variables
pub follow_none : (nodes : List Node) (vars codes : List ℕ) (n : ℕ) → inner_at nodes n ≡ None
    → follow nodes vars codes n ≡ n
follow_none nodes [] codes n is = refl
follow_none nodes (var ∷ vars) codes n is =
    let e = step_none (inner_at nodes n) var (slice_index codes var) n is in
    ap (follow nodes vars codes) e ∙ follow_none nodes vars codes n is

-- one variable of the order
pub follow_one : (nodes : List Node) (order codes : List ℕ) (n i : ℕ) → i < length order
    → follow nodes (drop i order) codes n
    ≡ follow nodes (drop (i + 1) order) codes
    (step (inner_at nodes n) (slice_index order i) (slice_index codes (slice_index order i)) n)
follow_one nodes order codes n i h =
    ap (λ (vars : List ℕ). follow nodes vars codes n) (drop_more order i 0 h)

-- a variable before the node's own is passed over
pub step_before : (s : Diagrams) → AreReduced s → (n i code : ℕ) → i < level_of s n
    → step (inner_at s.nodes n) (slice_index s.order i) code n ≡ n
step_before s ok n i code h =
    ⊎_elim
    (λ none. step_none (inner_at s.nodes n) (slice_index s.order i) code n none)
    (λ some.
    let node = some.0 in
    let l = level_some s n node some.1 in
    let b = level_below s ok n node some.1 in
    let p = place_of_item s.order ok.order i (omega arith) in
    step_other (inner_at s.nodes n) node (slice_index s.order i) code n some.1
    (λ same. let e = ap (place s.order) same in omega arith))
    (cases_inner s.nodes n)

pub follow_before : (s : Diagrams) → AreReduced s → (codes : List ℕ) (n i : ℕ) → i < level_of s n
    → follow s.nodes (drop i s.order) codes n ≡ follow s.nodes (drop (i + 1) s.order) codes n
follow_before s ok codes n i h =
    let w = level_within s ok n in
    follow_one s.nodes s.order codes n i (omega arith)
    ∙ ap (follow s.nodes (drop (i + 1) s.order) codes)
    (step_before s ok n i (slice_index codes (slice_index s.order i)) h)

-- the variables before the node's own are passed over
pub skip : (s : Diagrams) → AreReduced s → (codes : List ℕ) (n i : ℕ) → i ≤ level_of s n
    → follow s.nodes s.order codes n ≡ follow s.nodes (drop i s.order) codes n
skip s ok codes n zero h = refl
skip s ok codes n (suc i) h =
    let one : i + 1 ≡ suc i = omega arith in
    skip s ok codes n i (omega arith) ∙ follow_before s ok codes n i (omega arith)
    ∙ ap (λ (k : ℕ). follow s.nodes (drop k s.order) codes n) one

-- ---- values
pub value_none : (s : Diagrams) (n : ℕ) (codes : List ℕ) → inner_at s.nodes n ≡ None
    → value_of s n codes ≡ eqb n 1
value_none s n codes is = ap (λ (m : ℕ). eqb m 1) (follow_none s.nodes s.order codes n is)

-- an inner node has the value of the child at the code of its variable
pub value_inner : (s : Diagrams) → AreReduced s → (n : ℕ) (node : Node) (codes : List ℕ)
    → inner_at s.nodes n ≡ Some node → slice_index codes node.var < length node.kids
    → value_of s n codes ≡ value_of s (slice_index node.kids (slice_index codes node.var)) codes
value_inner s ok n node codes is h =
    let i = level_of s n in
    let kid = slice_index node.kids (slice_index codes node.var) in
    let b = level_below s ok n node is in
    let l = level_some s n node is in
    let later = (ok.nodes n node is).later (slice_index codes node.var) h in
    let var = item_at_level s ok n node is in
    let there : step (inner_at s.nodes n) (slice_index s.order i)
    (slice_index codes (slice_index s.order i)) n ≡ kid =
    step_here (inner_at s.nodes n) node (slice_index s.order i)
    (slice_index codes (slice_index s.order i)) n is (sym var)
    ∙ ap (λ (v : ℕ). slice_index node.kids (slice_index codes v)) var in
    let path : follow s.nodes s.order codes n ≡ follow s.nodes s.order codes kid =
    skip s ok codes n i (omega arith) ∙ follow_one s.nodes s.order codes n i b
    ∙ ap (follow s.nodes (drop (i + 1) s.order) codes) there
    ∙ sym (skip s ok codes kid (i + 1) (omega arith)) in
    ap (λ (m : ℕ). eqb m 1) path

-- ---- more nodes
-- a child at any code is an earlier node, or False
kid_within : (s : Diagrams) → AreReduced s → (n : ℕ) (node : Node) (code : ℕ)
    → inner_at s.nodes n ≡ Some node → slice_index node.kids code < length s.nodes + 2
kid_within s ok n node code is =
    let w = inner_within s.nodes n node is in
    ⊎_elim
    (λ inside. let b = (ok.nodes n node is).before code inside in omega arith)
    (λ past. let e = get_or_past node.kids code 0 past in omega arith)
    (cases_lt code (length node.kids))

pub step_within : (s : Diagrams) → AreReduced s → (n var code : ℕ) → n < length s.nodes + 2
    → step (inner_at s.nodes n) var code n < length s.nodes + 2
step_within s ok n var code h =
    ⊎_elim
    (λ none. let e = step_none (inner_at s.nodes n) var code n none in omega arith)
    (λ some.
    ⊎_elim
    (λ here. let e = step_here (inner_at s.nodes n) some.0 var code n some.1 here in
    let k = kid_within s ok n some.0 code some.1 in omega arith)
    (λ other. let e = step_other (inner_at s.nodes n) some.0 var code n some.1 other in omega arith)
    (cases_eq some.0.var var))
    (cases_inner s.nodes n)

-- earlier nodes are followed as before
pub follow_prefix : (s : Diagrams) → AreReduced s → (more : List Node) (vars codes : List ℕ) (n : ℕ)
    → n < length s.nodes + 2 → follow (s.nodes ++ more) vars codes n ≡ follow s.nodes vars codes n
follow_prefix s ok more [] codes n h = refl
follow_prefix s ok more (var ∷ vars) codes n h =
    let e = inner_prefix s.nodes more n h in
    let code = slice_index codes var in
    ap (λ (o : Option Node). follow (s.nodes ++ more) vars codes (step o var code n)) e
    ∙ follow_prefix s ok more vars codes (step (inner_at s.nodes n) var code n)
    (step_within s ok n var code h)

-- ---- other codes
-- only the variables that are read matter
pub follow_codes : (nodes : List Node) (vars one other : List ℕ) (n : ℕ)
    → ((j : ℕ) → j < length vars → slice_index one (slice_index vars j)
    ≡ slice_index other (slice_index vars j)) → follow nodes vars one n ≡ follow nodes vars other n
follow_codes nodes [] one other n same = refl
follow_codes nodes (var ∷ vars) one other n same =
    ap (λ (code : ℕ). follow nodes vars one (step (inner_at nodes n) var code n))
    (same 0 (omega arith))
    ∙ follow_codes nodes vars one other (step (inner_at nodes n) var (slice_index other var) n)
    (λ j h. same (suc j) (omega arith))
