-- Inner nodes by their numbers, and what reading a variable does.
use Rattle.std.proofs.Common.{◌≡◌, ◌≢◌, ◌⊎◌, inl, inr, ⊎_elim, ℕ, zero, suc, ◌+◌, ◌-◌, ◌<◌, ◌≤◌, eqb, ltb, List, [], ◌∷◌, ◌++◌, length, slice_get, slice_index, Option, Some, None, refl, sym, ap, ◌∙◌, arith}
use Rattle.std.proofs.lemmas.Bool.{cases_lt, lt-ltb, le-ltb, eq-eqb, ne_eqb, cond-true, cond-false}
use Rattle.decision_diagram.specs.Diagrams.{Node, inner_at, step}

pub get_prefix : (nodes more : List Node) (k : ℕ) → k < length nodes
    → slice_get (nodes ++ more) k ≡ slice_get nodes k
get_prefix [] more k h = absurd (omega arith)
get_prefix (x ∷ xs) more zero h = refl
get_prefix (x ∷ xs) more (suc k) h = get_prefix xs more k (omega arith)

pub get_last : (nodes : List Node) (node : Node)
    → slice_get (nodes ++ node ∷ []) (length nodes) ≡ Some node
get_last [] node = refl
get_last (x ∷ xs) node = get_last xs node

pub get_past : (nodes : List Node) (k : ℕ) → length nodes ≤ k → slice_get nodes k ≡ None
get_past [] k h = refl
get_past (x ∷ xs) zero h = absurd (omega arith)
get_past (x ∷ xs) (suc k) h = get_past xs k (omega arith)

pub low : (nodes : List Node) (n : ℕ) → n < 2 → inner_at nodes n ≡ None
low nodes n h = cond-true (ltb n 2) None (slice_get nodes (n - 2)) (lt-ltb n 2 h)

-- the other numbers are those of inner nodes
pub inner_high : (nodes : List Node) (n : ℕ) → 2 ≤ n → inner_at nodes n ≡ slice_get nodes (n - 2)
inner_high nodes n h = cond-false (ltb n 2) None (slice_get nodes (n - 2)) (le-ltb n 2 h)

-- False and True are no inner nodes
pub inner_low : (nodes : List Node) (n : ℕ) → n < 2 → inner_at nodes n ≡ None
inner_low nodes n h = low nodes n h

-- earlier nodes stay when more are added
pub inner_prefix : (nodes more : List Node) (n : ℕ) → n < length nodes + 2
    → inner_at (nodes ++ more) n ≡ inner_at nodes n
inner_prefix nodes more n h =
    ⊎_elim
    (λ small. low (nodes ++ more) n small ∙ sym (low nodes n small))
    (λ large. inner_high (nodes ++ more) n large ∙ get_prefix nodes more (n - 2) (omega arith)
    ∙ sym (inner_high nodes n large))
    (cases_lt n 2)

-- the newest node
pub inner_last : (nodes : List Node) (node : Node) (n : ℕ) → n ≡ length nodes + 2
    → inner_at (nodes ++ node ∷ []) n ≡ Some node
inner_last nodes node n is =
    let e : n - 2 ≡ length nodes = omega arith in
    inner_high (nodes ++ node ∷ []) n (omega arith) ∙ ap (slice_get (nodes ++ node ∷ [])) e
    ∙ get_last nodes node

pub inner_past : (nodes : List Node) (n : ℕ) → length nodes + 2 ≤ n → inner_at nodes n ≡ None
inner_past nodes n h = inner_high nodes n (omega arith) ∙ get_past nodes (n - 2) (omega arith)

-- an inner node has its number after True's and below the number of all
pub inner_within : (nodes : List Node) (n : ℕ) (node : Node) → inner_at nodes n ≡ Some node
    → (2 ≤ n) × (n < length nodes + 2)
inner_within nodes n node is =
    ⊎_elim
    (λ small. let none = low nodes n small in
    absurd (let e : None ≡ Some node = sym none ∙ is in cc))
    (λ large.
    ⊎_elim
    (λ inside. (large, inside))
    (λ past. absurd (let e : None ≡ Some node = sym (inner_past nodes n past) ∙ is in cc))
    (cases_lt n (length nodes + 2)))
    (cases_lt n 2)

pub cases_Option : (o : Option Node) → (o ≡ None) ⊎ ((node : Node) × (o ≡ Some node))
cases_Option None = inl refl
cases_Option (Some node) = inr (node, refl)

pub cases_inner : (nodes : List Node) (n : ℕ)
    → (inner_at nodes n ≡ None) ⊎ ((node : Node) × (inner_at nodes n ≡ Some node))
cases_inner nodes n = cases_Option (inner_at nodes n)

pub some_there : (nodes : List Node) (k : ℕ) → k < length nodes
    → (node : Node) × (slice_get nodes k ≡ Some node)
some_there [] k h = absurd (omega arith)
some_there (x ∷ xs) zero h = (x, refl)
some_there (x ∷ xs) (suc k) h = some_there xs k (omega arith)

-- a node that is no inner node is False or True
pub none_low : (nodes : List Node) (n : ℕ) → n < length nodes + 2 → inner_at nodes n ≡ None → n < 2
none_low nodes n h none =
    ⊎_elim
    (λ small. small)
    (λ large. let w = some_there nodes (n - 2) (omega arith) in
    absurd (let e : None ≡ Some w.0 = sym none ∙ inner_high nodes n large ∙ w.1 in cc))
    (cases_lt n 2)

-- ---- reading one variable
pub step_none : (o : Option Node) (var code n : ℕ) → o ≡ None → step o var code n ≡ n
step_none o var code n is = ap (λ (p : Option Node). step p var code n) is

pub step_here : (o : Option Node) (node : Node) (var code n : ℕ) → o ≡ Some node → node.var ≡ var
    → step o var code n ≡ slice_index node.kids code
step_here o node var code n is here =
    ap (λ (p : Option Node). step p var code n) is
    ∙ cond-true (eqb node.var var) (slice_index node.kids code) n (eq-eqb node.var var here)

pub step_other : (o : Option Node) (node : Node) (var code n : ℕ) → o ≡ Some node → node.var ≢ var
    → step o var code n ≡ n
step_other o node var code n is other =
    ap (λ (p : Option Node). step p var code n) is
    ∙ cond-false (eqb node.var var) (slice_index node.kids code) n (ne_eqb node.var var other)
