-- Two nodes of equal value are one node: by induction over the order, from its end.
use Rattle.std.proofs.Common.{◌≡◌, ◌≢◌, ⊎_elim, ℕ, zero, suc, ◌+◌, ◌<◌, ◌≤◌, true, eqb, List, length, drop, replicate, slice_index, slice_set, Some, None, sym, ap, ◌∙◌, subst, arith, length-drop, get_or-set_same, get_or-set_other}
use Rattle.std.proofs.lemmas.Bool.{cases_lt, cases_eq, eqb-true, eq-eqb}
use Rattle.std.proofs.lemmas.List.{get_or-drop}
use Rattle.std.proofs.lemmas.Grind.{same_number_lists}
use Rattle.domains.specs.Tables.{fits}
use Rattle.domains.specs.Orders.{place}
use Rattle.decision_diagram.specs.Diagrams.{Diagrams, Node, inner_at, step, follow, level_of, IsNode, value_of, AreReduced}
use Rattle.decision_diagram.proofs.Fits.{size_some}
use Rattle.decision_diagram.proofs.Nodes.{none_low, cases_inner, step_here}
use Rattle.decision_diagram.proofs.Values.{level_none, level_some, level_below, item_at_level, follow_none, follow_one, follow_codes, step_before, step_within}
use Rattle.domains.proofs.Ranks.{length_fits, fits_zeros}
use Rattle.domains.proofs.FittingCodes.{fits_set_any}

-- a bound of numbers below 2 that pass one test alike
same_low : (a b : ℕ) → a < 2 → b < 2 → eqb a 1 ≡ eqb b 1 → a ≡ b
same_low a b ha hb e =
    ⊎_elim
    (λ one. let f = eqb-true b 1 (sym e ∙ eq-eqb a 1 one) in omega arith)
    (λ other.
    ⊎_elim
    (λ one. absurd (other (eqb-true a 1 (e ∙ eq-eqb b 1 one))))
    (λ other_too. omega arith)
    (cases_eq b 1))
    (cases_eq a 1)

-- what the variables from place i on come to, from n, once the one at i has a code
abbrev child_at : Diagrams → ℕ → ℕ → ℕ → ℕ
child_at s i n code = step (inner_at s.nodes n) (slice_index s.order i) code n

-- the variables from place i on have the same value from a and b
abbrev Same : Diagrams → ℕ → ℕ → ℕ → Type 0
Same s i a b = (codes : List ℕ) → fits s.sizes codes ≡ true
    → eqb (follow s.nodes (drop i s.order) codes a) 1
    ≡ eqb (follow s.nodes (drop i s.order) codes b) 1

-- with the code set, one reads the child from place i + 1 on
child_value : (s : Diagrams) → AreReduced s → (i n code : ℕ) (codes : List ℕ) → i < length s.order
    → fits s.sizes codes ≡ true
    → follow s.nodes (drop i s.order) (slice_set codes (slice_index s.order i) code) n
    ≡ follow s.nodes (drop (i + 1) s.order) codes (child_at s i n code)
child_value s ok i n code codes h fit =
    let var = slice_index s.order i in
    let long = length_fits s.sizes codes fit in
    let lengths = ok.lengths in
    let below = ok.order.below i h in
    let here : slice_index (slice_set codes var code) var ≡ code =
    get_or-set_same codes var code 0 (omega arith) in
    follow_one s.nodes s.order (slice_set codes var code) n i h
    ∙ ap (λ (c : ℕ). follow s.nodes (drop (i + 1) s.order) (slice_set codes var code)
    (step (inner_at s.nodes n) var c n)) here
    ∙ follow_codes s.nodes (drop (i + 1) s.order) (slice_set codes var code) codes
    (child_at s i n code) (λ j low.
    let e = get_or-drop (i + 1) s.order j 0 in
    let inside : i + 1 + j < length s.order = omega (arith, length-drop (i + 1) s.order) in
    let apart : slice_index (drop (i + 1) s.order) j ≢ var =
    λ same. ok.order.distinct i (i + 1 + j) (omega arith) inside (sym same ∙ e) in
    get_or-set_other codes var (slice_index (drop (i + 1) s.order) j) code 0 apart)

child_same : (s : Diagrams) → AreReduced s → (i a b code : ℕ) → i < length s.order
    → code < slice_index s.sizes (slice_index s.order i) → Same s i a b
    → Same s (i + 1) (child_at s i a code) (child_at s i b code)
child_same s ok i a b code h low same codes fit =
    let var = slice_index s.order i in
    ap (λ (m : ℕ). eqb m 1) (sym (child_value s ok i a code codes h fit))
    ∙ same (slice_set codes var code) (fits_set_any s.sizes codes fit var code low)
    ∙ ap (λ (m : ℕ). eqb m 1) (child_value s ok i b code codes h fit)

-- a child is read from place i + 1 on
pub child_level : (s : Diagrams) → AreReduced s → (i n code : ℕ) → i ≤ level_of s n
    → i < length s.order → code < slice_index s.sizes (slice_index s.order i)
    → i + 1 ≤ level_of s (child_at s i n code)
child_level s ok i n code from h low =
    ⊎_elim
    (λ later. let e : child_at s i n code ≡ n = step_before s ok n i code later in
    subst (λ (m : ℕ). i + 1 ≤ level_of s m) (sym e) (omega arith))
    (λ here.
    let level : level_of s n ≡ i = omega arith in
    ⊎_elim
    (λ none. let e = level_none s n none in absurd (omega arith))
    (λ some.
    let node = some.0 in
    let good = ok.nodes n node some.1 in
    let var : slice_index s.order i ≡ node.var =
    ap (slice_index s.order) (sym level) ∙ item_at_level s ok n node some.1 in
    let e : child_at s i n code ≡ slice_index node.kids code =
    step_here (inner_at s.nodes n) node (slice_index s.order i) code n some.1 (sym var) in
    let l : level_of s n ≡ place s.order node.var = level_some s n node some.1 in
    let kids : length node.kids ≡ slice_index s.sizes node.var = good.kids in
    let size : slice_index s.sizes (slice_index s.order i) ≡ slice_index s.sizes node.var =
    ap (slice_index s.sizes) var in
    let b : place s.order node.var < level_of s (slice_index node.kids code) =
    good.later code (omega arith) in
    subst (λ (m : ℕ). i + 1 ≤ level_of s m) (sym e) (omega arith))
    (cases_inner s.nodes n))
    (cases_lt i (level_of s n))

-- what is known of a node that is read from place i on: it passes over the variable there, or that
-- is its own
data Read (s : Diagrams) (i n : ℕ) : Type 0 where
  passes : ((code : ℕ) → child_at s i n code ≡ n) → Read s i n
  own : (node : Node) → inner_at s.nodes n ≡ Some node → node.var ≡ slice_index s.order i
      → ((code : ℕ) → child_at s i n code ≡ slice_index node.kids code) → Read s i n

read_of : (s : Diagrams) → AreReduced s → (i n : ℕ) → i < length s.order → i ≤ level_of s n
    → Read s i n
read_of s ok i n h from =
    ⊎_elim
    (λ later. passes (λ code. step_before s ok n i code later))
    (λ here.
    let level : level_of s n ≡ i = omega arith in
    ⊎_elim
    (λ none. let e = level_none s n none in absurd (omega arith))
    (λ some.
    let var : slice_index s.order i ≡ some.0.var =
    ap (slice_index s.order) (sym level) ∙ item_at_level s ok n some.0 some.1 in
    own some.0 some.1 (sym var) (λ code.
    step_here (inner_at s.nodes n) some.0 (slice_index s.order i) code n some.1 (sym var)))
    (cases_inner s.nodes n))
    (cases_lt i (level_of s n))

-- nodes whose children are the same are the same
from_children : (s : Diagrams) → AreReduced s → (i a b : ℕ) → i < length s.order → Read s i a
    → Read s i b → ((code : ℕ) → code < slice_index s.sizes (slice_index s.order i)
    → child_at s i a code ≡ child_at s i b code) → a ≡ b
from_children s ok i a b h (passes pa) (passes pb) same =
    let lengths = ok.lengths in
    let below = ok.order.below i h in
    sym (pa 0) ∙ same 0 (size_some s.sizes ok.sizes (slice_index s.order i) (omega arith)) ∙ pb 0
from_children s ok i a b h (passes pa) (own node is var kids) same =
    let good = ok.nodes b node is in
    let size = ap (slice_index s.sizes) var in
    let long = good.kids in
    absurd (good.varied a (λ code low. sym (kids code) ∙ sym (same code (omega arith)) ∙ pa code))
from_children s ok i a b h (own node is var kids) (passes pb) same =
    let good = ok.nodes a node is in
    let size = ap (slice_index s.sizes) var in
    let long = good.kids in
    absurd (good.varied b (λ code low. sym (kids code) ∙ same code (omega arith) ∙ pb code))
from_children s ok i a b h (own one is var kids) (own other is_too var_too kids_too) same =
    let good = ok.nodes a one is in
    let good_too = ok.nodes b other is_too in
    let size = ap (slice_index s.sizes) var in
    let size_too = ap (slice_index s.sizes) var_too in
    let long = good.kids in
    let long_too = good_too.kids in
    ok.unique a b one other is is_too (var ∙ sym var_too)
    (same_number_lists one.kids other.kids (omega arith)
    (λ code low. sym (kids code) ∙ same code (omega arith) ∙ kids_too code))

pub canonical_from : (s : Diagrams) → AreReduced s → (left i : ℕ) → i + left ≡ length s.order
    → (a b : ℕ) → IsNode s a → IsNode s b → i ≤ level_of s a → i ≤ level_of s b → Same s i a b
    → a ≡ b
canonical_from s ok zero i end a b in_a in_b from_a from_b same =
    let none_a : inner_at s.nodes a ≡ None =
    ⊎_elim (λ none. none) (λ some. let l = level_below s ok a some.0 some.1 in
    absurd (omega arith)) (cases_inner s.nodes a) in
    let none_b : inner_at s.nodes b ≡ None =
    ⊎_elim (λ none. none) (λ some. let l = level_below s ok b some.0 some.1 in
    absurd (omega arith)) (cases_inner s.nodes b) in
    let zeros = replicate (length s.sizes) 0 in
    let e = ap (λ (m : ℕ). eqb m 1) (sym (follow_none s.nodes (drop i s.order) zeros a none_a))
    ∙ same zeros (fits_zeros s.sizes ok.sizes)
    ∙ ap (λ (m : ℕ). eqb m 1) (follow_none s.nodes (drop i s.order) zeros b none_b) in
    same_low a b (none_low s.nodes a in_a none_a) (none_low s.nodes b in_b none_b) e
canonical_from s ok (suc left) i end a b in_a in_b from_a from_b same =
    let h : i < length s.order = omega arith in
    from_children s ok i a b h (read_of s ok i a h from_a) (read_of s ok i b h from_b) (λ code low.
    canonical_from s ok left (i + 1) (omega arith) (child_at s i a code) (child_at s i b code)
    (step_within s ok a (slice_index s.order i) code in_a)
    (step_within s ok b (slice_index s.order i) code in_b)
    (child_level s ok i a code from_a h low)
    (child_level s ok i b code from_b h low)
    (child_same s ok i a b code h low same))

-- Two nodes of one reduced ordered diagram with the same value on all codes that fit are the same
-- node.
pub canonical : (s : Diagrams) → AreReduced s → (a b : ℕ) → IsNode s a → IsNode s b
    → ((codes : List ℕ) → fits s.sizes codes ≡ true → value_of s a codes ≡ value_of s b codes)
    → a ≡ b
canonical s ok a b in_a in_b same =
    canonical_from s ok (length s.order) 0 (omega arith) a b in_a in_b (omega arith) (omega arith)
    same
