-- Marking the inner nodes that are reached from a node, from the last number down.
use Rattle.std.proofs.Common.{◌≡◌, ⊎_elim, ℕ, zero, suc, ◌+◌, ◌-◌, ◌<◌, ◌≤◌, Bool, true, false, ◌||◌, eqb, List, ◌∷◌, ◌++◌, length, take, drop, get_or, slice_index, Some, count_by, sym, ap, ◌∙◌, subst, arith, []}
use Rattle.std.specs.List.{list_any, Contains}
use Rattle.std.proofs.lemmas.Bool.{cases_lt, cases_eq, or_cases, or_left, or_right, eqb-true, eq-eqb, false≢true}
use Rattle.std.proofs.lemmas.List.{append-nil, get_or_default, get_or_past, take_all, drop_all}
use Rattle.decision_diagram.specs.Diagrams.{Diagrams, Node, inner_at, kids_in, kids_of, IsNode}
use Rattle.decision_diagram.specs.Reached.{Walk, Reaches, marked, CountsReached}
use Rattle.decision_diagram.proofs.Nodes.{cases_inner, inner_within}

-- ---- membership
any_contains : (xs : List ℕ) (m : ℕ) → list_any (eqb m) xs ≡ true → Contains xs m
any_contains [] m h = absurd (false≢true h)
any_contains (x ∷ xs) m h =
    ⊎_elim
    (λ here. (0, omega arith, sym (eqb-true m x here)))
    (λ later. let w = any_contains xs m later in let inside = w.1 in (suc w.0, omega arith, w.2))
    (or_cases (eqb m x) (list_any (eqb m) xs) h)

contains_any : (xs : List ℕ) (m k : ℕ) → k < length xs → get_or xs k m ≡ m
    → list_any (eqb m) xs ≡ true
contains_any [] m k h is = absurd (omega arith)
contains_any (x ∷ xs) m zero h is = or_left (eqb m x) (list_any (eqb m) xs) (eq-eqb m x (sym is))
contains_any (x ∷ xs) m (suc k) h is =
    or_right (eqb m x) (list_any (eqb m) xs) (contains_any xs m k (omega arith) is)

-- ---- walks
pub reaches_kid : (s : Diagrams) (n k m : ℕ) → Reaches s n k → Contains (kids_of s k) m
    → Reaches s n m
reaches_kid s n k m reach has = (suc reach.0, (k, reach.1, has))

-- what has a child is an inner node
parent_inner : (s : Diagrams) (k m : ℕ) → Contains (kids_of s k) m
    → (2 ≤ k) × (k < length s.nodes + 2)
parent_inner s k m has =
    ⊎_elim
    (λ none. let e = ap kids_in none in let f = ap (length {A = ℕ}) e in let h = has.1 in
    absurd (omega arith))
    (λ some. inner_within s.nodes k some.0 some.1)
    (cases_inner s.nodes k)

-- ---- marks
-- The marked nodes are reached from n, n is marked, and so are the children of each marked one from
-- number i + 2 on.
pub record AreMarked (s : Diagrams) (n : ℕ) (marks : List Bool) (i : ℕ) : Type 0 where
  pub long : length marks ≡ length s.nodes
  pub within : i ≤ length s.nodes
  pub sound : (m : ℕ) → 2 ≤ m → IsNode s m → marked marks m ≡ true → Reaches s n m
  pub root : 2 ≤ n → marked marks n ≡ true
  pub closed : (k m : ℕ) → i + 2 ≤ k → IsNode s k → marked marks k ≡ true → Contains (kids_of s k) m
      → 2 ≤ m → marked marks m ≡ true

-- only an inner node is marked
marked_within : (marks : List Bool) (m : ℕ) → marked marks m ≡ true → m - 2 < length marks
marked_within marks m h =
    ⊎_elim (λ inside. inside) (λ past.
    absurd (false≢true (sym (get_or_past marks (m - 2) false past) ∙ h)))
    (cases_lt (m - 2) (length marks))

-- a marked node marks its children, which have smaller numbers
pub marked_kids : (s : Diagrams) (n : ℕ) (old new : List Bool) (i j : ℕ) (node : Node)
    → AreMarked s n old i → i ≡ j + 1 → marked old (j + 2) ≡ true
    → inner_at s.nodes (j + 2) ≡ Some node
    → ((code : ℕ) → code < length node.kids → slice_index node.kids code < j + 2)
    → length new ≡ length old
    → ((m : ℕ) → 2 ≤ m → m < length old + 2
    → marked new m ≡ (marked old m || list_any (eqb m) node.kids)) → AreMarked s n new j
marked_kids s n old new i j node ok next on is before long after =
    let w = ok.within in
    let old_long = ok.long in
    let kids : kids_of s (j + 2) ≡ node.kids = ap kids_in is in
    let below : (m : ℕ) → list_any (eqb m) node.kids ≡ true → m < j + 2 = λ m h.
    let has = any_contains node.kids m h in
    let inside = has.1 in
    let e : slice_index node.kids has.0 ≡ m = get_or_default node.kids has.0 0 m has.1 ∙ has.2 in
    let b = before has.0 has.1 in
    omega arith in
    let kept : (m : ℕ) → 2 ≤ m → marked old m ≡ true → marked new m ≡ true =
    λ m large h. let inside = marked_within old m h in
    after m large (omega arith) ∙ or_left (marked old m) (list_any (eqb m) node.kids) h in
    record {
      long = long ∙ ok.long;
      within = omega arith;
      sound = λ m large within h.
          ⊎_elim
          (λ earlier. ok.sound m large within earlier)
          (λ now. reaches_kid s n (j + 2) m (ok.sound (j + 2) (omega arith) (omega arith) on)
          (subst (λ (xs : List ℕ). Contains xs m) (sym kids) (any_contains node.kids m now)))
          (or_cases (marked old m) (list_any (eqb m) node.kids)
          (sym (after m large (omega arith)) ∙ h));
      root = λ large. kept n large (ok.root large);
      closed = λ k m from within h has large.
          ⊎_elim
          (λ here.
          let had : Contains node.kids m =
          subst (λ (xs : List ℕ). Contains xs m) (ap (kids_of s) here ∙ kids) has in
          let any = contains_any node.kids m had.0 had.1 had.2 in
          let low = below m any in
          after m large (omega arith) ∙ or_right (marked old m) (list_any (eqb m) node.kids) any)
          (λ other.
          let from_i : i + 2 ≤ k = omega arith in
          let was : marked old k ≡ true =
          ⊎_elim (λ earlier. earlier) (λ now. let low = below k now in
          absurd (omega arith))
          (or_cases (marked old k) (list_any (eqb k) node.kids)
          (sym (after k (omega arith) (omega arith)) ∙ h)) in
          kept m large (ok.closed k m from_i within was has large))
          (cases_eq k (j + 2));
    }

-- ---- the count
pub walk_marked : (s : Diagrams) (n : ℕ) (marks : List Bool) → AreMarked s n marks 0 → (steps m : ℕ)
    → Walk s n m steps → 2 ≤ m → marked marks m ≡ true
walk_marked s n marks ok zero m walk large =
    subst (λ (x : ℕ). marked marks x ≡ true) walk
    (ok.root (subst (λ (x : ℕ). 2 ≤ x) (sym walk) large))
walk_marked s n marks ok (suc steps) m walk large =
    let k = walk.0 in
    let inner = parent_inner s k m walk.2 in
    ok.closed k m (omega (arith, inner.0)) inner.1 (walk_marked s n marks ok steps k walk.1 inner.0)
    walk.2 large

pub counts_reached : (s : Diagrams) (n : ℕ) (marks : List Bool) (i count : ℕ)
    → AreMarked s n marks i → i ≡ 0 → count ≡ count_by (λ b. b) marks → CountsReached s n count
counts_reached s n marks i count ok end number =
    let all = subst (λ (k : ℕ). AreMarked s n marks k) end ok in
    record {
      marks = marks;
      long = all.long;
      each = λ m large within. (
        λ h. all.sound m large within h,
        λ reach.
            walk_marked s n marks all reach.0 m reach.1 large,
      );
      number = number;
    }

-- what a part that is the whole leaves of a list
pub whole_part : (new old : List Bool) (n : ℕ) → length new ≡ length old → n ≡ length old
    → take n (new ++ drop (length new) old) ≡ new
whole_part new old n long all =
    ap (λ (xs : List Bool). take n (new ++ xs)) (drop_all (length new) old (omega arith))
    ∙ ap (take n) (append-nil new) ∙ take_all n new (omega arith)

-- the mark of an inner node by its place
pub mark_read : (marks : List Bool) (j m : ℕ) (mark : Bool) → j < length marks → m ≡ j + 2
    → mark ≡ get_or marks j mark → marked marks m ≡ mark
mark_read marks j m mark h at is =
    let e : m - 2 ≡ j = omega arith in
    ap (λ (k : ℕ). get_or marks k false) e ∙ get_or_default marks j false mark h ∙ sym is
