-- What follows on a node.
use Rattle.std.proofs.Common.{◌≡◌, ◌≢◌, ⊎_elim, ℕ, zero, suc, ◌+◌, ◌-◌, ◌<◌, ◌≤◌, Bool, true, false, cond, ◌||◌, ◌==◌, List, ◌∷◌, ◌++◌, length, take, drop, replicate, slice_get, slice_index, slice_set, Option, Some, None, refl, ap, sym, subst, ◌∙◌, arith, eqb, ltb, []}
use Rattle.std.proofs.lemmas.Bool.{cases_eq, cases_lt, cases_Bool, eq-eqb, ne_eqb, lt-ltb}
use Rattle.transition_table.specs.NetworkFacts.{has}
use Rattle.decision_diagram.specs.declared.node.Shape.{Shape}
use Rattle.decision_diagram.specs.declared.node.Shape.TheVariants.{False, True, Inner}
use Rattle.decision_diagram.specs.Diagrams.{Node, Diagrams, inner_at, shape_in, shape_of, kids_in, kids_of, AreReduced}
use Rattle.sgraph.specs.Graphs.{each, left_after}
use Rattle.sgraph.specs.Building.{code_there, next_in, next_nodes}
use Rattle.sgraph.specs.inner.Marks.{turned, Marks, AreNext}
use Rattle.sgraph.proofs.LeftAfter.{visit_there, visit_new, enough_down}
use Rattle.decision_diagram.proofs.ListItems.{read_within}
use Rattle.polis_base.proofs.Places.{index_past, same_some}

-- ---- lists
pub got : (xs : List ℕ) (i x : ℕ) → slice_get xs i ≡ Some x → slice_index xs i ≡ x
got [] i x e = cc
got (y ∷ ys) zero x e = cc
got (y ∷ ys) (suc i) x e = got ys i x e

pub index_after : (xs ys : List ℕ) (i : ℕ) → length xs ≤ i
    → slice_index (xs ++ ys) i ≡ slice_index ys (i - length xs)
index_after [] ys i high = let e : i - 0 ≡ i = omega arith in ap (slice_index ys) (sym e)
index_after (x ∷ xs) ys zero high = absurd (omega arith)
index_after (x ∷ xs) ys (suc i) high = let e : suc i - suc (length xs) ≡ i - length xs =
    omega arith in index_after xs ys i (omega arith) ∙ ap (slice_index ys) (sym e)

pub take_one : (xs : List ℕ) (i : ℕ) → i < length xs
    → take (suc i) xs ≡ take i xs ++ slice_index xs i ∷ []
take_one [] i low = absurd (omega arith)
take_one (y ∷ ys) zero low = refl
take_one (y ∷ ys) (suc i) low = ap (λ (zs : List ℕ). y ∷ zs) (take_one ys i (omega arith))

pub take_whole : (xs : List ℕ) (i : ℕ) → length xs ≤ i → take i xs ≡ xs
take_whole [] zero high = refl
take_whole [] (suc i) high = refl
take_whole (x ∷ xs) zero high = absurd (omega arith)
take_whole (x ∷ xs) (suc i) high = ap (λ (zs : List ℕ). x ∷ zs) (take_whole xs i (omega arith))

get_take : (xs : List ℕ) (c j : ℕ) → j < c → j < length xs
    → slice_get (take c xs) j ≡ Some (slice_index xs j)
get_take [] c j low inside = absurd (omega arith)
get_take (x ∷ xs) zero j low inside = absurd (omega arith)
get_take (x ∷ xs) (suc c) zero low inside = refl
get_take (x ∷ xs) (suc c) (suc j) low inside = get_take xs c j (omega arith) (omega arith)

-- an item of a part of a list
get_part : (xs : List ℕ) (from c j i : ℕ) → i ≡ from + j → j < c → i < length xs
    → slice_get (take c (drop from xs)) j ≡ Some (slice_index xs i)
get_part [] from c j i e low inside = absurd (omega arith)
get_part (x ∷ xs) zero c j i e low inside =
    let same : j ≡ i = omega arith in
    get_take (x ∷ xs) c j low (omega arith) ∙ ap (λ (n : ℕ). Some (slice_index (x ∷ xs) n)) same
get_part (x ∷ xs) (suc from) c j zero e low inside = absurd (omega arith)
get_part (x ∷ xs) (suc from) c j (suc i) e low inside =
    get_part xs from c j i (omega arith) low (omega arith)

long_take : (xs : List ℕ) (c : ℕ) → c ≤ length xs → length (take c xs) ≡ c
long_take [] zero low = refl
long_take [] (suc c) low = absurd (omega arith)
long_take (x ∷ xs) zero low = refl
long_take (x ∷ xs) (suc c) low = ap suc (long_take xs c (omega arith))

long_part : (xs : List ℕ) (from c : ℕ) → from + c ≤ length xs → length (take c (drop from xs)) ≡ c
long_part xs zero c low = long_take xs c (omega arith)
long_part [] (suc from) c low = absurd (omega arith)
long_part (x ∷ xs) (suc from) c low = long_part xs from c (omega arith)

one_item : (xs : List ℕ) (c : ℕ) → c < length xs → take 1 (drop c xs) ≡ slice_index xs c ∷ []
one_item [] c low = absurd (omega arith)
one_item (x ∷ xs) zero low = refl
one_item (x ∷ xs) (suc c) low = one_item xs c (omega arith)

-- ---- nodes
inner_in : (n : ℕ) (o : Option Node) (var : ℕ) → shape_in n o ≡ Inner var
    → (node : Node) × (o ≡ Some node) × (node.var ≡ var)
inner_in n None var e = absurd (go (n == 0) e)
  where
    go : (b : Bool) → cond b False True ≡ Inner var → ⊥
    go true f = cc
    go false f = cc
inner_in n (Some node) var e = (node, refl, cc)

pub inner_of : (s : Diagrams) (k var : ℕ) → shape_of s k ≡ Inner var
    → (node : Node) × (inner_at s.nodes k ≡ Some node) × (node.var ≡ var)
inner_of s k var e = inner_in k (inner_at s.nodes k) var e

pub test_next : (s : Diagrams) (n k var : ℕ) → shape_of s k ≡ Inner var → var < n
    → next_nodes s n k ≡ kids_of s k
test_next s n k var e low =
    let node = inner_of s k var e in
    let v : node.0.var ≡ var = node.2 in
    ap (next_in n) node.1
    ∙ ap (λ (b : Bool). cond b node.0.kids (slice_index node.0.kids (code_there node.0.kids) ∷ []))
    (lt-ltb node.0.var n (omega arith))
    ∙ sym (ap kids_in node.1)

-- ---- the codes of what follows
pub all_codes : (s : Diagrams) (n k var size : ℕ) → shape_of s k ≡ Inner var → var < n
    → length (kids_of s k) ≡ size → AreNext s n k 0 size
all_codes s n k var size shape low long =
    record {
      up = omega arith;
      within = omega arith;
      next = test_next s n k var shape low ∙ sym (take_whole (kids_of s k) (size - 0) (omega arith));
    }

kid_at : (s : Diagrams) (n k from end code kid : ℕ) → AreNext s n k from end → from ≤ code
    → code < end → kid ≡ slice_index (kids_of s k) code
    → slice_get (next_nodes s n k) (code - from) ≡ Some kid
kid_at s n k from end code kid ok low high is =
    let within = ok.within in
    ap (λ (xs : List ℕ). slice_get xs (code - from)) ok.next
    ∙ get_part (kids_of s k) from (end - from) (code - from) code (omega arith) (omega arith)
    (omega arith)
    ∙ ap (λ (x : ℕ). Some x) (sym is)

-- the first code whose child isn't False
pub code_is : (kids : List ℕ) (c : ℕ) → c < length kids → ((j : ℕ) → j < c → slice_index kids j ≡ 0)
    → slice_index kids c ≢ 0 → code_there kids ≡ c
code_is [] c low zeros some = absurd (omega arith)
code_is (kid ∷ kids) zero low zeros some =
    ap (λ (b : Bool). cond b (suc (code_there kids)) 0) (ne_eqb kid 0 some)
code_is (kid ∷ kids) (suc c) low zeros some =
    ap (λ (b : Bool). cond b (suc (code_there kids)) 0) (eq-eqb kid 0 (zeros 0 (omega arith)))
    ∙ ap suc (code_is kids c (omega arith) (λ j less. zeros (suc j) (omega arith)) some)

-- what follows was made before
inner_high : (s : Diagrams) (k : ℕ) (node : Node) → inner_at s.nodes k ≡ Some node → 2 ≤ k
inner_high s k node is =
    ⊎_elim (λ low. absurd (let e : None
    ≡ Some node = sym (ap (λ (b : Bool). cond b None (slice_get s.nodes (k - 2))) (lt-ltb k 2 low))
    ∙ is in cc)) (λ high. high) (cases_lt k 2)

pub falls : (s : Diagrams) (n : ℕ) → AreReduced s → (k i : ℕ) → i < length (next_nodes s n k)
    → slice_index (next_nodes s n k) i < k
falls s n ok k i low = go (inner_at s.nodes k) refl low
  where
    one : (node : Node) → inner_at s.nodes k ≡ Some node → (c : ℕ) → slice_index node.kids c < k
    one node is c =
        ⊎_elim
        (λ inside. (ok.nodes k node is).before c inside)
        (λ outside. let z = index_past node.kids c outside in let high = inner_high s k node is in
        omega arith)
        (cases_lt c (length node.kids))

    go : (o : Option Node) → inner_at s.nodes k ≡ o → i < length (next_in n o)
        → slice_index (next_in n o) i < k
    go None is low = absurd (omega arith)
    go (Some node) is low =
        ⊎_elim
        (λ on. subst (λ (b : Bool). slice_index
        (cond b node.kids (slice_index node.kids (code_there node.kids) ∷ [])) i < k) (sym on)
        (one node is i))
        (λ off. subst (λ (b : Bool). slice_index
        (cond b node.kids (slice_index node.kids (code_there node.kids) ∷ [])) i < k) (sym off)
        (single node is i
        (subst (λ (b : Bool). i
        < length (cond b node.kids (slice_index node.kids (code_there node.kids) ∷ []))) off
        low)))
        (cases_Bool (ltb node.var n))
      where
        single : (node : Node) → inner_at s.nodes k ≡ Some node → (j : ℕ) → j < 1
            → slice_index (slice_index node.kids (code_there node.kids) ∷ []) j < k
        single node is zero low = one node is (code_there node.kids)
        single node is (suc j) low = absurd (omega arith)

-- ---- leaving
pub turned_push : (xs : List ℕ) (x : ℕ) → turned (xs ++ x ∷ []) ≡ x ∷ turned xs
turned_push [] x = refl
turned_push (y ∷ ys) x = ap (λ (zs : List ℕ). zs ++ y ∷ []) (turned_push ys x)

pub each_push : (visit : List ℕ → ℕ → List ℕ) (left xs : List ℕ) (x : ℕ)
    → each visit left (xs ++ x ∷ []) ≡ visit (each visit left xs) x
each_push visit left [] x = refl
each_push visit left (y ∷ ys) x = each_push visit (visit left y) ys x

-- the nodes so far are left
pub left_more : (s : Diagrams) (n k : ℕ) → AreReduced s → (from end code kid : ℕ)
    → (first left new : List ℕ) → AreNext s n k from end → from ≤ code → code < end
    → kid ≡ slice_index (kids_of s k) code
    → turned left
    ≡ each (left_after k (next_nodes s n)) (turned first) (take (code - from) (next_nodes s n k))
    → turned new ≡ left_after (suc kid) (next_nodes s n) (turned left) kid
    → turned new
    ≡ each (left_after k (next_nodes s n)) (turned first) (take (code + 1 - from) (next_nodes s n k))
left_more s n k ok from end code kid first left new codes low high is so_far one =
    let next = next_nodes s n in
    let kids = next_nodes s n k in
    let j = code - from in
    let is_kid = kid_at s n k from end code kid codes low high is in
    let inside = read_within kids j kid is_kid in
    let at = got kids j kid is_kid in
    let less = falls s n ok k j inside in
    let e : code + 1 - from ≡ suc (code - from) = omega arith in
    one
    ∙ enough_down next (falls s n ok) (suc kid) k (turned left) kid (omega arith) (omega arith)
    ∙ ap (λ (xs : List ℕ). left_after k next xs kid) so_far
    ∙ sym (each_push (left_after k next) (turned first) (take j kids) kid)
    ∙ ap (λ (x : ℕ). each (left_after k next) (turned first) (take j kids ++ x ∷ [])) (sym at)
    ∙ ap (each (left_after k next) (turned first)) (sym (take_one kids j inside))
    ∙ ap (λ (i : ℕ). each (left_after k next) (turned first) (take i kids)) (sym e)

pub marked_is : (count : ℕ) (marks : List Bool) (left : List ℕ) (k : ℕ) (b : Bool)
    → Marks count marks left → slice_get marks k ≡ Some b → has (turned left) k ≡ b
marked_is count marks left k b ok is =
    same_some (slice_get marks k) (has (turned left) k) b (ok.each k (read_within marks k b is)) is

pub left_there : (s : Diagrams) (n k : ℕ) (marks : List Bool) (left : List ℕ) → Marks (length s.nodes + 2) marks left
    → slice_get marks k ≡ Some true → turned left
    ≡ left_after (suc k) (next_nodes s n) (turned left) k
left_there s n k marks left ok is =
    sym (visit_there (next_nodes s n) k (turned left) k (marked_is (length s.nodes + 2) marks left k true ok is))

pub left_new : (s : Diagrams) (n k : ℕ) (marks : List Bool) (from end code : ℕ)
    → (first left new : List ℕ) → Marks (length s.nodes + 2) marks first → slice_get marks k ≡ Some false
    → AreNext s n k from end → end ≤ code
    → turned left
    ≡ each (left_after k (next_nodes s n)) (turned first) (take (code - from) (next_nodes s n k))
    → new ≡ left ++ k ∷ [] → turned new ≡ left_after (suc k) (next_nodes s n) (turned first) k
left_new s n k marks from end code first left new ok is codes high so_far e =
    let next = next_nodes s n in
    let up = codes.up in
    let within = codes.within in
    let long : length (next_nodes s n k) ≡ end - from =
    ap (λ (xs : List ℕ). length xs) codes.next
    ∙ long_part (kids_of s k) from (end - from) (omega arith) in
    ap turned e
    ∙ turned_push left k
    ∙ ap (λ (xs : List ℕ). k ∷ xs) (so_far
    ∙ ap (each (left_after k next) (turned first))
    (take_whole (next_nodes s n k) (code - from) (omega arith)))
    ∙ sym (visit_new next k (turned first) k (marked_is (length s.nodes + 2) marks first k false ok is))

pub set_same : (marks : List Bool) (k : ℕ) (b : Bool) → k < length marks
    → slice_get (slice_set marks k b) k ≡ Some b
set_same [] k b low = absurd (omega arith)
set_same (m ∷ marks) zero b low = refl
set_same (m ∷ marks) (suc k) b low = set_same marks k b (omega arith)

pub set_other : (marks : List Bool) (k j : ℕ) (b : Bool) → (k ≡ j → ⊥)
    → slice_get (slice_set marks k b) j ≡ slice_get marks j
set_other [] k j b other = refl
set_other (m ∷ marks) zero zero b other = absurd (other refl)
set_other (m ∷ marks) zero (suc j) b other = refl
set_other (m ∷ marks) (suc k) zero b other = refl
set_other (m ∷ marks) (suc k) (suc j) b other = set_other marks k j b (λ e. other (ap suc e))

pub set_long : (marks : List Bool) (k : ℕ) (b : Bool) → length (slice_set marks k b) ≡ length marks
set_long [] k b = refl
set_long (m ∷ marks) zero b = refl
set_long (m ∷ marks) (suc k) b = ap suc (set_long marks k b)

pub one_mark : (count k : ℕ) (marks more : List Bool) (left new : List ℕ) → Marks count marks left
    → k < length marks → more ≡ slice_set marks k true → new ≡ left ++ k ∷ []
    → Marks count more new
one_mark count k marks more left new ok low is e =
    let long = set_long marks k true in
    let same : length more ≡ length (slice_set marks k true) =
    ap (λ (xs : List Bool). length xs) is in
    let own = ok.long in
    record {
      long = omega arith;
      each = λ j inside.
          ap (λ (xs : List Bool). slice_get xs j) is
          ∙ ⊎_elim
          (λ here. let h : k ≡ j = here in
          subst (λ (i : ℕ). slice_get (slice_set marks k true) i
          ≡ Some (eqb k i || has (turned left) i)) h
          (set_same marks k true low ∙ ap (λ (b : Bool). Some (b || has (turned left) k))
          (sym (eq-eqb k k refl))))
          (λ other. set_other marks k j true other ∙ ok.each j (omega arith)
          ∙ ap (λ (b : Bool). Some (b || has (turned left) j)) (sym (ne_eqb k j other)))
          (cases_eq k j)
          ∙ ap (λ (xs : List ℕ). Some (has xs j)) (sym (turned_push left k) ∙ ap turned (sym e));
    }

pub no_mark : (n k : ℕ) → k < n → slice_get (replicate n false) k ≡ Some false
no_mark zero k low = absurd (omega arith)
no_mark (suc n) zero low = refl
no_mark (suc n) (suc k) low = no_mark n k (omega arith)

pub long_marks : (n : ℕ) → length (replicate n false) ≡ n
long_marks zero = refl
long_marks (suc n) = ap suc (long_marks n)
