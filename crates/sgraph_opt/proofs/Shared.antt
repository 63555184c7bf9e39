-- Equal vertices that are joined, by an index of those that stand for themselves.
use Rattle.std.proofs.Common.{◌≡◌, ◌⊎◌, inl, inr, ⊎_elim, ℕ, zero, suc, ◌+◌, ◌<◌, ◌≤◌, Bool, true, false, not, cond, ◌&&◌, List, map, length, replicate, slice_get, slice_index, slice_set, Option, Some, None, refl, ap, sym, subst, ◌∙◌, arith, eqb}
use Rattle.std.specs.Cmp.Lexicographic.{bytes_decides}
use Rattle.std.specs.Str.{bytes_eq}
use Rattle.std.proofs.lemmas.Bool.{cases_eq, cases_Bool, cond-true, cond-false, and_parts, eqb-true, ne_eqb}
use Rattle.sgraph.specs.declared.vertex.Vertex.{Vertex}
use Rattle.sgraph.specs.declared.vertex.Vertex.TheVariants.{Begin, Test, Assign, End}
use Rattle.sgraph.specs.Facts.{IsGraph}
use Rattle.sgraph.specs.Graphs.{key_of, varies}
use Rattle.polis_base.specs.Index.{Keyed, found}
use Rattle.sgraph_opt.specs.inner.Choices.{Same, Entered, Chosen, is_inner, stays, Has, Sharing, Shared}
use Rattle.sgraph_opt.specs.inner.Representatives.{renamed, IsTwin, IsRep, Standing}
use Rattle.sgraph_opt.proofs.Standing.{same_renamed, later_kids, standing_start, standing_more, vertex_there}
use Rattle.sgraph.proofs.NextNodes.{got}
use Rattle.sgraph.proofs.GraphOf.{set_there}
use Rattle.sgraph.proofs.BuiltReduced.{same_vertex}
use Rattle.decision_diagram.proofs.ListItems.{read_within}
use Rattle.polis_base.proofs.Places.{index_set, same_some}

not_none : {X : Type 0} (o : Option X) (a : X) → o ≡ None → o ≡ Some a → ⊥
not_none o a p q = cc

-- ---- one more vertex

module _ (drops : Bool) (g : List Vertex) (ok : IsGraph g) (reps more : List ℕ)
    (old new : Keyed) (i k r : ℕ) (s : Sharing drops g reps old i) (at : i ≡ k + 1)
    (v : Vertex) (is : slice_get g k ≡ Some v) (set : more ≡ slice_set reps k r) where
  abbrev to : ℕ → ℕ
  to = slice_index reps

  low : k < length g
  low = read_within g k v is

  apart : (j : ℕ) → k < j → slice_index reps j ≡ slice_index more j
  apart j up = sym (ap (λ (xs : List ℕ). slice_index xs j) set
      ∙ set_there reps k j r (λ f. absurd (omega arith)))

  read : slice_index more k ≡ r
  read = let own = s.stands.long in let l = low in
      ap (λ (xs : List ℕ). slice_index xs k) set ∙ index_set reps k r (omega arith)

  same_names : (j : ℕ) (w : Vertex) → k ≤ j → slice_get g j ≡ Some w
      → renamed (slice_index reps) w ≡ renamed (slice_index more) w
  same_names j w high is_w =
      same_renamed (slice_index reps) (slice_index more) w
      (later_kids g ok (slice_index reps) (slice_index more) j w is_w
      (λ l up. apart l (omega arith)))

  -- what the index had it still has of
  moved_has : (key : List ℕ) (x : ℕ) → Has g (slice_index reps) i x key
      → Has g (slice_index more) k x key
  moved_has key x h =
      let from = h.from in
      record {
        vertex = h.vertex;
        from = omega arith;
        is = h.is;
        own = sym (apart x (omega arith)) ∙ h.own;
        inner = h.inner;
        same = h.same ∙ ap key_of (same_names x h.vertex (omega arith) h.is);
      }

  -- and what it has of now it had before, or it is the new vertex
  back_has : (key : List ℕ) (x : ℕ) → Has g (slice_index more) k x key
      → (x ≡ k) ⊎ Has g (slice_index reps) i x key
  back_has key x h =
      let from = h.from in
      ⊎_elim
      (λ here. inl (sym here))
      (λ other.
      let up : k < x = above k x from other in
      inr (record {
        vertex = h.vertex;
        from = omega arith;
        is = h.is;
        own = apart x up ∙ h.own;
        inner = h.inner;
        same = h.same ∙ ap key_of (sym (same_names x h.vertex (omega arith) h.is));
      }))
      (cases_eq k x)
    where
      above : (a b : ℕ) → a ≤ b → (a ≡ b → ⊥) → a < b
      above a b less other = omega (arith, other)

  -- what is known where the vertex is met again, or passed over: it doesn't stand for itself, or is
  -- the begin or the end
  passed : IsRep g (slice_index reps) k r v → Same old new → (r ≡ k → is_inner v ≡ false)
      → (r ≡ k → stays drops (renamed (slice_index reps) v) ≡ true) → Sharing drops g more new k
  passed rep same outer vary =
      record {
        stands = standing_more g ok reps more i k r s.stands at low
            (λ w is_w. subst (IsRep g (slice_index reps) k r)
            (same_some (slice_get g k) v w is is_w) rep) set;
        stay = λ j w high is_w own. vary_all vary j w high is_w own;
        met = λ key x h. moved_has key x (s.met key x (sym (same key) ∙ h));
        all = λ key x h.
            same key
            ∙ ⊎_elim
            (λ here. absurd (inner_k outer key x here h))
            (λ before. s.all key x before)
            (back_has key x h);
      }
    where
      inner_k : (r ≡ k → is_inner v ≡ false) → (key : List ℕ) (x : ℕ) → x ≡ k
          → Has g (slice_index more) k x key → ⊥
      inner_k outer key x here h =
          let at_k : slice_get g k ≡ Some h.vertex = ap (slice_get g) (sym here) ∙ h.is in
          let one : v ≡ h.vertex = same_some (slice_get g k) v h.vertex is at_k in
          let own : r ≡ k = sym read ∙ ap (slice_index more) (sym here) ∙ h.own ∙ here in
          false_true (sym (outer own) ∙ ap is_inner one ∙ h.inner)
        where
          false_true : false ≡ true → ⊥
          false_true e = cc

      vary_all : (r ≡ k → stays drops (renamed (slice_index reps) v) ≡ true) → (j : ℕ) (w : Vertex)
          → k ≤ j → slice_get g j ≡ Some w → slice_index more j ≡ j
          → stays drops (renamed (slice_index more) w) ≡ true
      vary_all vary j w high is_w own =
          ⊎_elim
          (λ here.
          let at_k : slice_get g k ≡ Some w = ap (slice_get g) here ∙ is_w in
          let one : v ≡ w = same_some (slice_get g k) v w is at_k in
          let own_k : r ≡ k = sym read ∙ ap (slice_index more) here ∙ own ∙ sym here in
          sym (ap (stays drops) (same_names j w high is_w))
          ∙ sym (ap (λ (u : Vertex). stays drops (renamed (slice_index reps) u)) one) ∙ vary own_k)
          (λ other.
          let up : k < j = above k j high other in
          sym (ap (stays drops) (same_names j w high is_w))
          ∙ s.stay j w (omega arith) is_w (apart j up ∙ own))
          (cases_eq k j)
        where
          above : (a b : ℕ) → a ≤ b → (a ≡ b → ⊥) → a < b
          above a b less other = omega (arith, other)

  -- a vertex that is new to the index
  entered : is_inner v ≡ true → stays drops (renamed (slice_index reps) v) ≡ true
      → IsRep g (slice_index reps) k k v → found old (key_of (renamed (slice_index reps) v)) ≡ None
      → r ≡ k → ((q : List ℕ) → found new q
      ≡ cond (bytes_eq (key_of (renamed (slice_index reps) v)) q) (Some k) (found old q))
      → Sharing drops g more new k
  entered inner vary rep fresh own grows =
      record {
        stands = standing_more g ok reps more i k r s.stands at low
            (λ w is_w. subst (λ (n : ℕ). IsRep g (slice_index reps) k n w) (sym own)
            (subst (IsRep g (slice_index reps) k k) (same_some (slice_get g k) v w is is_w) rep))
            set;
        stay = λ j w high is_w own_j.
            ⊎_elim
            (λ here.
            let at_k : slice_get g k ≡ Some w = ap (slice_get g) here ∙ is_w in
            let one : v ≡ w = same_some (slice_get g k) v w is at_k in
            sym (ap (stays drops) (same_names j w high is_w))
            ∙ sym (ap (λ (u : Vertex). stays drops (renamed (slice_index reps) u)) one) ∙ vary)
            (λ other.
            let up : k < j = above k j high other in
            sym (ap (stays drops) (same_names j w high is_w))
            ∙ s.stay j w (omega arith) is_w (apart j up ∙ own_j))
            (cases_eq k j);
        met = λ key x h.
            met_new key x h (cases_Bool (bytes_eq (key_of (renamed (slice_index reps) v)) key));
        all = λ key x h. all_new key x h (back_has key x h);
      }
    where
      above : (a b : ℕ) → a ≤ b → (a ≡ b → ⊥) → a < b
      above a b less other = omega (arith, other)

      met_new : (key : List ℕ) (x : ℕ) → found new key ≡ Some x
          → (bytes_eq (key_of (renamed (slice_index reps) v)) key ≡ true)
          ⊎ (bytes_eq (key_of (renamed (slice_index reps) v)) key ≡ false)
          → Has g (slice_index more) k x key
      met_new key x h (inl on) =
          let there : found new key ≡ Some k =
          grows key ∙ cond-true (bytes_eq (key_of (renamed (slice_index reps) v)) key) (Some k)
          (found old key) on in
          let here : x ≡ k = same_some (found new key) x k h there in
          subst (λ (n : ℕ). Has g (slice_index more) k n key) (sym here)
          (record {
            vertex = v;
            from = omega arith;
            is = is;
            own = read ∙ own;
            inner = inner;
            same = sym ((bytes_decides (key_of (renamed (slice_index reps) v)) key).0 on)
                ∙ ap key_of (same_names k v (omega arith) is);
          })
      met_new key x h (inr off) =
          moved_has key x
          (s.met key x (sym
          (grows key ∙ cond-false (bytes_eq (key_of (renamed (slice_index reps) v)) key) (Some k)
          (found old key) off) ∙ h))

      all_new : (key : List ℕ) (x : ℕ) → Has g (slice_index more) k x key
          → (x ≡ k) ⊎ Has g (slice_index reps) i x key → found new key ≡ Some x
      all_new key x h (inl here) =
          let at_k : slice_get g k ≡ Some h.vertex = ap (slice_get g) (sym here) ∙ h.is in
          let one : v ≡ h.vertex = same_some (slice_get g k) v h.vertex is at_k in
          let same : key_of (renamed (slice_index reps) v) ≡ key =
          ap key_of (same_names k v (omega arith) is)
          ∙ ap (λ (u : Vertex). key_of (renamed (slice_index more) u)) one ∙ sym h.same in
          let on : bytes_eq (key_of (renamed (slice_index reps) v)) key ≡ true =
          subst (λ (q : List ℕ). bytes_eq (key_of (renamed (slice_index reps) v)) q ≡ true) same
          ((bytes_decides (key_of (renamed (slice_index reps) v))
          (key_of (renamed (slice_index reps) v))).1 refl) in
          grows key ∙ cond-true (bytes_eq (key_of (renamed (slice_index reps) v)) key) (Some k)
          (found old key) on ∙ ap (λ (n : ℕ). Some n) (sym here)
      all_new key x h (inr before) =
          let had = s.all key x before in
          ⊎_elim
          (λ on. absurd (not_none (found old key) x
          (sym (ap (found old) ((bytes_decides (key_of (renamed (slice_index reps) v)) key).0 on))
          ∙ fresh) had))
          (λ off. grows key ∙ cond-false (bytes_eq (key_of (renamed (slice_index reps) v)) key)
          (Some k) (found old key) off ∙ had)
          (cases_Bool (bytes_eq (key_of (renamed (slice_index reps) v)) key))

  -- the vertex that the index has is a twin
  twin : found old (key_of (renamed (slice_index reps) v)) ≡ Some r
      → IsTwin g (slice_index reps) k r v
  twin there =
      let h = s.met (key_of (renamed (slice_index reps) v)) r there in
      let from = h.from in
      record {
        other = h.vertex;
        later = omega arith;
        own = h.own;
        is = h.is;
        same = sym (same_vertex (renamed (slice_index reps) v) (renamed (slice_index reps) h.vertex)
            h.same);
      }

  not_itself : IsTwin g (slice_index reps) k r v → r ≡ k → ⊥
  not_itself t e = let up = t.later in omega arith

-- what stands for a vertex from number i on is no earlier

stands_higher : (g : List Vertex) → IsGraph g → (reps : List ℕ) (i : ℕ) → Standing g reps i
    → (k : ℕ) → i ≤ k → k < length g → k ≤ slice_index reps k
stands_higher g ok reps i s k high low = from (length g) k high (omega arith) low
  where
    of : (k : ℕ) → i ≤ k → k < length g → ((j : ℕ) → k < j → j < length g → j ≤ slice_index reps j)
        → (o : Option Vertex) → slice_get g k ≡ o → k ≤ slice_index reps k
    of k high low later None is = absurd (vertex_there g k low is)
    of k high low later (Some (Begin next)) is = let own : slice_index reps k ≡ k =
        s.each k (Begin next) high is in omega arith
    of k high low later (Some (Test var kids)) is =
        ⊎_elim
        (λ own. omega (arith, own))
        (λ rest. ⊎_elim
        (λ idle.
        let some = ok.some_kid k var kids is in
        let up = ok.above k (Test var kids) 0 is some in
        let kid = later (slice_index kids 0) up (ok.within k (Test var kids) 0 is some) in
        let e = idle 0 some in
        omega arith)
        (λ t. let up = t.later in omega arith)
        rest)
        (s.each k (Test var kids) high is)
    of k high low later (Some (Assign result code next)) is =
        ⊎_elim
        (λ own. omega (arith, own))
        (λ rest. ⊎_elim
        (λ left.
        let up : k < next = ok.above k (Assign result code next) 0 is (omega arith) in
        let kid = later next up (ok.within k (Assign result code next) 0 is (omega arith)) in
        let e = left.1 in
        omega arith)
        (λ t. let up = t.later in omega arith)
        rest)
        (s.each k (Assign result code next) high is)
    of k high low later (Some End) is = let own : slice_index reps k ≡ k = s.each k End high is in
        omega arith

    from : (left k : ℕ) → i ≤ k → length g ≤ k + left → k < length g → k ≤ slice_index reps k
    from zero k high e low = absurd (omega arith)
    from (suc left) k high e low =
        of k high low (λ j up inside. from left j (omega arith) (omega arith) inside)
        (slice_get g k) refl

sharing_one : (drops : Bool) (g : List Vertex) (ok : IsGraph g) (reps more : List ℕ)
    (old new : Keyed) (i k r : ℕ) → Sharing drops g reps old i → i ≡ k + 1
    → (v : Vertex) → slice_get g k ≡ Some v → more ≡ slice_set reps k r
    → Chosen drops (slice_index reps) k r old new v → Sharing drops g more new k
sharing_one drops g ok reps more old new i k r s at (Begin next) is set (own, same) =
    passed drops g ok reps more old new i k r s at (Begin next) is set own same (λ e. refl) (λ e. refl)
sharing_one drops g ok reps more old new i k r s at End is set (own, same) =
    passed drops g ok reps more old new i k r s at End is set own same (λ e. refl) (λ e. refl)
sharing_one drops g ok reps more old new i k r s at (Test var kids) is set (inl (idle, same)) =
    passed drops g ok reps more old new i k r s at (Test var kids) is set (inr (inl idle)) same
    (λ e. absurd (later_than e)) (λ e. absurd (later_than e))
  where
    later_than : r ≡ k → ⊥
    later_than e =
        let some = ok.some_kid k var kids is in
        let up = ok.above k (Test var kids) 0 is some in
        let inside = ok.within k (Test var kids) 0 is some in
        let one = idle 0 some in
        let high = stands_higher g ok reps i s.stands (slice_index kids 0) (omega arith) inside in
        omega arith
sharing_one drops g ok reps more old new i k r s at (Test var kids) is set
    (inr (vary, inl (there, same))) =
    let t = twin drops g ok reps more old new i k r s at (Test var kids) is set there in
    passed drops g ok reps more old new i k r s at (Test var kids) is set (inr (inr t)) same
    (λ e. absurd (not_itself drops g ok reps more old new i k r s at (Test var kids) is set t e))
    (λ e. vary)
sharing_one drops g ok reps more old new i k r s at (Test var kids) is set
    (inr (vary, inr (fresh, own, grows))) =
    entered drops g ok reps more old new i k r s at (Test var kids) is set refl vary (inl refl) fresh own
    grows
sharing_one drops g ok reps more old new i k r s at (Assign result code next) is set
    (inl (dropped, idle, same)) =
    passed drops g ok reps more old new i k r s at (Assign result code next) is set
    (inr (inl (eqb-true code 0 (and_parts drops (eqb code 0) dropped).1, idle))) same
    (λ e. absurd (later_than e)) (λ e. absurd (later_than e))
  where
    later_than : r ≡ k → ⊥
    later_than e =
        let up : k < next = ok.above k (Assign result code next) 0 is (omega arith) in
        let inside : next < length g = ok.within k (Assign result code next) 0 is (omega arith) in
        let high = stands_higher g ok reps i s.stands next (omega arith) inside in
        omega arith
sharing_one drops g ok reps more old new i k r s at (Assign result code next) is set
    (inr (stay, inl (there, same))) =
    let t = twin drops g ok reps more old new i k r s at (Assign result code next) is set there in
    passed drops g ok reps more old new i k r s at (Assign result code next) is set (inr (inr t))
    same
    (λ e. absurd (not_itself drops g ok reps more old new i k r s at (Assign result code next) is
    set t e)) (λ e. stay)
sharing_one drops g ok reps more old new i k r s at (Assign result code next) is set
    (inr (stay, inr (fresh, own, grows))) =
    entered drops g ok reps more old new i k r s at (Assign result code next) is set refl stay
    (inl refl) fresh own grows

pub sharing_more : (drops : Bool) (g : List Vertex) (ok : IsGraph g) (reps more : List ℕ)
    (old new : Keyed) (i k r : ℕ) → Sharing drops g reps old i → i ≡ k + 1
    → k < length g → ((v : Vertex) → slice_get g k ≡ Some v
    → Chosen drops (slice_index reps) k r old new v) → more ≡ slice_set reps k r → Sharing drops g more new k
sharing_more drops g ok reps more old new i k r s at low chosen set = go (slice_get g k) refl
  where
    go : (o : Option Vertex) → slice_get g k ≡ o → Sharing drops g more new k
    go None is = absurd (vertex_there g k low is)
    go (Some v) is = sharing_one drops g ok reps more old new i k r s at v is set (chosen v is)

pub sharing_start : (drops : Bool) (g : List Vertex) (reps : List ℕ) (index : Keyed)
    (i count : ℕ) → reps ≡ replicate count 0 → count ≡ length g → i ≡ length g
    → ((q : List ℕ) → found index q ≡ None) → Sharing drops g reps index i
sharing_start drops g reps index i count is all at none = record {
  stands = standing_start g reps i count is all at;
  stay = λ k v high is_v own. absurd (let low = read_within g k v is_v in omega arith);
  met = λ key r h. absurd (not_none (found index key) r (none key) h);
  all = λ key r h. absurd (let low = read_within g r h.vertex h.is in let from = h.from in omega arith);
}

-- ---- all vertices
inner_renamed : (to : ℕ → ℕ) (v w : Vertex) → renamed to v ≡ renamed to w → is_inner v ≡ is_inner w
inner_renamed to v w e = sym (inner_same to v) ∙ ap is_inner e ∙ inner_same to w
  where
    inner_same : (to : ℕ → ℕ) (v : Vertex) → is_inner (renamed to v) ≡ is_inner v
    inner_same to (Begin next) = refl
    inner_same to (Test var kids) = refl
    inner_same to (Assign result code next) = refl
    inner_same to End = refl

by_index : (drops : Bool) (g : List Vertex) (reps : List ℕ) (index : Keyed)
    → Sharing drops g reps index 0 → (a b : ℕ) (v w : Vertex) → slice_get g a ≡ Some v
    → slice_get g b ≡ Some w → slice_index reps a ≡ a → slice_index reps b ≡ b → is_inner v ≡ true
    → renamed (slice_index reps) v ≡ renamed (slice_index reps) w → a ≡ b
by_index drops g reps index s a b v w is_a is_b own_a own_b inner e =
    let key = key_of (renamed (slice_index reps) v) in
    let at_a = s.all (key_of (renamed (slice_index reps) v)) a
    (record {
      vertex = v;
      from = omega arith;
      is = is_a;
      own = own_a;
      inner = inner;
      same = refl;
    }) in
    let at_b = s.all (key_of (renamed (slice_index reps) v)) b
    (record {
      vertex = w;
      from = omega arith;
      is = is_b;
      own = own_b;
      inner = sym (inner_renamed (slice_index reps) v w e) ∙ inner;
      same = ap key_of e;
    }) in
    same_some (found index (key_of (renamed (slice_index reps) v))) a b at_a at_b

one_key : (drops : Bool) (g : List Vertex) (reps : List ℕ) (index : Keyed) → IsGraph g
    → Sharing drops g reps index 0 → (a b : ℕ) (v w : Vertex) → slice_get g a ≡ Some v
    → slice_get g b ≡ Some w → slice_index reps a ≡ a → slice_index reps b ≡ b
    → renamed (slice_index reps) v ≡ renamed (slice_index reps) w → a ≡ b
one_key drops g reps index ok s a b (Begin next) (Begin other) is_a is_b own_a own_b e =
    ok.only_begin a next is_a ∙ sym (ok.only_begin b other is_b)
one_key drops g reps index ok s a b (Begin next) (Test var kids) is_a is_b own_a own_b e =
    absurd (let f : Begin (slice_index reps next) ≡ Test var (map (slice_index reps) kids) = e in
    cc)
one_key drops g reps index ok s a b (Begin next) (Assign result code other) is_a is_b own_a own_b e =
    absurd (let f : Begin (slice_index reps next)
    ≡ Assign result code (slice_index reps other) = e in cc)
one_key drops g reps index ok s a b (Begin next) End is_a is_b own_a own_b e =
    absurd (let f : Begin (slice_index reps next) ≡ End = e in cc)
one_key drops g reps index ok s a b (Test var kids) w is_a is_b own_a own_b e =
    by_index drops g reps index s a b (Test var kids) w is_a is_b own_a own_b refl e
one_key drops g reps index ok s a b (Assign result code next) w is_a is_b own_a own_b e =
    by_index drops g reps index s a b (Assign result code next) w is_a is_b own_a own_b refl e
one_key drops g reps index ok s a b End (Begin next) is_a is_b own_a own_b e =
    absurd (let f : End ≡ Begin (slice_index reps next) = e in cc)
one_key drops g reps index ok s a b End (Test var kids) is_a is_b own_a own_b e =
    absurd (let f : End ≡ Test var (map (slice_index reps) kids) = e in cc)
one_key drops g reps index ok s a b End (Assign result code next) is_a is_b own_a own_b e =
    absurd (let f : End ≡ Assign result code (slice_index reps next) = e in cc)
one_key drops g reps index ok s a b End End is_a is_b own_a own_b e = let p = ok.only_end a is_a in
    let q = ok.only_end b is_b in omega arith

pub sharing_shared : (drops : Bool) (g : List Vertex) (reps : List ℕ) (index : Keyed)
    → IsGraph g → Sharing drops g reps index 0 → Shared drops g reps
sharing_shared drops g reps index ok s = record {
  stay = λ k v is own. s.stay k v (omega arith) is own;
  apart = one_key drops g reps index ok s;
}

-- ---- what is chosen
pub stays_other : (drops : Bool) (code : ℕ) → (code ≡ 0 → ⊥) → not (drops && eqb code 0) ≡ true
stays_other true code other = ap not (ne_eqb code 0 other)
stays_other false code other = refl

pub stays_all : (drops : Bool) (code : ℕ) → drops ≡ false → not (drops && eqb code 0) ≡ true
stays_all drops code e = ap (λ (b : Bool). not (b && eqb code 0)) e

module _ (drops : Bool) (g : List Vertex) (reps : List ℕ) (old new : Keyed) (k r : ℕ)
    (v w : Vertex) (is_v : slice_get g k ≡ Some v) (is_w : slice_get g k ≡ Some w) where
  pub chosen_test : (var : ℕ) (kids key : List ℕ) → w ≡ Test var kids
      → ((var : ℕ) → varies (Test var (map (slice_index reps) kids)) ≡ true)
      → key ≡ key_of (Test var (map (slice_index reps) kids)) → Entered old new key k r
      → Chosen drops (slice_index reps) k r old new v
  chosen_test var kids key e vary same entered =
      let is_test : v ≡ Test var kids = same_some (slice_get g k) v w is_v is_w ∙ e in
      subst (Chosen drops (slice_index reps) k r old new) (sym is_test)
      (inr (vary var, subst (λ (q : List ℕ). Entered old new q k r) same entered))

  module _ (result code next to : ℕ) (e : w ≡ Assign result code next)
      (is_to : slice_get reps next ≡ Some to) where
    rep : to ≡ slice_index reps next
    rep = sym (got reps next to is_to)

    is_assign : v ≡ Assign result code next
    is_assign = same_some (slice_get g k) v w is_v is_w ∙ e

    pub chosen_default : drops && eqb code 0 ≡ true → r ≡ to → Same old new
        → Chosen drops (slice_index reps) k r old new v
    chosen_default dropped is_r same =
        subst (Chosen drops (slice_index reps) k r old new) (sym is_assign)
        (inl (dropped, sym (is_r ∙ rep), same))

    pub chosen_assign : (key : List ℕ) → not (drops && eqb code 0) ≡ true
        → key ≡ key_of (Assign result code to) → Entered old new key k r
        → Chosen drops (slice_index reps) k r old new v
    chosen_assign key stay same entered =
        subst (Chosen drops (slice_index reps) k r old new) (sym is_assign)
        (inr (
          stay,
          subst (λ (q : List ℕ). Entered old new q k r)
              (same ∙ ap (λ (n : ℕ). key_of (Assign result code n)) rep) entered,
        ))
