-- The functions that arise at a place of the order, and the nodes that are read there.
use Rattle.std.proofs.Common.{◌≡◌, ⊎_elim, ℕ, zero, suc, ◌+◌, ◌<◌, ◌≤◌, Bool, true, false, cond, not, ◌||◌, List, [], ◌∷◌, ◌++◌, map, length, drop, slice_index, Option, Some, None, refl, ap, sym, ◌∙◌, arith, eqb, ltb, get_or-drop, length-append}
use Rattle.std.specs.Prelude.{filter}
use Rattle.std.specs.List.{list_all, list_any}
use Rattle.std.proofs.lemmas.Bool.{and_parts, and_from, cases_Bool, eqb-true, true≢false, true_from_ne_false, lt-ltb, ltb-true, or_from, not-false}
use Rattle.std.proofs.lemmas.List.{append_assoc, map-append}
use Rattle.polis_base.specs.Lists.{upto}
use Rattle.polis_base.proofs.Lists.{drop_prefix, none_upto}
use Rattle.domains.specs.Tables.{fits}
use Rattle.decision_diagram.specs.Diagrams.{Diagrams, Node, inner_at, step, follow, level_of, IsNode, AreReduced, Means}
use Rattle.domains.specs.AllCodes.{all_codes}
use Rattle.decision_diagram.specs.Truths.{same_truth, same_truths, different}
use Rattle.decision_diagram.specs.Sizes.{by_variable, truths, turns, depends, level}
use Rattle.decision_diagram.proofs.AllCodes.{lists_all, lists_fit}
use Rattle.decision_diagram.proofs.ByVariable.{along, follow_along, along_append, along_value, chosen_fits, item_at}
use Rattle.decision_diagram.proofs.Canonical.{canonical_from, child_level}
use Rattle.decision_diagram.proofs.Distinct.{Every, differing, different_map, same_maps, truth_equal, truths_self}
use Rattle.decision_diagram.proofs.Fits.{size_some}
use Rattle.decision_diagram.proofs.Nodes.{cases_inner, step_here}
use Rattle.decision_diagram.proofs.Values.{step_within}
use Rattle.domains.proofs.Ranks.{length_fits}
use Rattle.domains.proofs.FittingCodes.{fits_both}
use Rattle.polis_base.proofs.Places.{length_map}

-- ---- lists
pub map_on : {X Y : Type 0} (p : X → Bool) (g h : X → Y) (xs : List X) → list_all p xs ≡ true
    → ((x : X) → p x ≡ true → g x ≡ h x) → map g xs ≡ map h xs
map_on p g h [] all same = refl
map_on {Y = Y} p g h (x ∷ xs) all same =
    let parts = and_parts (p x) (list_all p xs) all in
    ap (λ (y : Y). y ∷ map g xs) (same x parts.0)
    ∙ ap (λ (ys : List Y). h x ∷ ys) (map_on p g h xs parts.1 same)

-- what is kept and then mapped, by numbers
map_filter : {X Y : Type 0} (p d : X → Bool) (t : X → Y) (r : ℕ → Bool) (T : ℕ → Y) (h : X → ℕ)
    (xs : List X) → list_all p xs ≡ true → ((x : X) → p x ≡ true → d x ≡ r (h x))
    → ((x : X) → p x ≡ true → t x ≡ T (h x)) → map t (filter d xs) ≡ map T (filter r (map h xs))
map_filter p d t r T h [] all same_d same_t = refl
map_filter {X = X} {Y = Y} p d t r T h (x ∷ xs) all same_d same_t =
    let parts = and_parts (p x) (list_all p xs) all in
    let rest = map_filter p d t r T h xs parts.1 same_d same_t in
    let e = same_d x parts.0 in
    ⊎_elim
    (λ on.
    let on_d = e ∙ on in
    ap (λ (b : Bool). map t (cond b (x ∷ filter d xs) (filter d xs))) on_d
    ∙ ap (λ (y : Y). y ∷ map t (filter d xs)) (same_t x parts.0)
    ∙ ap (λ (ys : List Y). T (h x) ∷ ys) rest
    ∙ sym (ap (λ (b : Bool). map T (cond b (h x ∷ filter r (map h xs)) (filter r (map h xs)))) on))
    (λ off.
    let off_d = e ∙ off in
    ap (λ (b : Bool). map t (cond b (x ∷ filter d xs) (filter d xs))) off_d
    ∙ rest
    ∙ sym (ap (λ (b : Bool). map T (cond b (h x ∷ filter r (map h xs)) (filter r (map h xs)))) off))
    (cases_Bool (r (h x)))

pub every_filter : (P : ℕ → Type 0) (r : ℕ → Bool) (xs : List ℕ) → Every P xs
    → Every P (filter r xs)
every_filter P r [] all = tt
every_filter P r (x ∷ xs) all =
    ⊎_elim
    (λ on. rw on (all.0, every_filter P r xs all.1))
    (λ off. rw off (every_filter P r xs all.1))
    (cases_Bool (r x))

pub every_map : {X : Type 0} (P : ℕ → Type 0) (p : X → Bool) (h : X → ℕ) (xs : List X)
    → list_all p xs ≡ true → ((x : X) → p x ≡ true → P (h x)) → Every P (map h xs)
every_map P p h [] all good = tt
every_map P p h (x ∷ xs) all good =
    let parts = and_parts (p x) (list_all p xs) all in
    (good x parts.0, every_map P p h xs parts.1 good)

any_append : {X : Type 0} (p : X → Bool) (xs ys : List X) → list_any p xs ≡ false
    → list_any p ys ≡ false → list_any p (xs ++ ys) ≡ false
any_append p [] ys prefix back = back
any_append p (x ∷ xs) ys prefix back =
    ⊎_elim
    (λ on. absurd (true≢false (sym (ap (λ (b : Bool). b || list_any p xs) on) ∙ prefix)))
    (λ off. or_from (p x) (list_any p (xs ++ ys)) off
    (any_append p xs ys (sym (ap (λ (b : Bool). b || list_any p xs) off) ∙ prefix) back))
    (cases_Bool (p x))

pub never_upto : (p : ℕ → Bool) (n : ℕ) → ((k : ℕ) → k < n → p k ≡ false)
    → list_any p (upto n) ≡ false
never_upto p zero off = refl
never_upto p (suc n) off =
    any_append p (upto n) (n ∷ []) (never_upto p n (λ k low. off k (omega arith)))
    (or_from (p n) false (off n (omega arith)) refl)

-- ---- nodes
-- the node is of this variable
abbrev pub reads : Option Node → ℕ → Bool
reads None v = false
reads (Some node) v = eqb node.var v

unread : (o : Option Node) (v code n : ℕ) → reads o v ≡ false → step o v code n ≡ n
unread None v code n off = refl
unread (Some node) v code n off = ap (λ (b : Bool). cond b (slice_index node.kids code) n) off

-- the sizes of some variables
abbrev pub sizes_at : Diagrams → List ℕ → List ℕ
sizes_at s vars = map (slice_index s.sizes) vars

-- the values of a node over all codes of the variables
abbrev pub values : Diagrams → List ℕ → ℕ → List Bool
values s vars n = map (λ codes. eqb (along s.nodes vars codes n) 1) (all_codes (sizes_at s vars))

-- it reads no variable before this place
abbrev pub After : Diagrams → ℕ → ℕ → Type 0
After s i n = (i ≤ level_of s n) × IsNode s n

-- the nodes that the codes of the variables lead to
abbrev pub nodes_after : Diagrams → ℕ → List ℕ → List ℕ
nodes_after s root before =
    map (λ codes. along s.nodes before codes root) (all_codes (sizes_at s before))

module _ (s : Diagrams) (ok : AreReduced s) where
  after_step : (before vs : List ℕ) (v n code : ℕ) → s.order ≡ before ++ v ∷ vs
      → After s (length before) n → code < slice_index s.sizes v
      → After s (length before + 1) (step (inner_at s.nodes n) v code n)
  after_step before vs v n code split good low =
      let i = length before in
      let here : slice_index s.order i ≡ v =
      ap (λ (o : List ℕ). slice_index o i) split ∙ item_at before vs v in
      let long : length s.order ≡ length before + length (v ∷ vs) =
      ap (λ (o : List ℕ). length o) split ∙ length-append before (v ∷ vs) in
      let low_too : code < slice_index s.sizes (slice_index s.order i) = rw here low in
      let from : i ≤ level_of s n = good.0 in
      let deeper = child_level s ok i n code from (omega arith) low_too in
      (rw here at deeper, step_within s ok n v code good.1)

  after_along : (vars done rest codes : List ℕ) (n : ℕ) → s.order ≡ done ++ (vars ++ rest)
      → fits (sizes_at s vars) codes ≡ true → After s (length done) n
      → After s (length done + length vars) (along s.nodes vars codes n)
  after_along [] done rest codes n split fit good = let e : length done + 0 ≡ length done =
      omega arith in rw e good
  after_along (v ∷ vs) done rest [] n split fit good = absurd (true≢false (sym fit))
  after_along (v ∷ vs) done rest (code ∷ codes) n split fit good =
      let parts = and_parts (ltb code (slice_index s.sizes v)) (fits (sizes_at s vs) codes) fit in
      let low = ltb_low code (slice_index s.sizes v) parts.0 in
      let one = after_step done (vs ++ rest) v n code split good low in
      let split_too : s.order ≡ (done ++ v ∷ []) ++ (vs ++ rest) =
      split ∙ sym (append_assoc done (v ∷ []) (vs ++ rest)) in
      let more : length (done ++ v ∷ []) ≡ length done + 1 = length-append done (v ∷ []) in
      let deep = after_along vs (done ++ v ∷ []) rest codes (step (inner_at s.nodes n) v code n)
      split_too parts.1 (rw more one) in
      let e : length (done ++ v ∷ []) + length vs ≡ length done + suc (length vs) = omega arith in
      rw e at deep
    where
      ltb_low : (a b : ℕ) → ltb a b ≡ true → a < b
      ltb_low a b h = ltb-true a b h

  -- nodes with the same values are the same
  values_same : (before vars : List ℕ) (a b : ℕ) → s.order ≡ before ++ vars
      → After s (length before) a → After s (length before) b
      → same_truths (values s vars a) (values s vars b) ≡ true → a ≡ b
  values_same before vars a b split good_a good_b same =
      let i = length before in
      let long : length s.order ≡ i + length vars =
      ap (λ (o : List ℕ). length o) split ∙ length-append before vars in
      let rest : drop i s.order ≡ vars =
      ap (λ (o : List ℕ). drop i o) split ∙ drop_prefix before vars i refl in
      let each = same_maps (λ codes. eqb (along s.nodes vars codes a) 1)
      (λ codes. eqb (along s.nodes vars codes b) 1) (all_codes (sizes_at s vars)) same in
      let lengths : length s.order ≡ length s.sizes = ok.lengths in
      canonical_from s ok (length vars) i (sym long) a b good_a.1 good_b.1 good_a.0 good_b.0
      (λ codes fit.
      let picked = map (slice_index codes) vars in
      let fit_too : fits (sizes_at s vars) picked ≡ true =
      chosen_fits s.sizes codes vars fit (λ j low.
      let at : slice_index (drop i s.order) j ≡ slice_index s.order (i + j) =
      get_or-drop i s.order j 0 in
      let e : slice_index vars j ≡ slice_index s.order (i + j) =
      ap (λ (o : List ℕ). slice_index o j) (sym rest) ∙ at in
      let below = ok.order.below (i + j) (omega arith) in
      omega arith)
      in
      let one = lists_all (sizes_at s vars)
      (λ codes. same_truth (eqb (along s.nodes vars codes a) 1)
      (eqb (along s.nodes vars codes b) 1)) each picked fit_too in
      let equal = truth_equal (eqb (along s.nodes vars picked a) 1)
      (eqb (along s.nodes vars picked b) 1) one in
      ap (λ (o : List ℕ). eqb (follow s.nodes o codes a) 1) rest
      ∙ ap (λ (m : ℕ). eqb m 1) (follow_along s.nodes vars codes a)
      ∙ equal
      ∙ sym (ap (λ (m : ℕ). eqb m 1) (follow_along s.nodes vars codes b))
      ∙ sym (ap (λ (o : List ℕ). eqb (follow s.nodes o codes b) 1) rest))

module _ (s : Diagrams) (ok : AreReduced s) (root : ℕ) (in_root : IsNode s root) (f : List ℕ → Bool)
    (means : Means s root f) where
  abbrev pub ordered_value : List ℕ → Bool
  ordered_value codes = f (by_variable s.order codes)

  pub root_after : (before vars codes : List ℕ) → s.order ≡ before ++ vars
      → fits (sizes_at s before) codes ≡ true
      → After s (length before) (along s.nodes before codes root)
  root_after before vars codes split fit =
      let start : After s 0 root = (omega arith, in_root) in
      let e : 0 + length before ≡ length before = omega arith in
      rw e at (after_along s ok before [] vars codes root split fit start)

  -- a function that arises is the values of the node that its prefix leads to
  truths_at : (before vars prefix : List ℕ) → s.order ≡ before ++ vars
      → fits (sizes_at s before) prefix ≡ true
      → truths ordered_value (sizes_at s vars) prefix
      ≡ values s vars (along s.nodes before prefix root)
  truths_at before vars prefix split fit =
      map_on (fits (sizes_at s vars)) (λ codes. ordered_value (prefix ++ codes))
      (λ codes. eqb (along s.nodes vars codes (along s.nodes before prefix root)) 1)
      (all_codes (sizes_at s vars)) (lists_fit (sizes_at s vars)) (λ codes fit_codes.
      let both : fits (sizes_at s (before ++ vars)) (prefix ++ codes) ≡ true =
      rw (map-append (slice_index s.sizes) before vars)
      (fits_both (sizes_at s before) (sizes_at s vars) prefix codes fit fit_codes) in
      let whole : fits (sizes_at s s.order) (prefix ++ codes) ≡ true = rw split both in
      let long : length prefix ≡ length before =
      length_fits (sizes_at s before) prefix fit ∙ length_map (slice_index s.sizes) before in
      along_value s ok root f means (prefix ++ codes) whole
      ∙ ap (λ (o : List ℕ). eqb (along s.nodes o (prefix ++ codes) root) 1) split
      ∙ ap (λ (m : ℕ). eqb m 1) (along_append s.nodes before vars prefix codes root long))

  one_more : (before vs prefix : List ℕ) (v code : ℕ) → s.order ≡ before ++ v ∷ vs
      → fits (sizes_at s before) prefix ≡ true → code < slice_index s.sizes v
      → truths ordered_value (sizes_at s vs) (prefix ++ code ∷ [])
      ≡ values s vs (step (inner_at s.nodes (along s.nodes before prefix root)) v code
      (along s.nodes before prefix root))
  one_more before vs prefix v code split fit low =
      let split_too : s.order ≡ (before ++ v ∷ []) ++ vs =
      split ∙ sym (append_assoc before (v ∷ []) vs) in
      let last : fits (slice_index s.sizes v ∷ []) (code ∷ []) ≡ true =
      and_from (ltb code (slice_index s.sizes v)) true (lt-ltb code (slice_index s.sizes v) low)
      refl in
      let fit_too : fits (sizes_at s (before ++ v ∷ [])) (prefix ++ code ∷ []) ≡ true =
      rw (map-append (slice_index s.sizes) before (v ∷ []))
      (fits_both (sizes_at s before) (slice_index s.sizes v ∷ []) prefix (code ∷ []) fit
      last) in
      let long : length prefix ≡ length before =
      length_fits (sizes_at s before) prefix fit ∙ length_map (slice_index s.sizes) before in
      truths_at (before ++ v ∷ []) vs (prefix ++ code ∷ []) split_too fit_too
      ∙ ap (values s vs) (along_append s.nodes before (v ∷ []) prefix (code ∷ []) root long)

  size_there : (before vs : List ℕ) (v : ℕ) → s.order ≡ before ++ v ∷ vs → 1 ≤ slice_index s.sizes v
  size_there before vs v split =
      let i = length before in
      let here : slice_index s.order i ≡ v =
      ap (λ (o : List ℕ). slice_index o i) split ∙ item_at before vs v in
      let long : length s.order ≡ length before + length (v ∷ vs) =
      ap (λ (o : List ℕ). length o) split ∙ length-append before (v ∷ vs) in
      let lengths : length s.order ≡ length s.sizes = ok.lengths in
      let below : slice_index s.order i < length s.order = ok.order.below i (omega arith) in
      size_some s.sizes ok.sizes v (omega arith)

  -- a function depends on the next variable exactly where its node is of that variable
  depends_at : (before vs prefix : List ℕ) (v : ℕ) → s.order ≡ before ++ v ∷ vs
      → fits (sizes_at s before) prefix ≡ true
      → depends ordered_value (slice_index s.sizes v) (sizes_at s vs) prefix
      ≡ reads (inner_at s.nodes (along s.nodes before prefix root)) v
  depends_at before vs prefix v split fit =
      let n = along s.nodes before prefix root in
      let size = slice_index s.sizes v in
      let some = size_there before vs v split in
      let there = root_after before (v ∷ vs) prefix split fit in
      ⊎_elim
      (λ on.
      true_from_ne_false (depends ordered_value size (sizes_at s vs) prefix) (λ off.
      same_kids before vs prefix v split fit on (λ code low.
      not-false (same_truths (truths ordered_value (sizes_at s vs) (prefix ++ code ∷ []))
      (truths ordered_value (sizes_at s vs) (prefix ++ 0 ∷ [])))
      (none_upto (turns ordered_value (sizes_at s vs) prefix) size off code low)))
      ∙ sym on)
      (λ off.
      never_upto (turns ordered_value (sizes_at s vs) prefix) size (λ code low.
      let one = one_more before vs prefix v code split fit low
      ∙ ap (values s vs) (unread (inner_at s.nodes n) v code n off) in
      let zero_too = one_more before vs prefix v 0 split fit (omega arith)
      ∙ ap (values s vs) (unread (inner_at s.nodes n) v 0 n off) in
      ap not
      (ap (λ (fs : List Bool). same_truths fs
      (truths ordered_value (sizes_at s vs) (prefix ++ 0 ∷ []))) (one ∙ sym zero_too)
      ∙ truths_self (truths ordered_value (sizes_at s vs) (prefix ++ 0 ∷ []))))
      ∙ sym off)
      (cases_Bool (reads (inner_at s.nodes n) v))
    where
      same_kids : (before vs prefix : List ℕ) (v : ℕ) → s.order ≡ before ++ v ∷ vs
          → fits (sizes_at s before) prefix ≡ true
          → reads (inner_at s.nodes (along s.nodes before prefix root)) v ≡ true
          → ((code : ℕ) → code < slice_index s.sizes v
          → same_truths (truths ordered_value (sizes_at s vs) (prefix ++ code ∷ []))
          (truths ordered_value (sizes_at s vs) (prefix ++ 0 ∷ [])) ≡ true) → ⊥
      same_kids before vs prefix v split fit on same =
          let n = along s.nodes before prefix root in
          let some = size_there before vs v split in
          let there = root_after before (v ∷ vs) prefix split fit in
          ⊎_elim
          (λ none. true≢false (sym on ∙ ap (λ (o : Option Node). reads o v) none))
          (λ inner.
          let node = inner.0 in
          let is : inner_at s.nodes n ≡ Some node = inner.1 in
          let var : node.var ≡ v =
          eqb-true node.var v (sym (ap (λ (o : Option Node). reads o v) is) ∙ on) in
          let good = ok.nodes n node is in
          let kids : length node.kids ≡ slice_index s.sizes node.var = good.kids in
          let size : slice_index s.sizes node.var ≡ slice_index s.sizes v =
          ap (slice_index s.sizes) var in
          let split_too : s.order ≡ (before ++ v ∷ []) ++ vs =
          split ∙ sym (append_assoc before (v ∷ []) vs) in
          let more : length (before ++ v ∷ []) ≡ length before + 1 =
          length-append before (v ∷ []) in
          good.varied (slice_index node.kids 0) (λ code low.
          let inside : code < slice_index s.sizes v = omega arith in
          let kid = step_here (inner_at s.nodes n) node v code n is var in
          let kid_zero = step_here (inner_at s.nodes n) node v 0 n is var in
          let after_kid = after_step s ok before vs v n code split there inside in
          let after_zero = after_step s ok before vs v n 0 split there (omega arith) in
          let e : same_truths (values s vs (step (inner_at s.nodes n) v code n))
          (values s vs (step (inner_at s.nodes n) v 0 n)) ≡ true =
          rw (
            ← one_more before vs prefix v code split fit inside,
            ← one_more before vs prefix v 0 split fit (omega arith),
          ) (same code inside) in
          sym kid ∙ values_same s ok (before ++ v ∷ []) vs (step (inner_at s.nodes n) v code n)
          (step (inner_at s.nodes n) v 0 n) split_too (rw more after_kid) (rw more after_zero) e
          ∙ kid_zero))
          (cases_inner s.nodes n)

  -- so at a place there are as many functions as nodes of the variable there
  pub level_at : (before vs : List ℕ) (v : ℕ) → s.order ≡ before ++ v ∷ vs
      → level ordered_value (sizes_at s before) (slice_index s.sizes v) (sizes_at s vs)
      ≡ differing (filter (λ n. reads (inner_at s.nodes n) v) (nodes_after s root before))
  level_at before vs v split =
      ap different
      (map_filter (fits (sizes_at s before))
      (depends ordered_value (slice_index s.sizes v) (sizes_at s vs))
      (truths ordered_value (sizes_at s (v ∷ vs))) (λ n. reads (inner_at s.nodes n) v)
      (values s (v ∷ vs)) (λ codes. along s.nodes before codes root)
      (all_codes (sizes_at s before)) (lists_fit (sizes_at s before))
      (λ prefix fit. depends_at before vs prefix v split fit)
      (λ prefix fit. truths_at before (v ∷ vs) prefix split fit))
      ∙ different_map (values s (v ∷ vs)) (After s (length before))
      (λ a b good_a good_b same. values_same s ok before (v ∷ vs) a b split good_a good_b same)
      (filter (λ n. reads (inner_at s.nodes n) v) (nodes_after s root before))
      (every_filter (After s (length before)) (λ n. reads (inner_at s.nodes n) v)
      (nodes_after s root before)
      (every_map (After s (length before)) (fits (sizes_at s before))
      (λ codes. along s.nodes before codes root) (all_codes (sizes_at s before))
      (lists_fit (sizes_at s before)) (λ codes fit.
      root_after before (v ∷ vs) codes split fit)))
