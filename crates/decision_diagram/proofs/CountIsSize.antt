-- The nodes that are reached, counted by places of the order.
use Rattle.std.proofs.Common.{◌≡◌, ⊎_elim, ℕ, zero, suc, ◌+◌, ◌-◌, ◌<◌, ◌≤◌, Bool, true, false, cond, ◌&&◌, ◌||◌, List, [], ◌∷◌, ◌++◌, map, length, take, drop, replicate, slice_index, slice_set, get_or, Option, Some, None, refl, ap, sym, subst, ◌∙◌, arith, eqb, ltb, get_or-drop, get_or-take, get_or-set_same, get_or-set_other, length-append, length-take}
use Rattle.std.specs.Prelude.{filter, count_by, Contains, slice_index_or}
use Rattle.std.specs.List.{list_any}
use Rattle.std.proofs.lemmas.Bool.{and_parts, and_from, cases_Bool, eqb-true, eq-eqb, true≢false, true_from_ne_false, ltb-true, or_cases, or_left, or_right}
use Rattle.std.proofs.lemmas.List.{append_assoc, append-nil, map-append, take_more, take-append-drop, drop_more}
use Rattle.polis_base.specs.Lists.{upto}
use Rattle.polis_base.proofs.Lists.{drop_prefix, some_item}
use Rattle.domains.specs.Tables.{fits}
use Rattle.domains.specs.Orders.{place}
use Rattle.decision_diagram.specs.Diagrams.{Diagrams, Node, inner_at, step, level_of, IsNode, AreReduced, Means, kids_of, kids_in}
use Rattle.decision_diagram.specs.Reached.{Walk, Reaches, marked, CountsReached}
use Rattle.domains.specs.AllCodes.{all_codes}
use Rattle.decision_diagram.specs.Sizes.{levels, size_along}
use Rattle.decision_diagram.specs.Leading.{LeadTo}
use Rattle.decision_diagram.proofs.AllCodes.{lists_fit, none_lists}
use Rattle.decision_diagram.proofs.ByVariable.{along, follow_along, chosen_fits, item_at}
use Rattle.decision_diagram.proofs.Distinct.{differing_count, count_none, count_either, count_last}
use Rattle.decision_diagram.proofs.AppendedLists.{reaches_child}
use Rattle.decision_diagram.proofs.Prefixes.{led_codes}
use Rattle.decision_diagram.proofs.Nodes.{cases_inner, inner_low, none_low}
use Rattle.decision_diagram.proofs.Paths.{lead_root, lead_kid}
use Rattle.domains.proofs.Places.{place_of_item}
use Rattle.decision_diagram.proofs.Truths.{reads, sizes_at, nodes_after, ordered_value, root_after, level_at, every_filter, every_map}
use Rattle.decision_diagram.proofs.Values.{level_some, level_below, item_at_level}
use Rattle.domains.proofs.Ranks.{length_fits, fits_zeros}
use Rattle.domains.proofs.FittingCodes.{fits_set_any}
use Rattle.polis_base.proofs.Bools.{same_truth}
use Rattle.polis_base.proofs.ListTests.{count_append}

-- ---- each node that is reached is led to by some codes
pub lead_further : (s : Diagrams) → AreReduced s → (root k : ℕ) (node : Node) (c : ℕ)
    → inner_at s.nodes k ≡ Some node → c < length node.kids → (a : List ℕ) → fits s.sizes a ≡ true
    → LeadTo s root a k → (b : List ℕ) × (fits s.sizes b ≡ true)
    × LeadTo s root b (slice_index node.kids c)
lead_further s ok root k node c is low a fit at =
    let good = ok.nodes k node is in
    let var : node.var < length s.sizes = good.var in
    let kids : length node.kids ≡ slice_index s.sizes node.var = good.kids in
    let long = length_fits s.sizes a fit in
    let i = level_of s k in
    let below : i < length s.order = level_below s ok k node is in
    let own_level : i ≡ place s.order node.var = level_some s k node is in
    let b : List ℕ = slice_set a node.var c in
    let own : slice_index b node.var ≡ c = get_or-set_same a node.var c 0 (omega arith) in
    let there : LeadTo s root b k =
    led_codes s i root b a (omega arith)
    (λ j less. get_or-set_other a node.var (slice_index s.order j) c 0 (λ same.
    let f = ap (place s.order) same in
    let g = place_of_item s.order ok.order j (omega arith) in
    absurd (omega arith)))
    ∙ at
    in
    let on = lead_kid s ok root k node b is there (omega arith) in
    (b, fits_set_any s.sizes a fit node.var c (omega arith), rw own at on)

pub lead_codes : (s : Diagrams) → AreReduced s → (root : ℕ) (steps n : ℕ) → Walk s root n steps
    → (a : List ℕ) × (fits s.sizes a ≡ true) × LeadTo s root a n
lead_codes s ok root zero n same =
    let zeros : List ℕ = replicate (length s.sizes) 0 in (
      zeros,
      fits_zeros s.sizes ok.sizes,
      subst (λ (m : ℕ). LeadTo s root zeros m) same (lead_root s ok root zeros),
    )
lead_codes s ok root (suc steps) n walk =
    let k = walk.0 in
    let before = lead_codes s ok root steps k walk.1 in
    ⊎_elim
    (λ none. absurd (nowhere (kids_of s k) n (ap kids_in none) walk.2))
    (λ some.
    let node = some.0 in
    let there : Contains node.kids n = rw (ap kids_in (some.1)) at (walk.2) in
    let c = there.0 in
    let low : c < length node.kids = there.1 in
    let kid : slice_index node.kids c ≡ n = default_too node.kids c n low ∙ there.2 in
    rw kid at (lead_further s ok root k node c some.1 low before.0 before.1 before.2))
    (cases_inner s.nodes k)
  where
    nowhere : (kids : List ℕ) (n : ℕ) → kids ≡ [] → Contains kids n → ⊥
    nowhere kids n none there = let e : length kids ≡ 0 = ap (λ (xs : List ℕ). length xs) none in
        let low : there.0 < length kids = there.1 in omega arith

    default_too : (xs : List ℕ) (i d : ℕ) → i < length xs → slice_index xs i ≡ slice_index_or xs i d
    default_too [] i d low = absurd (omega arith)
    default_too (x ∷ xs) zero d low = refl
    default_too (x ∷ xs) (suc i) d low = default_too xs i d (omega arith)

-- ---- members
any_filter_map : {X : Type 0} (m : ℕ) (r : ℕ → Bool) (h : X → ℕ) (xs : List X)
    → list_any (eqb m) (filter r (map h xs)) ≡ list_any (λ x. r (h x) && eqb m (h x)) xs
any_filter_map m r h [] = refl
any_filter_map m r h (x ∷ xs) =
    ⊎_elim
    (λ on.
    ap (λ (b : Bool). list_any (eqb m) (cond b (h x ∷ filter r (map h xs)) (filter r (map h xs))))
    on
    ∙ ap (λ (b : Bool). eqb m (h x) || b) (any_filter_map m r h xs)
    ∙ sym (ap (λ (b : Bool). (b && eqb m (h x)) || list_any (λ x. r (h x) && eqb m (h x)) xs) on))
    (λ off.
    ap (λ (b : Bool). list_any (eqb m) (cond b (h x ∷ filter r (map h xs)) (filter r (map h xs))))
    off
    ∙ any_filter_map m r h xs
    ∙ sym (ap (λ (b : Bool). (b && eqb m (h x)) || list_any (λ x. r (h x) && eqb m (h x)) xs) off))
    (cases_Bool (r (h x)))

-- the variables that are read at the places of a list are of it
item_after : (xs ys : List ℕ) (v j : ℕ)
    → slice_index (xs ++ v ∷ ys) (length xs + suc j) ≡ slice_index ys j
item_after xs ys v j = sym (get_or-drop (length xs) (xs ++ v ∷ ys) (suc j) 0)
    ∙ ap (λ (zs : List ℕ). slice_index zs (suc j)) (drop_prefix xs (v ∷ ys) (length xs) refl)

one_variable : (o : Option Node) (v w : ℕ) → reads o v ≡ true → reads o w ≡ true → v ≡ w
one_variable None v w on too = absurd (true≢false (sym on))
one_variable (Some node) v w on too = sym (eqb-true node.var v on) ∙ eqb-true node.var w too

-- ---- marks
count_marks : (p : ℕ → Bool) (marks : List Bool) → p 0 ≡ false → p 1 ≡ false
    → ((k : ℕ) → k < length marks → p (k + 2) ≡ get_or marks k false) → (k : ℕ) → k ≤ length marks
    → count_by p (upto (suc (suc k))) ≡ count_by (λ b. b) (take k marks)
count_marks p marks zero_off one_off same zero h =
    let a = count_last p 1 in
    let b = count_last p 0 in
    let x : cond {A = ℕ} (p 0) 1 0 ≡ 0 = ap (λ (c : Bool). cond {A = ℕ} c 1 0) zero_off in
    let y : cond {A = ℕ} (p 1) 1 0 ≡ 0 = ap (λ (c : Bool). cond {A = ℕ} c 1 0) one_off in
    let none : count_by p (upto 0) ≡ 0 = refl in
    let empty : count_by {X = Bool} (λ b. b) (take 0 marks) ≡ 0 = refl in
    omega arith
count_marks p marks zero_off one_off same (suc k) h =
    let rest = count_marks p marks zero_off one_off same k (omega arith) in
    let a = count_last p (suc (suc k)) in
    let two : k + 2 ≡ suc (suc k) = omega arith in
    let e : p (suc (suc k)) ≡ get_or marks k false = rw two at (same k (omega arith)) in
    let f : cond {A = ℕ} (p (suc (suc k))) 1 0 ≡ cond {A = ℕ} (get_or marks k false) 1 0 =
    ap (λ (c : Bool). cond {A = ℕ} c 1 0) e in
    let more : take (k + 1) marks ≡ take k marks ++ get_or marks k false ∷ [] =
    take_more marks k false (omega arith) in
    let one : k + 1 ≡ suc k = omega arith in
    let g : count_by {X = Bool} (λ b. b) (take (suc k) marks)
    ≡ count_by {X = Bool} (λ b. b) (take k marks ++ get_or marks k false ∷ []) =
    ap (λ (n : ℕ). count_by {X = Bool} (λ b. b) (take n marks)) (sym one)
    ∙ ap (λ (xs : List Bool). count_by (λ b. b) xs) more in
    let i = count_append {X = Bool} (λ b. b) (take k marks) (get_or marks k false ∷ []) in
    let last : count_by {X = Bool} (λ b. b) (get_or marks k false ∷ [])
    ≡ cond {A = ℕ} (get_or marks k false) 1 0 = omega arith in
    omega arith

module _ (s : Diagrams) (ok : AreReduced s) (root : ℕ) (in_root : IsNode s root) (f : List ℕ → Bool)
    (means : Means s root f) where
  -- the nodes of a variable that are read after those before it
  abbrev members : List ℕ → ℕ → List ℕ
  members before v = filter (λ n. reads (inner_at s.nodes n) v) (nodes_after s root before)

  -- it is read at some place from here on
  abbrev is_read : List ℕ → List ℕ → ℕ → Bool
  is_read before [] m = false
  is_read before (v ∷ vs) m = list_any (eqb m) (members before v) || is_read (before ++ v ∷ []) vs m

  member_reads : (before : List ℕ) (v m : ℕ) → list_any (eqb m) (members before v) ≡ true
      → reads (inner_at s.nodes m) v ≡ true
  member_reads before v m h =
      let any = sym (any_filter_map m (λ n. reads (inner_at s.nodes n) v)
      (λ codes. along s.nodes before codes root) (all_codes (sizes_at s before))) ∙ h in
      let some = some_item (fits (sizes_at s before))
      (λ codes. reads (inner_at s.nodes (along s.nodes before codes root)) v
      && eqb m (along s.nodes before codes root)) (all_codes (sizes_at s before))
      (lists_fit (sizes_at s before)) any in
      let n = along s.nodes before some.0 root in
      let parts = and_parts (reads (inner_at s.nodes n) v) (eqb m n) some.2 in
      let e : m ≡ n = eqb-true m n parts.1 in
      rw e parts.0

  read_later : (vars before : List ℕ) (m : ℕ) → is_read before vars m ≡ true
      → (j : ℕ) × (j < length vars) × (reads (inner_at s.nodes m) (slice_index vars j) ≡ true)
  read_later [] before m h = absurd (true≢false (sym h))
  read_later (v ∷ vs) before m h =
      ⊎_elim
      (λ here. (0, omega arith, member_reads before v m here))
      (λ later. let rest = read_later vs (before ++ v ∷ []) m later in
      (suc (rest.0), omega (arith, rest.1), rest.2))
      (or_cases (list_any (eqb m) (members before v)) (is_read (before ++ v ∷ []) vs m) h)

  counts : (vars before : List ℕ) → s.order ≡ before ++ vars
      → levels (ordered_value s ok root in_root f means) (sizes_at s before) (sizes_at s vars)
      ≡ count_by (is_read before vars) (upto (length s.nodes + 2))
  counts [] before split = sym (count_none (length s.nodes + 2))
  counts (v ∷ vs) before split =
      let total = length s.nodes + 2 in
      let split_too : s.order ≡ (before ++ v ∷ []) ++ vs =
      split ∙ sym (append_assoc before (v ∷ []) vs) in
      let long : length s.order ≡ length before + length (v ∷ vs) =
      ap (λ (o : List ℕ). length o) split ∙ length-append before (v ∷ vs) in
      let here = level_at s ok root in_root f means before vs v split in
      let few = differing_count (members before v) total
      (every_filter (λ n. n < total) (λ n. reads (inner_at s.nodes n) v) (nodes_after s root before)
      (every_map (λ n. n < total) (fits (sizes_at s before))
      (λ codes. along s.nodes before codes root) (all_codes (sizes_at s before))
      (lists_fit (sizes_at s before)) (λ codes fit.
      (root_after s ok root in_root f means before (v ∷ vs) codes split fit).1)))
      in
      let rest = counts vs (before ++ v ∷ []) split_too in
      let longer : sizes_at s (before ++ v ∷ []) ≡ sizes_at s before ++ slice_index s.sizes v ∷ [] =
      map-append (slice_index s.sizes) before (v ∷ []) in
      let rest_too = rw longer at rest in
      let both = count_either (λ m. list_any (eqb m) (members before v))
      (is_read (before ++ v ∷ []) vs) total (λ m low on later.
      let there = read_later vs (before ++ v ∷ []) m later in
      let j = there.0 in
      let inside : j < length vs = there.1 in
      let same : v ≡ slice_index vs j =
      one_variable (inner_at s.nodes m) v (slice_index vs j) (member_reads before v m on)
      there.2 in
      let at_v : slice_index s.order (length before) ≡ v =
      ap (λ (o : List ℕ). slice_index o (length before)) split ∙ item_at before vs v in
      let at_w : slice_index s.order (length before + suc j) ≡ slice_index vs j =
      ap (λ (o : List ℕ). slice_index o (length before + suc j)) split
      ∙ item_after before vs v j in
      ok.order.distinct (length before) (length before + suc j) (omega arith) (omega arith)
      (at_v ∙ same ∙ sym at_w))
      in
      ap (λ (n : ℕ). n + levels (ordered_value s ok root in_root f means)
      (sizes_at s before ++ slice_index s.sizes v ∷ []) (sizes_at s vs)) (here ∙ few)
      ∙ ap (λ (n : ℕ). count_by (λ m. list_any (eqb m) (members before v)) (upto total) + n)
      rest_too
      ∙ sym both

  -- ---- read somewhere is reached
  along_reaches : (vars codes : List ℕ) (n : ℕ) → fits (sizes_at s vars) codes ≡ true
      → Reaches s root n → Reaches s root (along s.nodes vars codes n)
  along_reaches [] codes n fit there = there
  along_reaches (v ∷ vs) [] n fit there = there
  along_reaches (v ∷ vs) (code ∷ codes) n fit there =
      let parts = and_parts (ltb code (slice_index s.sizes v)) (fits (sizes_at s vs) codes) fit in
      let low = ltb-true code (slice_index s.sizes v) parts.0 in
      along_reaches vs codes (step (inner_at s.nodes n) v code n) parts.1
      (one (inner_at s.nodes n) refl low)
    where
      one : (o : Option Node) → inner_at s.nodes n ≡ o → code < slice_index s.sizes v
          → Reaches s root (step o v code n)
      one None is low = there
      one (Some node) is low =
          ⊎_elim
          (λ on.
          let var : node.var ≡ v = eqb-true node.var v on in
          let kids : length node.kids ≡ slice_index s.sizes node.var = (ok.nodes n node is).kids in
          let size : slice_index s.sizes node.var ≡ slice_index s.sizes v =
          ap (slice_index s.sizes) var in
          rw on (reaches_child s root n node code there is (omega arith)))
          (λ off. rw off there)
          (cases_Bool (eqb node.var v))

  read_reached : (vars before : List ℕ) (m : ℕ) → is_read before vars m ≡ true → Reaches s root m
  read_reached [] before m h = absurd (true≢false (sym h))
  read_reached (v ∷ vs) before m h =
      ⊎_elim
      (λ here.
      let any = sym (any_filter_map m (λ n. reads (inner_at s.nodes n) v)
      (λ codes. along s.nodes before codes root) (all_codes (sizes_at s before))) ∙ here in
      let some = some_item (fits (sizes_at s before))
      (λ codes. reads (inner_at s.nodes (along s.nodes before codes root)) v
      && eqb m (along s.nodes before codes root)) (all_codes (sizes_at s before))
      (lists_fit (sizes_at s before)) any in
      let n = along s.nodes before some.0 root in
      let parts = and_parts (reads (inner_at s.nodes n) v) (eqb m n) some.2 in
      let e : m ≡ n = eqb-true m n parts.1 in
      rw e (along_reaches before some.0 root some.1 (0, refl)))
      (λ later. read_reached vs (before ++ v ∷ []) m later)
      (or_cases (list_any (eqb m) (members before v)) (is_read (before ++ v ∷ []) vs m) h)

  -- ---- and what is reached is read somewhere
  read_at : (pre : List ℕ) (before rest : List ℕ) (v m : ℕ)
      → list_any (eqb m) (members (before ++ pre) v) ≡ true
      → is_read before (pre ++ v ∷ rest) m ≡ true
  read_at [] before rest v m h =
      or_left (list_any (eqb m) (members before v)) (is_read (before ++ v ∷ []) rest m)
      (rw (append-nil before) at h)
  read_at (x ∷ pre) before rest v m h =
      or_right (list_any (eqb m) (members before x))
      (is_read (before ++ x ∷ []) (pre ++ v ∷ rest) m)
      (read_at pre (before ++ x ∷ []) rest v m (rw (append_assoc before (x ∷ []) pre) h))

  reached_read : (m : ℕ) (node : Node) → inner_at s.nodes m ≡ Some node → Reaches s root m
      → is_read [] s.order m ≡ true
  reached_read m node is there =
      let some = lead_codes s ok root there.0 m there.1 in
      let a : List ℕ = some.0 in
      let i = level_of s m in
      let below : i < length s.order = level_below s ok m node is in
      let lengths : length s.order ≡ length s.sizes = ok.lengths in
      let pre : List ℕ = take i s.order in
      let codes : List ℕ = map (slice_index a) pre in
      let v = slice_index s.order i in
      let var : v ≡ node.var = item_at_level s ok m node is in
      let at : along s.nodes pre codes root ≡ m = sym (follow_along s.nodes pre a root) ∙ some.2 in
      let fit : fits (sizes_at s pre) codes ≡ true = chosen_fits s.sizes a pre some.1 (λ j low.
      let inside : j < i = omega (arith, length-take i s.order) in
      let e = ok.order.below j (omega arith) in
      let g : slice_index pre j ≡ slice_index s.order j = taken i j inside in
      omega arith)
      in
      let on : reads (inner_at s.nodes m) v ≡ true =
      ap (λ (o : Option Node). reads o v) is ∙ eq-eqb node.var v (sym var) in
      let both : (reads (inner_at s.nodes (along s.nodes pre codes root)) v
      && eqb m (along s.nodes pre codes root))
      ≡ true = rw at (and_from (reads (inner_at s.nodes m) v) (eqb m m) on (eq-eqb m m refl)) in
      let member : list_any (eqb m) (members pre v) ≡ true =
      any_filter_map m (λ n. reads (inner_at s.nodes n) v) (λ codes. along s.nodes pre codes root)
      (all_codes (sizes_at s pre))
      ∙ true_from_ne_false
      (list_any (λ codes. reads (inner_at s.nodes (along s.nodes pre codes root)) v
      && eqb m (along s.nodes pre codes root)) (all_codes (sizes_at s pre))) (λ none.
      true≢false (sym both ∙ none_lists (sizes_at s pre)
      (λ codes. reads (inner_at s.nodes (along s.nodes pre codes root)) v
      && eqb m (along s.nodes pre codes root)) none codes fit))
      in
      let whole : pre ++ v ∷ drop (i + 1) s.order ≡ s.order =
      ap (λ (xs : List ℕ). pre ++ xs) (sym (drop_more s.order i 0 below))
      ∙ take-append-drop i s.order in
      rw whole at (read_at pre [] (drop (i + 1) s.order) v m member)
    where
      taken : (i j : ℕ) → j < i → slice_index (take i s.order) j ≡ slice_index s.order j
      taken i j low = get_or-take i s.order j 0 low

  -- The number of inner nodes that are reached is the size along the order.
  pub count_is_size : (count : ℕ) → CountsReached s root count
      → count ≡ size_along f s.sizes s.order
  count_is_size count reached =
      let p : ℕ → Bool = is_read [] s.order in
      let marks : List Bool = reached.marks in
      let long : length marks ≡ length s.nodes = reached.long in
      let off : (k : ℕ) → k < 2 → p k ≡ false = λ k low. same_truth (p k) false (λ on.
      let there = read_later s.order [] k on in
      let none : reads (inner_at s.nodes k) (slice_index s.order (there.0)) ≡ false =
      ap (λ (o : Option Node). reads o (slice_index s.order (there.0)))
      (inner_low s.nodes k low) in
      absurd (true≢false (sym (there.2) ∙ none))) (λ wrong. absurd (true≢false (sym wrong)))
      in
      let same : (k : ℕ) → k < length marks → p (k + 2) ≡ get_or marks k false = λ k low.
      let back : k + 2 - 2 ≡ k = omega arith in
      let mark : marked marks (k + 2) ≡ get_or marks k false =
      ap (λ (i : ℕ). get_or marks i false) back in
      let both = reached.each (k + 2) (omega arith) (omega arith) in
      same_truth (p (k + 2)) (get_or marks k false)
      (λ on. sym mark ∙ both.1 (read_reached s.order [] (k + 2) on))
      (λ on. inner_read_too (k + 2) (omega arith) (omega arith) (both.0 (mark ∙ on)))
      in
      let all = count_marks p marks (off 0 (omega arith)) (off 1 (omega arith)) same (length marks)
      (omega arith) in
      let total : suc (suc (length marks)) ≡ length s.nodes + 2 = omega arith in
      let split : s.order ≡ [] ++ s.order = refl in
      reached.number
      ∙ ap (λ (xs : List Bool). count_by (λ b. b) xs) (sym (take_all marks))
      ∙ sym all
      ∙ ap (λ (n : ℕ). count_by p (upto n)) total
      ∙ sym (counts s.order [] split)
    where
      take_all : (xs : List Bool) → take (length xs) xs ≡ xs
      take_all [] = refl
      take_all (x ∷ xs) = ap (λ (ys : List Bool). x ∷ ys) (take_all xs)

      inner_read_too : (m : ℕ) → 2 ≤ m → IsNode s m → Reaches s root m → is_read [] s.order m ≡ true
      inner_read_too m high in_m there =
          ⊎_elim
          (λ none. absurd (let low = none_low s.nodes m in_m none in omega arith))
          (λ some. reached_read m some.0 some.1 there)
          (cases_inner s.nodes m)
