-- Diagrams of points.
use Rattle.std.proofs.Common.{◌≡◌, ◌≢◌, ⊎_elim, ℕ, zero, suc, ◌+◌, ◌<◌, ◌≤◌, Bool, true, false, cond, ◌&&◌, ◌||◌, ◌==◌, List, ◌∷◌, ◌++◌, length, take, drop, slice_get, slice_index, slice_set, get_or, Some, refl, ap, sym, subst, ◌∙◌, arith, ltb, nat_lt, length-append, []}
use Rattle.std.specs.Prelude.{filter, IsTrue, ◌↔◌}
use Rattle.std.specs.List.{list_all, list_any}
use Rattle.std.specs.Cmp.Lexicographic.{same_text}
use Rattle.std.proofs.lemmas.Bool.{and_parts, and_from, cases_eq, cases_lt, eq-eqb, ne_eqb, eqb-true, ltb-true}
use Rattle.std.proofs.lemmas.Grind.{same_number_lists}
use Rattle.std.proofs.lemmas.List.{append-nil, get_or_default, get_or-set_same, get_or-set_other, drop_more, take_more, take-append-drop}
use Rattle.polis_base.specs.Lists.{upto}
use Rattle.polis_base.proofs.Lists.{some_item}
use Rattle.domains.specs.Tables.{fits, rank}
use Rattle.transition_table.specs.declared.machine.Machine.{Machine}
use Rattle.transition_table.specs.Laws.{ResultsFit, CharByTest}
use Rattle.domains.specs.AllCodes.{all_codes}
use Rattle.domains.specs.Orders.{IsPermutation, place}
use Rattle.decision_diagram.specs.Diagrams.{Diagrams, IsNode, Means, Keeps, AreReduced, level_of, value_of, choice}
use Rattle.decision_diagram.specs.Laws.{CountIsSize}
use Rattle.decision_diagram.specs.Reached.{CountsReached}
use Rattle.decision_diagram.specs.Sizes.{size_along}
use Rattle.transition_table.specs.Transitions.{IsDeterministic}
use Rattle.transition_table.specs.Orders.{Char, sizes_of}
use Rattle.char_function.specs.Sizes.{Decides, IsSize}
use Rattle.transition_table.specs.Computed.{char, result_codes}
use Rattle.char_function.specs.inner.Points.{at_point, point, points}
use Rattle.char_function.specs.inner.Groups.{agrees, some_agrees, with_code, is_group}
use Rattle.decision_diagram.proofs.AllCodes.{all_map, lists_fit}
use Rattle.transition_table.proofs.SupportByTest.{char_there}
use Rattle.decision_diagram.proofs.Fits.{fits_at}
use Rattle.decision_diagram.proofs.ListItems.{read, read_within, read_some}
use Rattle.domains.proofs.Places.{place_of_item, at_place, place_below}
use Rattle.char_function.proofs.AreSupports.{all_weaken, below_upto, filter_all}
use Rattle.char_function.proofs.Varies.{any_found}
use Rattle.char_function.proofs.IsTableOf.{points_fit}
use Rattle.char_function.proofs.CodesByRank.{at_rank}
use Rattle.domains.proofs.Ranks.{length_fits}
use Rattle.domains.proofs.FittingCodes.{fits_prefix}
use Rattle.polis_base.proofs.Bools.{same_truth}
use Rattle.polis_base.proofs.ListTests.{all_get, filter_append}
use Rattle.polis_base.proofs.Places.{get_map, index_end}

-- The children so far: one for each code, true where one of the points with that code agrees on
-- what is results_after.
pub record AreKids (points : List (List ℕ)) (old s : Diagrams) (place var : ℕ) (group kids : List ℕ)
    (code : ℕ) : Type 0 where
  pub long : length kids ≡ code
  pub means : (c : ℕ) → c < code
      → Means s (slice_index kids c)
      (some_agrees points old.order (place + 1) (with_code points var group c))
  pub levels : (c : ℕ) → c < code → place + 1 ≤ level_of s (slice_index kids c)

-- the variable at a place of the order
pub record IsAt (s : Diagrams) (i var : ℕ) : Type 0 where
  pub low : i < length s.order
  pub is : slice_index s.order i ≡ var
  pub inside : var < length s.sizes
  pub place : place s.order var ≡ i

pub at_var : (s : Diagrams) (order : List ℕ) (i var len : ℕ) → AreReduced s → order ≡ s.order
    → i ≤ length s.order → (i ≡ len → ⊥) → len ≡ length order → slice_get order i ≡ Some var
    → IsAt s i var
at_var s order i var len ok same most other size get =
    let long = ap (λ (xs : List ℕ). length xs) same in
    let low : i < length s.order =
    ⊎_elim (λ less. less) (λ more. absurd (other (let e : i ≡ len = omega arith in e)))
    (cases_lt i (length s.order)) in
    let is : slice_index s.order i ≡ var =
    read s.order i var 0 (ap (λ (xs : List ℕ). slice_get xs i) (sym same) ∙ get) in
    let below = ok.order.below i low in
    let lengths : length s.order ≡ length s.sizes = ok.lengths in
    record {
      low = low;
      is = is;
      inside = omega arith;
      place = ap (place s.order) (sym is) ∙ place_of_item s.order ok.order i low;
    }

pub means_kept : (s new : Diagrams) (n : ℕ) (f : List ℕ → Bool) → Keeps s new → Means s n f
    → Means new n f
means_kept s new n f kept means = record {
  node = kept.nodes n means.node;
  value = λ codes fit. kept.values n codes means.node ∙ means.value codes (rw kept.sizes at fit);
}

kid_front : (xs : List ℕ) (n i : ℕ) → i < length xs
    → slice_index (xs ++ n ∷ []) i ≡ slice_index xs i
kid_front [] n i low = absurd (omega arith)
kid_front (x ∷ xs) n zero low = refl
kid_front (x ∷ xs) n (suc i) low = kid_front xs n i (omega arith)

pub kids_more : (points : List (List ℕ)) (old s new : Diagrams) (place var : ℕ)
    (group kids : List ℕ) (code n : ℕ) → AreKids points old s place var group kids code
    → Keeps old s → Keeps s new
    → Means new n (some_agrees points s.order (place + 1) (with_code points var group code))
    → place + 1 ≤ level_of new n
    → AreKids points old new place var group (kids ++ n ∷ []) (code + 1)
kids_more points old s new place var group kids code n before first kept means level =
    let size : length kids ≡ code = before.long in
    let means_too :
    Means new n (some_agrees points old.order (place + 1) (with_code points var group code)) =
    subst (λ (order : List ℕ). Means new n
    (some_agrees points order (place + 1) (with_code points var group code))) first.order
    means in
    let last : slice_index (kids ++ n ∷ []) code ≡ n =
    ap (slice_index (kids ++ n ∷ [])) (sym size) ∙ index_end kids n in
    record {
      long = length-append kids (n ∷ []) ∙ (let e : length kids + 1 ≡ code + 1 = omega arith in e);
      means = λ c low.
          ⊎_elim
          (λ less. subst (λ (k : ℕ). Means new k
          (some_agrees points old.order (place + 1) (with_code points var group c)))
          (sym (kid_front kids n c (omega arith)))
          (means_kept s new (slice_index kids c)
          (some_agrees points old.order (place + 1) (with_code points var group c)) kept
          (before.means c less)))
          (λ more.
          let e : c ≡ code = omega arith in
          subst (λ (d : ℕ). Means new (slice_index (kids ++ n ∷ []) d)
          (some_agrees points old.order (place + 1) (with_code points var group d))) (sym e)
          (subst (λ (k : ℕ). Means new k
          (some_agrees points old.order (place + 1) (with_code points var group code)))
          (sym last) means_too))
          (cases_lt c code);
      levels = λ c low.
          ⊎_elim
          (λ less.
          let e = kid_front kids n c (omega arith) in
          let f = kept.levels (slice_index kids c) (before.means c less).node in
          let g = before.levels c less in
          let h : level_of new (slice_index (kids ++ n ∷ []) c)
          ≡ level_of new (slice_index kids c) = ap (level_of new) e in
          omega arith)
          (λ more.
          let e : c ≡ code = omega arith in
          let h : level_of new (slice_index (kids ++ n ∷ []) c) ≡ level_of new n =
          ap (level_of new) (ap (slice_index (kids ++ n ∷ [])) e ∙ last) in
          omega arith)
          (cases_lt c code);
    }

-- ---- what a group means
any_filter : (q p : ℕ → Bool) (xs : List ℕ)
    → list_any q (filter p xs) ≡ list_any (λ x. p x && q x) xs
any_filter q p [] = refl
any_filter q p (x ∷ xs) = one (p x) ∙ ap (λ (b : Bool). (p x && q x) || b) (any_filter q p xs)
  where
    one : (b : Bool) → list_any q (cond b (x ∷ filter p xs) (filter p xs))
        ≡ ((b && q x) || list_any q (filter p xs))
    one true = refl
    one false = refl

pub some_split : (points : List (List ℕ)) (order : List ℕ) (place var : ℕ) (group codes : List ℕ)
    → place < length order → slice_index order place ≡ var
    → some_agrees points order (place + 1) (with_code points var group (slice_index codes var))
    codes ≡ some_agrees points order place group codes
some_split points order place var group codes low is =
    any_filter (λ i. agrees (drop (place + 1) order) (at_point points i) codes)
    (λ i. slice_index (at_point points i) var == slice_index codes var) group
    ∙ ap (λ (vars : List ℕ). list_any (λ i. agrees vars (at_point points i) codes) group)
    (ap (λ (v : ℕ). v ∷ drop (place + 1) order) (sym is) ∙ sym (drop_more order place 0 low))

pub node_means : (points : List (List ℕ)) (old s new : Diagrams) (place var size : ℕ)
    (group kids : List ℕ) (n : ℕ) → place < length old.order → slice_index old.order place ≡ var
    → var < length old.sizes → size ≡ slice_index old.sizes var → Keeps old s → Keeps s new
    → AreKids points old s place var group kids size → Means new n (choice s var kids)
    → Means new n (some_agrees points old.order place group)
node_means points old s new place var size group kids n low is inside sized one two are means =
    record {
      node = means.node;
      value = λ codes fit.
          let fit_s : IsTrue (fits s.sizes codes) = rw two.sizes at fit in
          let fit_old : IsTrue (fits old.sizes codes) = rw one.sizes at fit_s in
          let below = fits_at old.sizes codes fit_old var inside in
          let c = slice_index codes var in
          means.value codes fit
          ∙ (are.means c (omega arith)).value codes fit_s
          ∙ some_split points old.order place var group codes low is;
    }

pub end_agrees : (points : List (List ℕ)) (order : List ℕ) (place : ℕ) (group codes : List ℕ)
    → length group ≢ 0 → place ≡ length order → some_agrees points order place group codes ≡ true
end_agrees points order place [] codes some e = absurd (some refl)
end_agrees points order place (i ∷ group) codes some e =
    ap (λ (vars : List ℕ). agrees vars (at_point points i) codes
    || list_any (λ i. agrees vars (at_point points i) codes) group)
    (ap (λ (k : ℕ). drop k order) e ∙ past order)
  where
    past : (xs : List ℕ) → drop (length xs) xs ≡ []
    past [] = refl
    past (x ∷ xs) = past xs

-- ---- one more of a group
pub group_more : (points : List (List ℕ)) (var : ℕ) (group : List ℕ) (code k x d : ℕ)
    → k < length group → x ≡ get_or group k d
    → with_code points var (take (k + 1) group) code
    ≡ with_code points var (take k group) code
    ++ cond (slice_index (at_point points x) var == code) (x ∷ []) []
group_more points var group code k x d low is =
    ap (λ (g : List ℕ). with_code points var g code) (take_more group k d low)
    ∙ filter_append (λ i. slice_index (at_point points i) var == code) (take k group)
    (get_or group k d ∷ [])
    ∙ ap (λ (i : ℕ). with_code points var (take k group) code
    ++ cond (slice_index (at_point points i) var == code) (i ∷ []) []) (sym is)

pub group_low : (points : List (List ℕ)) (group : List ℕ) (k x d : ℕ) → is_group points group ≡ true
    → k < length group → x ≡ get_or group k d → x < length points
group_low points [] k x d all low is = absurd (omega arith)
group_low points (i ∷ group) zero x d all low is = let l =
    ltb-true i (length points)
    (and_parts (nat_lt i (length points)) (is_group points group) all).0 in omega arith
group_low points (i ∷ group) (suc k) x d all low is =
    group_low points group k x d
    (and_parts (nat_lt i (length points)) (is_group points group) all).1 (omega arith) is

-- ---- all points of a machine
pub all_group : (points : List (List ℕ)) (n : ℕ) → n ≡ length points
    → is_group points (upto n) ≡ true
all_group points n e = ap (λ (k : ℕ). list_all (λ i. nat_lt i k) (upto n)) (sym e) ∙ below_upto n

-- lists that agree on an order of all their places are the same
agree_at : (vars one other : List ℕ) (j : ℕ) → agrees vars one other ≡ true → j < length vars
    → slice_index one (slice_index vars j) ≡ slice_index other (slice_index vars j)
agree_at [] one other j h low = absurd (omega arith)
agree_at (v ∷ vars) one other zero h low =
    eqb-true (slice_index one v) (slice_index other v)
    (and_parts (slice_index one v == slice_index other v) (agrees vars one other) h).0
agree_at (v ∷ vars) one other (suc j) h low =
    agree_at vars one other j
    (and_parts (slice_index one v == slice_index other v) (agrees vars one other) h).1 (omega arith)

agree_self : (vars one : List ℕ) → agrees vars one one ≡ true
agree_self [] one = refl
agree_self (v ∷ vars) one =
    and_from (slice_index one v == slice_index one v) (agrees vars one one)
    (eq-eqb (slice_index one v) (slice_index one v) refl) (agree_self vars one)

agree_same : (order one other : List ℕ) → IsPermutation order → length one ≡ length order
    → length other ≡ length order → agrees order one other ≡ true → one ≡ other
agree_same order one other perm long_one long_other h =
    same_number_lists one other (long_one ∙ sym long_other) (λ v low.
    let inside = place_below order perm v (omega arith) in
    let at = at_place order v inside in
    ap (slice_index one) (sym at) ∙ agree_at order one other (place order v) h inside
    ∙ ap (slice_index other) at)

-- a point's snapshot is true with it
point_char : (m : Machine) (i : ℕ) (p : List ℕ) → slice_get (points m) i ≡ Some p → char m p ≡ true
point_char m i p is =
    all_get (char m) (points m) i p (all_map (char m) (point m) (all_codes m.vars)
    ∙ all_weaken (fits m.vars) (λ s. char m (point m s)) (all_codes m.vars) (lists_fit m.vars)
    (λ s fit. char_there m s (length_fits m.vars s fit))) is

pub all_char : ResultsFit → (m : Machine) (order : List ℕ) → IsPermutation order
    → length order ≡ length (sizes_of m) → (codes : List ℕ) → fits (sizes_of m) codes ≡ true
    → some_agrees (points m) order 0 (upto (length (points m))) codes ≡ char m codes
all_char results_fit m order perm long codes fit =
    same_truth (some_agrees (points m) order 0 (upto (length (points m))) codes) (char m codes) to
    from
  where
    to : some_agrees (points m) order 0 (upto (length (points m))) codes ≡ true
        → char m codes ≡ true
    to on =
        let some = some_item (λ i. ltb i (length (points m)))
        (λ i. agrees order (at_point (points m) i) codes) (upto (length (points m)))
        (below_upto (length (points m))) on in
        let i = some.0 in
        let p : List ℕ = at_point (points m) i in
        let is : slice_get (points m) i ≡ Some p =
        read_some (points m) i [] (ltb-true i (length (points m)) some.1) in
        let fit_p = all_get (fits (sizes_of m)) (points m) i p (points_fit results_fit m) is in
        let same : p ≡ codes =
        agree_same order p codes perm (length_fits (sizes_of m) p fit_p ∙ sym long)
        (length_fits (sizes_of m) codes fit ∙ sym long) some.2 in
        ap (char m) (sym same) ∙ point_char m i p is

    from : char m codes ≡ true → some_agrees (points m) order 0 (upto (length (points m))) codes
        ≡ true
    from on =
        let s : List ℕ = take (length m.vars) codes in
        let e : result_codes m s ≡ drop (length m.vars) codes =
        same_text (result_codes m s) (drop (length m.vars) codes) (sym on) in
        let same : point m s ≡ codes = ap (λ (xs : List ℕ). s ++ xs) e
        ∙ take-append-drop (length m.vars) codes in
        let fit_s = fits_prefix m.vars m.results codes fit in
        let i = rank m.vars s in
        let is : slice_get (points m) i ≡ Some (point m s) =
        get_map (point m) (all_codes m.vars) i s (at_rank m.vars s fit_s) in
        let at : at_point (points m) i ≡ codes = read (points m) i (point m s) [] is ∙ same in
        any_found (λ i. agrees order (at_point (points m) i) codes) (length (points m)) i
        (read_within (points m) i (point m s) is)
        (ap (λ (p : List ℕ). agrees order p codes) at ∙ agree_self order codes)

-- ---- what the root's value and its count are
pub means_char : CharByTest → (m : Machine) → IsDeterministic m → (s : Diagrams) (n : ℕ)
    → s.sizes ≡ sizes_of m → Means s n (char m) → (codes : List ℕ) → fits (sizes_of m) codes ≡ true
    → (value_of s n codes ≡ true) ↔ Char m codes
means_char test m sure s n sizes means codes fit =
    let fit_s : IsTrue (fits s.sizes codes) =
    subst (λ (xs : List ℕ). IsTrue (fits xs codes)) (sym sizes) fit in
    let same = means.value codes fit_s in
    (λ on. (test m codes sure fit).0 (sym same ∙ on), λ is. same ∙ (test m codes sure fit).1 is)

pub means_size : CountIsSize → (m : Machine) (order : List ℕ) (s : Diagrams) (n : ℕ)
    → s.sizes ≡ sizes_of m → s.order ≡ order → AreReduced s → IsNode s n → Decides (value_of s n) m
    → (count : ℕ) → CountsReached s n count → IsSize m order count
means_size law m order s n sizes same ok node exact count reached =
    let means : Means s n (value_of s n) = record { node = node; value = λ codes fit. refl } in
    record {
      function = value_of s n;
      decides = exact;
      size = law s n (value_of s n) count ok means reached
          ∙ ap (λ (xs : List ℕ). size_along (value_of s n) xs s.order) sizes
          ∙ ap (size_along (value_of s n) (sizes_of m)) same;
    }

pub root_means : ResultsFit → (m : Machine) (group : List ℕ) (old new : Diagrams) (n : ℕ)
    → AreReduced old → new.sizes ≡ sizes_of m → length old.order ≡ length (sizes_of m)
    → group ≡ upto (length (points m)) → Means new n (some_agrees (points m) old.order 0 group)
    → Means new n (char m)
root_means results_fit m group old new n ok sizes long grouped means = record {
  node = means.node;
  value = λ codes fit.
      let fit_m : IsTrue (fits (sizes_of m) codes) =
      subst (λ (xs : List ℕ). IsTrue (fits xs codes)) sizes fit in
      means.value codes fit
      ∙ ap (λ (g : List ℕ). some_agrees (points m) old.order 0 g codes) grouped
      ∙ all_char results_fit m old.order ok.order long codes fit_m;
}

-- ---- the parts of a group
abbrev pub AreParts : List (List ℕ) → ℕ → ℕ → List ℕ → List (List ℕ) → Type 0
AreParts points var size group parts = (code : ℕ) → code < size
    → get_or parts code [] ≡ with_code points var group code

pub parts_more : (points : List (List ℕ)) (var size : ℕ) (group : List ℕ) (parts : List (List ℕ))
    (k x d own : ℕ) (part old e : List ℕ) → length parts ≡ size
    → AreParts points var size (take k group) parts → k < length group → x ≡ get_or group k d
    → own ≡ slice_index (at_point points x) var → own < size → old ≡ get_or parts own e
    → part ≡ old ++ x ∷ []
    → AreParts points var size (take (k + 1) group) (slice_set parts own part)
parts_more points var size group parts k x d own part old e long before low is owns inside was made
    code below =
    ⊎_elim
    (λ same.
    let on = eq-eqb (slice_index (at_point points x) var) code (sym owns ∙ sym same) in
    ap (λ (c : ℕ). get_or (slice_set parts own part) c []) same
    ∙ get_or-set_same parts own part [] (omega arith)
    ∙ made
    ∙ ap (λ (xs : List ℕ). xs ++ x ∷ [])
    (was ∙ get_or_default parts own e [] (omega arith) ∙ before own inside
    ∙ ap (with_code points var (take k group)) (sym same))
    ∙ ap (λ (b : Bool). with_code points var (take k group) code ++ cond b (x ∷ []) []) (sym on)
    ∙ sym (group_more points var group code k x d low is))
    (λ other.
    let off = ne_eqb (slice_index (at_point points x) var) code (λ h. other (sym h ∙ sym owns)) in
    get_or-set_other parts own code part [] other
    ∙ before code below
    ∙ sym (append-nil (with_code points var (take k group) code))
    ∙ ap (λ (b : Bool). with_code points var (take k group) code ++ cond b (x ∷ []) []) (sym off)
    ∙ sym (group_more points var group code k x d low is))
    (cases_eq code own)

pub part_is : (points : List (List ℕ)) (var size : ℕ) (group : List ℕ) (parts items : List (List ℕ))
    (i : ℕ) (x d : List ℕ) → items ≡ parts → length parts ≡ size
    → AreParts points var size group parts → i < length items → x ≡ get_or items i d
    → x ≡ with_code points var group i
part_is points var size group parts items i x d same long are low is =
    let e = ap (λ (xs : List (List ℕ)). length xs) same in
    is ∙ get_or_default items i d [] low ∙ ap (λ (xs : List (List ℕ)). get_or xs i []) same
    ∙ are i (omega arith)

pub part_group : (points : List (List ℕ)) (var : ℕ) (group : List ℕ) (code : ℕ) (part : List ℕ)
    → is_group points group ≡ true → part ≡ with_code points var group code
    → is_group points part ≡ true
part_group points var group code part all is =
    ap (is_group points) is ∙ filter_all (λ i. slice_index (at_point points i) var == code)
    (λ i. nat_lt i (length points)) group all
