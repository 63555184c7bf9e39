-- Nodes of what is left where the items before a place of an order are fixed.
use Rattle.std.proofs.Common.{◌≡◌, ⊎_elim, ℕ, zero, suc, ◌+◌, ◌-◌, ◌*◌, ◌<◌, ◌≤◌, ◌&&◌, ◌==◌, Bool, true, false, cond, List, ◌∷◌, length, take, drop, get_or, replicate, slice_get, slice_index, slice_set, Option, None, Some, refl, ap, sym, subst, ◌∙◌, arith, []}
use Rattle.std.specs.Prelude.{IsTrue}
use Rattle.std.proofs.lemmas.Bool.{cases_eq, cases_lt, eq-eqb, ne_eqb}
use Rattle.std.proofs.lemmas.List.{get_or-set_same, get_or-set_other, get_or-take, get_or-replicate, length-replicate, length-set, length-take}
use Rattle.domains.specs.AllCodes.{all_codes, StandsOnce}
use Rattle.domains.specs.Orders.{place}
use Rattle.domains.specs.Tables.{are_sizes, fits, product, rank}
use Rattle.decision_diagram.specs.Diagrams.{Diagrams, IsNode, Keeps, Means, choice, level_of, value_of}
use Rattle.outcome_table.specs.Outcomes.{IsTableOf}
use Rattle.outcome_table.specs.declared.table.Table.{Table}
use Rattle.transition_table.specs.declared.machine.Machine.{Machine}
use Rattle.transition_table.specs.Computed.{char}
use Rattle.transition_table.specs.Laws.{ResultsFit, SameOnSupport, SupportByTest}
use Rattle.transition_table.specs.Orders.{Allowed, sizes_of}
use Rattle.transition_table.specs.Transitions.{IsDeterministic}
use Rattle.char_function.specs.inner.Known.{OnlyResults}
use Rattle.char_function.specs.inner.Left.{AreLeft, IsFirst, IsOrdered, left_from}
use Rattle.char_function.specs.inner.Points.{at_point, point, points}
use Rattle.decision_diagram.proofs.Fits.{fits_at, size_few}
use Rattle.char_function.proofs.LeftFrom.{IsNext, next_first, left_end, left_outcome, left_start, var_of, result_step, snapshot, var_step, sizes_long}
use Rattle.decision_diagram.proofs.ListItems.{read, read_within}
use Rattle.char_function.proofs.GroupNodes.{means_kept}
use Rattle.domains.proofs.Places.{place_of_item}
use Rattle.char_function.proofs.CodesByRank.{at_rank}
use Rattle.char_function.proofs.IsTableOf.{numbers_long, number_low, outcome_at}
use Rattle.domains.proofs.Ranks.{length_fits, fits_zeros}
use Rattle.outcome_table.proofs.Columns.{all_long}
use Rattle.polis_base.proofs.Places.{index_append, length_map}
use Rattle.transition_table.proofs.MachineCounts.{few_snapshots}

-- of the first children all are the same but one
pub one_kid : (kids : List ℕ) (f kid size code w at c : ℕ) → kids ≡ replicate 33 f → w ≡ size
    → at ≡ code → size ≤ 33 → code < size → c < length (take w (slice_set kids at kid))
    → (c < size) × (slice_index (take w (slice_set kids at kid)) c ≡ cond (c == code) kid f)
one_kid kids f kid size code w at c is wide here few code_low low =
    let a : length kids ≡ 33 = ap (λ (xs : List ℕ). length xs) is ∙ length-replicate 33 f in
    let b = length-set kids at kid in
    let d = length-take w (slice_set kids at kid) in
    let c_low : c < size = omega arith in (
      c_low,
      get_or-take w (slice_set kids at kid) c 0 (omega arith)
          ∙ ⊎_elim
          (λ same.
          let e : c ≡ at = omega arith in
          ap (slice_index (slice_set kids at kid)) e
          ∙ get_or-set_same kids at kid 0 (omega arith)
          ∙ ap (λ (t : Bool). cond t kid f) (sym (eq-eqb c code same)))
          (λ other.
          get_or-set_other kids at c kid 0 (λ e. other (e ∙ here))
          ∙ ap (λ (xs : List ℕ). slice_index xs c) is
          ∙ get_or-replicate 33 c f 0 (omega arith)
          ∙ ap (λ (t : Bool). cond t kid f) (sym (ne_eqb c code other)))
          (cases_eq c code),
    )

pub kid_here : (kids : List ℕ) (f kid size code w at c : ℕ) → kids ≡ replicate 33 f → w ≡ size
    → at ≡ code → size ≤ 33 → code < size → c < size
    → slice_index (take w (slice_set kids at kid)) c ≡ cond (c == code) kid f
kid_here kids f kid size code w at c is wide here few code_low low =
    let a : length kids ≡ 33 = ap (λ (xs : List ℕ). length xs) is ∙ length-replicate 33 f in
    let b = length-set kids at kid in
    let d = length-take w (slice_set kids at kid) in
    (one_kid kids f kid size code w at c is wide here few code_low (omega arith)).1

pub kid_value : (s : Diagrams) (t : Bool) (kid f : ℕ) (codes : List ℕ)
    → value_of s f codes ≡ false → value_of s (cond t kid f) codes ≡ (t && value_of s kid codes)
kid_value s true kid f codes never = refl
kid_value s false kid f codes never = never

pub kid_or : (P : ℕ → Type 0) (t : Bool) (kid f : ℕ) → P kid → P f → P (cond t kid f)
kid_or P true kid f one other = one
kid_or P false kid f one other = other

-- the node that is true, where nothing is left
pub true_left : ResultsFit → (m : Machine) (order : List ℕ) → IsOrdered m order
    → (s : Diagrams) (n p i : ℕ) → p ≡ length order → i < length (points m)
    → s.sizes ≡ sizes_of m → IsNode s n → ((codes : List ℕ) → value_of s n codes ≡ true)
    → Means s n (left_from m order p i)
true_left results_fit m order ordered s n p i end low sizes node always = record {
  node = node;
  value = λ codes fit.
      let fit_m : fits (sizes_of m) codes ≡ true = rw sizes at fit in
      always codes ∙ sym (left_end m order ordered results_fit p i codes end low fit_m);
}

-- the item at a place of the order
pub record IsItem (m : Machine) (order : List ℕ) (p item : ℕ) : Type 0 where
  pub low : p < length order
  pub is : slice_index order p ≡ item
  pub inside : item < length (sizes_of m)
  pub placed : place order item ≡ p

pub item_of : (m : Machine) (order : List ℕ) (p item : ℕ) → IsOrdered m order → p < length order
    → slice_get order p ≡ Some item → IsItem m order p item
item_of m order p item ordered low got =
    let is : slice_index order p ≡ item = read order p item 0 got in
    let below = ordered.permutation.below p low in
    let l = ordered.long in
    record {
      low = low;
      is = is;
      inside = omega arith;
      placed = ap (place order) (sym is) ∙ place_of_item order ordered.permutation p low;
    }

-- and how many codes it has
pub record IsStep (m : Machine) (order : List ℕ) (p item size : ℕ) : Type 0 where
  pub at : IsItem m order p item
  pub sized : size ≡ slice_index (sizes_of m) item
  pub few : size ≤ 33

pub step_of : (m : Machine) (order sizes all : List ℕ) (p item from size : ℕ) → IsOrdered m order
    → sizes ≡ sizes_of m → all ≡ sizes → are_sizes all ≡ true → p < length order
    → slice_get order p ≡ Some item → from ≡ item → slice_get sizes from ≡ Some size
    → IsStep m order p item size
step_of m order sizes all p item from size ordered of same are low got is sized =
    let at = item_of m order p item ordered low got in
    let e : size ≡ slice_index (sizes_of m) item =
    sym (read sizes from size 0 sized) ∙ ap (slice_index sizes) is
    ∙ ap (λ (xs : List ℕ). slice_index xs item) of in
    let few = size_few (sizes_of m) (subst (λ (xs : List ℕ). are_sizes xs ≡ true) (same ∙ of) are)
    item at.inside in
    record {
      at = at;
      sized = e;
      few = omega arith;
    }

pub vars_size : (m : Machine) (order : List ℕ) (p item size : ℕ) → IsStep m order p item size
    → item < length m.vars → size ≡ slice_index m.vars item
vars_size m order p item size step inside =
    step.sized ∙ index_append m.vars m.results item inside

-- the first snapshot with a code of the variable
pub next_of : StandsOnce → (m : Machine) (order : List ℕ) (ordered : IsOrdered m order)
    (p item size i code stride : ℕ) → IsStep m order p item size → item < length m.vars
    → i < length (points m) → code < size → IsFirst m order p i
    → stride ≡ product (drop (item + 1) m.vars)
    → IsNext m order ordered p item i code (i + code * stride)
next_of once m order ordered p item size i code stride step inside low code_low first is =
    let sized = vars_size m order p item size step inside in
    next_first m order ordered once p item i code (i + code * stride) step.at.low step.at.is inside
    low (omega arith) first (ap (λ (k : ℕ). i + code * k) is)

pub points_few : (m : Machine) → length (points m) ≤ 65536
points_few m =
    let a = length_map (point m) (all_codes m.vars) in
    let b = all_long m.vars in
    let few = few_snapshots m in
    omega arith

-- The children so far: one for each code of the variable, each what is left on the first snapshot
-- with that code.
pub record AreFixedKids (m : Machine) (order : List ℕ) (s : Diagrams) (p i stride : ℕ)
    (kids : List ℕ) (code : ℕ) : Type 0 where
  pub long : length kids ≡ 33
  pub means : (c : ℕ) → c < code
      → Means s (slice_index kids c) (left_from m order (p + 1) (i + c * stride))
  pub levels : (c : ℕ) → c < code → p + 1 ≤ level_of s (slice_index kids c)

pub fixed_more : (m : Machine) (order : List ℕ) (s new : Diagrams) (p i stride : ℕ)
    (kids : List ℕ) (code n : ℕ) → AreFixedKids m order s p i stride kids code → Keeps s new
    → code < 33 → Means new n (left_from m order (p + 1) (i + code * stride))
    → p + 1 ≤ level_of new n
    → AreFixedKids m order new p i stride (slice_set kids code n) (code + 1)
fixed_more m order s new p i stride kids code n before kept few means level =
    let size = before.long in
    let here : slice_index (slice_set kids code n) code ≡ n =
    get_or-set_same kids code n 0 (omega arith) in
    record {
      long = length-set kids code n ∙ size;
      means = λ c low.
          ⊎_elim
          (λ less.
          let e : slice_index (slice_set kids code n) c ≡ slice_index kids c =
          get_or-set_other kids code c n 0 (λ same. omega arith) in
          subst (λ (k : ℕ). Means new k (left_from m order (p + 1) (i + c * stride))) (sym e)
          (means_kept s new (slice_index kids c) (left_from m order (p + 1) (i + c * stride)) kept
          (before.means c less)))
          (λ more.
          let e : code ≡ c = omega arith in
          subst (λ (d : ℕ). Means new (slice_index (slice_set kids code n) d)
          (left_from m order (p + 1) (i + d * stride))) e
          (subst (λ (k : ℕ). Means new k (left_from m order (p + 1) (i + code * stride)))
          (sym here) means))
          (cases_lt c code);
      levels = λ c low.
          ⊎_elim
          (λ less.
          let e : slice_index (slice_set kids code n) c ≡ slice_index kids c =
          get_or-set_other kids code c n 0 (λ same. omega arith) in
          let f = kept.levels (slice_index kids c) (before.means c less).node in
          let g = before.levels c less in
          let h : level_of new (slice_index (slice_set kids code n) c)
          ≡ level_of new (slice_index kids c) = ap (level_of new) e in
          omega arith)
          (λ more.
          let e : c ≡ code = omega arith in
          let h : level_of new (slice_index (slice_set kids code n) c) ≡ level_of new n =
          ap (level_of new) (ap (slice_index (slice_set kids code n)) e ∙ here) in
          omega arith)
          (cases_lt c code);
    }

-- the node of children that are what is left after a variable is what is left before it
pub kids_left : SameOnSupport → (m : Machine) (order : List ℕ) (ordered : IsOrdered m order)
    → (s new : Diagrams) (p v i stride n : ℕ) (kids : List ℕ) → IsItem m order p v
    → v < length m.vars → i < length (points m)
    → ((c : ℕ) → c < slice_index m.vars v → IsNext m order ordered p v i c (i + c * stride))
    → s.sizes ≡ sizes_of m → new.sizes ≡ s.sizes
    → ((c : ℕ) → c < slice_index m.vars v
    → Means s (slice_index kids c) (left_from m order (p + 1) (i + c * stride)))
    → Means new n (choice s v kids) → Means new n (left_from m order p i)
kids_left same m order ordered s new p v i stride n kids at inside low next sizes grown are means =
    record {
      node = means.node;
      value = λ codes fit.
          let fit_s : IsTrue (fits s.sizes codes) = rw grown at fit in
          let fit_m : fits (sizes_of m) codes ≡ true = rw sizes at fit_s in
          let c = slice_index codes v in
          let below = fits_at (sizes_of m) codes fit_m v at.inside in
          let e : slice_index (sizes_of m) v ≡ slice_index m.vars v =
          index_append m.vars m.results v inside in
          let c_low : c < slice_index m.vars v = omega arith in
          let f : p + 1 ≡ suc p = omega arith in
          means.value codes fit
          ∙ (are c c_low).value codes fit_s
          ∙ ap (λ (k : ℕ). left_from m order k (i + c * stride) codes) f
          ∙ var_step m order ordered same p v i c (i + c * stride) codes at.low at.is inside low
          (next c c_low) c_low (length_fits (sizes_of m) codes fit_m) refl;
    }

-- and so the node of the children that are made one by one
pub node_left : SameOnSupport → (m : Machine) (order : List ℕ) (ordered : IsOrdered m order)
    → (s new : Diagrams) (p v i stride n : ℕ) (kids some : List ℕ) → IsItem m order p v
    → v < length m.vars → i < length (points m)
    → ((c : ℕ) → c < slice_index m.vars v → IsNext m order ordered p v i c (i + c * stride))
    → s.sizes ≡ sizes_of m → new.sizes ≡ s.sizes
    → AreFixedKids m order s p i stride kids (slice_index m.vars v)
    → some ≡ take (slice_index m.vars v) kids → Means new n (choice s v some)
    → Means new n (left_from m order p i)
node_left same m order ordered s new p v i stride n kids some at inside low next sizes grown are
    part =
    kids_left same m order ordered s new p v i stride n some at inside low next sizes grown
    (λ c c_low. subst (λ (k : ℕ). Means s k (left_from m order (p + 1) (i + c * stride)))
    (sym (ap (λ (xs : List ℕ). slice_index xs c) part
    ∙ get_or-take (slice_index m.vars v) kids c 0 c_low)) (are.means c c_low))

-- the node of a result is what is left before it
pub result_left : ResultsFit → SameOnSupport → (m : Machine) (order : List ℕ) → IsOrdered m order
    → (s new : Diagrams) (p item code i kid n : ℕ) → IsItem m order p item
    → length m.vars ≤ item → i < length (points m) → code ≡ slice_index (at_point (points m) i) item
    → s.sizes ≡ sizes_of m → new.sizes ≡ s.sizes
    → Means s kid (left_from m order (p + 1) i)
    → Means new n (λ codes. slice_index codes item == code && value_of s kid codes)
    → Means new n (left_from m order p i)
result_left results_fit same m order ordered s new p item code i kid n at high low own sizes grown
    kid_means means = record {
      node = means.node;
      value = λ codes fit.
          let fit_s : IsTrue (fits s.sizes codes) = rw grown at fit in
          let fit_m : fits (sizes_of m) codes ≡ true = rw sizes at fit_s in
          let y : ℕ = item - length m.vars in
          let e : item ≡ length m.vars + y = omega arith in
          let l = sizes_long m order ordered in
          let inside = at.inside in
          let f : p + 1 ≡ suc p = omega arith in
          means.value codes fit
          ∙ ap (λ (b : Bool). slice_index codes item == code && b) (kid_means.value codes fit_s
          ∙ ap (λ (k : ℕ). left_from m order k i codes) f)
          ∙ ap (λ (k : ℕ). slice_index codes item == k && left_from m order (suc p) i codes) own
          ∙ ap (λ (k : ℕ). slice_index codes k == slice_index (at_point (points m) i) k
          && left_from m order (suc p) i codes) e
          ∙ result_step m order ordered results_fit same p y i codes at.low (at.is ∙ e) (omega arith) low
          fit_m;
    }

-- ---- nodes that are known for outcomes
pub left_none : (m : Machine) (t : Table) (s : Diagrams) (start : ℕ) (known : List (Option ℕ))
    → known ≡ replicate (length t.outcomes) None → AreLeft m t s start known
left_none m t s start known is = record {
  long = ap (λ (xs : List (Option ℕ)). length xs) is ∙ length-replicate (length t.outcomes) None;
  means = λ i n low some. absurd (never (slice_index t.numbers i) n some);
  levels = λ i n low some. absurd (never (slice_index t.numbers i) n some);
}
  where
    none_at : (x : Option ℕ) (n k : ℕ) → get_or (replicate n x) k x ≡ x
    none_at x zero k = refl
    none_at x (suc n) zero = refl
    none_at x (suc n) (suc k) = none_at x n k

    no_some : (n : ℕ) → ◌≡◌ {A = Option ℕ} None (Some n) → ⊥
    no_some n e = cc

    never : (k n : ℕ) → get_or known k None ≡ Some n → ⊥
    never k n some =
        no_some n (sym (none_at None (length t.outcomes) k)
        ∙ ap (λ (xs : List (Option ℕ)). get_or xs k None) (sym is) ∙ some)

pub left_kept : (m : Machine) (t : Table) (old new : Diagrams) (start : ℕ)
    (known : List (Option ℕ)) → Keeps old new → AreLeft m t old start known
    → AreLeft m t new start known
left_kept m t old new start known kept are = record {
  long = are.long;
  means = λ i n low is.
      subst (λ (order : List ℕ). Means new n (left_from m order start i)) (sym kept.order)
      (means_kept old new n (left_from m old.order start i) kept (are.means i n low is));
  levels = λ i n low is. let e = kept.levels n (are.means i n low is).node in
      let l = are.levels i n low is in omega arith;
}

pub left_more : ResultsFit → (m : Machine) (t : Table) → IsTableOf m t → (s : Diagrams)
    → IsOrdered m s.order → s.sizes ≡ sizes_of m → (start : ℕ)
    → OnlyResults (length m.vars) s.order start → (known : List (Option ℕ)) (k i n : ℕ)
    → AreLeft m t s start known → k ≡ slice_index t.numbers i → i < length (points m)
    → Means s n (left_from m s.order start i) → start ≤ level_of s n
    → AreLeft m t s start (slice_set known k (Some n))
left_more results_fit m t tabled s ordered sizes start only known k i n are at low means level =
    record {
      long = length-set known k (Some n) ∙ are.long;
      means = λ j p j_low is.
          ⊎_elim
          (λ same.
          subst (λ (q : ℕ). Means s q (left_from m s.order start j)) (new_one (slice_index t.numbers j)
          p same is) (moved j j_low (same ∙ at)))
          (λ other. are.means j p j_low (old_one (slice_index t.numbers j) p other is))
          (cases_eq (slice_index t.numbers j) k);
      levels = λ j p j_low is.
          ⊎_elim
          (λ same. subst (λ (q : ℕ). start ≤ level_of s q) (new_one (slice_index t.numbers j)
          p same is) level)
          (λ other. are.levels j p j_low (old_one (slice_index t.numbers j) p other is))
          (cases_eq (slice_index t.numbers j) k);
    }
  where
    k_low : k < length known
    k_low =
        let a = numbers_long m t tabled in
        let b = number_low m t tabled i (omega arith) in
        let c = are.long in
        omega arith

    some_same : (a b : ℕ) → Some a ≡ Some b → a ≡ b
    some_same a b h = cc

    new_one : (j p : ℕ) → j ≡ k → get_or (slice_set known k (Some n)) j None ≡ Some p → n ≡ p
    new_one j p same is =
        let l = k_low in
        some_same n p (sym (ap (λ (x : ℕ). get_or (slice_set known k (Some n)) x None) same
        ∙ get_or-set_same known k (Some n) None l) ∙ is)

    old_one : (j p : ℕ) → (j ≡ k → ⊥) → get_or (slice_set known k (Some n)) j None ≡ Some p
        → get_or known j None ≡ Some p
    old_one j p other is = sym (get_or-set_other known k j (Some n) None other) ∙ is

    moved : (j : ℕ) → j < length (points m) → slice_index t.numbers j ≡ slice_index t.numbers i
        → Means s n (left_from m s.order start j)
    moved j j_low same = record {
      node = means.node;
      value = λ codes fit.
          let fit_m : fits (sizes_of m) codes ≡ true = rw sizes at fit in
          let a = numbers_long m t tabled in
          let one = outcome_at m t tabled i (omega arith) in
          let other = outcome_at m t tabled j (omega arith) in
          means.value codes fit
          ∙ left_outcome m s.order ordered results_fit start i j codes only low j_low fit_m
          (sym one ∙ ap (λ (x : ℕ). get_or t.outcomes x []) (sym same) ∙ other);
    }

-- ---- the first snapshot of all
rank_zeros : (sizes : List ℕ) → rank sizes (replicate (length sizes) 0) ≡ 0
rank_zeros [] = refl
rank_zeros (size ∷ sizes) = let rest = rank_zeros sizes in
    let z : 0 * product sizes ≡ 0 = omega arith in omega arith

pub first_of_all : (m : Machine) (order : List ℕ) → are_sizes m.vars ≡ true
    → (0 < length (points m)) × IsFirst m order 0 0
first_of_all m order are =
    let zeros : List ℕ = replicate (length m.vars) 0 in
    let found : slice_get (all_codes m.vars) 0 ≡ Some zeros =
    ap (slice_get (all_codes m.vars)) (sym (rank_zeros m.vars))
    ∙ at_rank m.vars zeros (fits_zeros m.vars are) in
    let within = read_within (all_codes m.vars) 0 zeros found in
    let long = length_map (point m) (all_codes m.vars) in
    let low : 0 < length (points m) = omega arith in
    let snap : snapshot m 0 ≡ zeros = read (all_codes m.vars) 0 zeros [] found in (
      low,
      λ v v_low off. var_of m 0 v low v_low ∙ ap (λ (xs : List ℕ). slice_index xs v) snap
          ∙ get_or-replicate (length m.vars) v 0 0 v_low,
    )

-- and what is left where nothing is fixed
pub root_left : (m : Machine) (order : List ℕ) → IsOrdered m order → (s : Diagrams) (n : ℕ)
    → Means s n (left_from m order 0 0) → Means s n (char m)
root_left m order ordered s n means = record {
  node = means.node;
  value = λ codes fit. means.value codes fit ∙ left_start m order ordered 0 codes;
}

pub ordered_of : SupportByTest → (m : Machine) → IsDeterministic m → (order : List ℕ)
    → Allowed m order → IsOrdered m order
ordered_of test m sure order allowed = record {
  permutation = allowed.permutation;
  long = allowed.long;
  after = λ y v y_low v_low on. allowed.after y v y_low v_low ((test m y v sure v_low).0 on);
}
