-- Snapshots that share the codes before a place follow each other, and have one node on each level.
use Rattle.std.proofs.Common.{◌≡◌, ⊎_elim, ℕ, zero, suc, ◌+◌, ◌-◌, ◌*◌, ◌/◌, ◌<◌, ◌≤◌, true, false, ◌||◌, eqb, ltb, nat_lt, List, [], ◌∷◌, ◌++◌, length, take, drop, slice_get, slice_index, slice_set, Some, refl, ap, sym, subst, ◌∙◌, arith, length-append}
use Rattle.std.specs.Prelude.{slice_range}
use Rattle.std.proofs.lemmas.Bool.{and_parts, cases_eq, cases_lt, eq-eqb, false≢true, le-ltb, lt-ltb, ne_eqb, or_right}
use Rattle.std.proofs.lemmas.List.{drop_more, get_or-drop, get_or-set_other, get_or-set_same, get_or-take, get_or_append_left, length-drop, length-set, length-take}
use Rattle.std.proofs.lemmas.Nat.{div-mul-add}
use Rattle.domains.specs.AllCodes.{all_codes, StandsOnce}
use Rattle.domains.specs.Orders.{place}
use Rattle.domains.specs.Tables.{are_sizes, fits, product, rank}
use Rattle.decision_diagram.specs.Diagrams.{Diagrams, Keeps, Means, choice, level_of}
use Rattle.decision_diagram.specs.Sets.{stands}
use Rattle.transition_table.specs.declared.machine.Machine.{Machine}
use Rattle.transition_table.specs.Laws.{SameOnSupport}
use Rattle.transition_table.specs.Orders.{sizes_of}
use Rattle.char_function.specs.inner.Known.{OnlyResults}
use Rattle.char_function.specs.inner.Left.{IsFirst, IsOrdered, left_from}
use Rattle.char_function.specs.inner.Points.{point, points}
use Rattle.char_function.specs.inner.Rising.{AreLevel, IsLeft, IsRising}
use Rattle.decision_diagram.proofs.Fits.{size_some}
use Rattle.char_function.proofs.FixedKids.{IsStep, kids_left, next_of, step_of, vars_size}
use Rattle.char_function.proofs.LeftFrom.{before_place, snapshot, snapshot_fits, sizes_long, var_of}
use Rattle.decision_diagram.proofs.ListItems.{read_some, read_within}
use Rattle.char_function.proofs.GroupNodes.{means_kept}
use Rattle.char_function.proofs.FixedCodes.{stands_more}
use Rattle.char_function.proofs.CodesByRank.{at_rank}
use Rattle.domains.proofs.Places.{at_place, place_below}
use Rattle.outcome_table.proofs.Columns.{all_long, product_split}
use Rattle.domains.proofs.FittingCodes.{product_after}
use Rattle.polis_base.proofs.Bools.{or_off}
use Rattle.polis_base.proofs.Places.{length_map}
use Rattle.transition_table.proofs.MachineCounts.{few_snapshots}

-- ---- products
take_more : (sizes : List ℕ) (v : ℕ) → v < length sizes
    → product (take (v + 1) sizes) ≡ product (take v sizes) * slice_index sizes v
take_more [] v low = absurd (omega arith)
take_more (size ∷ sizes) zero low = omega arith
take_more (size ∷ sizes) (suc v) low =
    let rest = ap (λ (k : ℕ). size * k) (take_more sizes v (omega arith)) in
    let e : suc v + 1 ≡ suc (v + 1) = omega arith in
    ap (λ (k : ℕ). product (take k (size ∷ sizes))) e ∙ omega arith

pub times_le : (a b w : ℕ) → a ≤ b → a * w ≤ b * w
times_le zero b w h = omega arith
times_le (suc a) zero w h = absurd (omega arith)
times_le (suc a) (suc b) w h = let r = times_le a b w (omega arith) in omega arith

times_one : (a b : ℕ) → 1 ≤ b → a ≤ a * b
times_one zero b h = omega arith
times_one (suc a) b h = let r = times_one a b h in omega arith

-- ---- numbers of lists whose last codes are 0
rank_below : (sizes codes : List ℕ) → fits sizes codes ≡ true → rank sizes codes < product sizes
rank_below sizes codes fit =
    let within = read_within (all_codes sizes) (rank sizes codes) codes (at_rank sizes codes fit) in
    let l = all_long sizes in
    omega arith

less_times : (a r j d : ℕ) → a * d + r ≡ j * d → r ≡ (j - a) * d
less_times zero r j d e =
    let z : j ≡ j - 0 = omega arith in
    (let f : r ≡ j * d = omega arith in f) ∙ ap (λ (k : ℕ). k * d) z
less_times (suc a) r zero d e =
    let z : 0 ≡ 0 - suc a = omega arith in
    (let f : r ≡ 0 * d = omega arith in f) ∙ ap (λ (k : ℕ). k * d) z
less_times (suc a) r (suc j) d e =
    let z : j - a ≡ suc j - suc a = omega arith in
    less_times a r j d (omega arith) ∙ ap (λ (k : ℕ). k * d) z

none_times : (a b : ℕ) → a * b < b → a * b ≡ 0
none_times zero b h = omega arith
none_times (suc a) b h = absurd (omega arith)

zero_factor : (a b r : ℕ) → r < b → a * b + r ≡ 0 → a ≡ 0
zero_factor zero b r low h = refl
zero_factor (suc a) b r low h = absurd (omega arith)

zero_rank : (sizes codes : List ℕ) (u : ℕ) → fits sizes codes ≡ true → rank sizes codes ≡ 0
    → u < length sizes → slice_index codes u ≡ 0
zero_rank [] codes u fit none low = absurd (omega arith)
zero_rank (size ∷ sizes) [] u fit none low = absurd (false≢true fit)
zero_rank (size ∷ sizes) (code ∷ codes) zero fit none low =
    let parts = and_parts (ltb code size) (fits sizes codes) fit in
    zero_factor code (product sizes) (rank sizes codes) (rank_below sizes codes parts.1) none
zero_rank (size ∷ sizes) (code ∷ codes) (suc u) fit none low =
    let parts = and_parts (ltb code size) (fits sizes codes) fit in
    zero_rank sizes codes u parts.1 (omega arith) (omega arith)

zeros_from : (sizes codes : List ℕ) (v j u : ℕ) → fits sizes codes ≡ true
    → rank sizes codes ≡ j * product (drop v sizes) → v ≤ u → u < length sizes
    → slice_index codes u ≡ 0
zeros_from [] codes v j u fit is high low = absurd (omega arith)
zeros_from (size ∷ sizes) [] v j u fit is high low = absurd (false≢true fit)
zeros_from (size ∷ sizes) (code ∷ codes) zero j u fit is high low =
    let below = rank_below (size ∷ sizes) (code ∷ codes) fit in
    zero_rank (size ∷ sizes) (code ∷ codes) u fit
    (is ∙ none_times j (product (size ∷ sizes)) (omega arith)) low
zeros_from (size ∷ sizes) (code ∷ codes) (suc v) j zero fit is high low = absurd (omega arith)
zeros_from (size ∷ sizes) (code ∷ codes) (suc v) j (suc u) fit is high low =
    let parts = and_parts (ltb code size) (fits sizes codes) fit in
    let whole = ap (λ (k : ℕ). code * k) (product_split sizes v) in
    zeros_from sizes codes v (j - code * product (take v sizes)) u parts.1
    (less_times (code * product (take v sizes)) (rank sizes codes) j (product (drop v sizes))
    (omega arith)) (omega arith) (omega arith)

-- the first snapshot of a block
first_block : StandsOnce → (m : Machine) (order : List ℕ) (p next j block : ℕ)
    → ((v : ℕ) → v < length m.vars → stands (take p order) v ≡ nat_lt v next)
    → block ≡ product (drop next m.vars) → j * block < length (points m)
    → IsFirst m order p (j * block)
first_block once m order p next j block so_far apart low v v_low off =
    let long = length_map (point m) (all_codes m.vars) in
    let got = read_some (all_codes m.vars) (j * block) [] (omega arith) in
    let own = (once m.vars (snapshot m (j * block)) (j * block) got).1 in
    var_of m (j * block) v low v_low
    ∙ zeros_from m.vars (snapshot m (j * block)) next j v (snapshot_fits m (j * block) low)
    (own ∙ ap (λ (k : ℕ). j * k) apart)
    (⊎_elim (λ less. absurd (false≢true (sym off ∙ so_far v v_low ∙ lt-ltb v next less)))
    (λ more. more) (cases_lt v next)) v_low

-- ---- variables before a place

-- after a variable the next one is the next number
pub next_after : (vars : ℕ) (order : List ℕ) (p v next : ℕ) → IsRising vars order
    → p < length order → slice_index order p ≡ v → v < vars → next ≤ vars
    → ((u : ℕ) → u < vars → stands (take (p + 1) order) u ≡ nat_lt u next) → next ≡ v + 1
next_after vars order p v next rising low is inside few so_far =
    ⊎_elim
    (λ less. absurd (false≢true (sym (le-ltb v next (omega arith)) ∙ sym (so_far v inside) ∙ here)))
    (λ more.
    ⊎_elim
    (λ above. absurd (false≢true (sym (there (omega arith)) ∙ so_far (v + 1) (omega arith)
    ∙ lt-ltb (v + 1) next (omega arith))))
    (λ same. omega arith)
    (cases_lt (v + 1) next))
    (cases_lt next (v + 1))
  where
    e : p + 1 ≡ suc p
    e = omega arith

    one : (u : ℕ) → stands (take (p + 1) order) u
        ≡ (stands (take p order) u || eqb (slice_index order p) u)
    one u = ap (λ (k : ℕ). stands (take k order) u) e ∙ stands_more order p u low

    here : stands (take (p + 1) order) v ≡ true
    here = one v ∙ or_right (stands (take p order) v) (eqb (slice_index order p) v)
        (eq-eqb (slice_index order p) v is)

    there : v + 1 < vars → stands (take (p + 1) order) (v + 1) ≡ false
    there u_low =
        one (v + 1)
        ∙ or_off (stands (take p order) (v + 1)) (eqb (slice_index order p) (v + 1))
        (ne_eqb (slice_index order p) (v + 1) (λ same. omega arith))
        ∙ rising p (v + 1) low (omega arith) u_low
        ∙ le-ltb (v + 1) (slice_index order p) (omega arith)

-- a result changes nothing
pub next_result : (vars : ℕ) (order : List ℕ) (p next : ℕ) → p < length order
    → vars ≤ slice_index order p
    → ((u : ℕ) → u < vars → stands (take (p + 1) order) u ≡ nat_lt u next)
    → (u : ℕ) → u < vars → stands (take p order) u ≡ nat_lt u next
next_result vars order p next low high so_far u u_low =
    let e : p + 1 ≡ suc p = omega arith in
    sym (or_off (stands (take p order) u) (eqb (slice_index order p) u)
    (ne_eqb (slice_index order p) u (λ same. omega arith)))
    ∙ sym (stands_more order p u low)
    ∙ ap (λ (k : ℕ). stands (take k order) u) (sym e)
    ∙ so_far u u_low

-- ---- nodes
pub left_of_kept : (m : Machine) (order : List ℕ) (s new : Diagrams) (p i n : ℕ) → Keeps s new
    → IsLeft m order s p i n → IsLeft m order new p i n
left_of_kept m order s new p i n kept left = record {
  low = left.low;
  means = means_kept s new n (left_from m order p i) kept left.means;
  level = let e = kept.levels n left.means.node in let l = left.level in omega arith;
}

-- The first nodes of a level are made, in the list of the level after it, whose first nodes aren't
-- needed any more.
pub record AreHalf (m : Machine) (order : List ℕ) (s : Diagrams) (p block stride size : ℕ)
    (nodes : List ℕ) (done count : ℕ) : Type 0 where
  pub long : length nodes ≡ count * size
  pub made : (j : ℕ) → j < done → IsLeft m order s p (j * block) (slice_index nodes j)
  pub rest : (j : ℕ) → done * size ≤ j → j < count * size
      → IsLeft m order s (p + 1) (j * stride) (slice_index nodes j)

pub half_none : (m : Machine) (order : List ℕ) (s : Diagrams) (p block stride size : ℕ)
    (nodes : List ℕ) (count : ℕ) → AreLevel m order s (p + 1) stride nodes
    → length nodes ≡ count * size → AreHalf m order s p block stride size nodes 0 count
half_none m order s p block stride size nodes count level long = record {
  long = long;
  made = λ j low. absurd (omega arith);
  rest = λ j high low. level.each j (omega arith);
}

pub half_more : (m : Machine) (order : List ℕ) (s new : Diagrams) (p block stride size : ℕ)
    (nodes : List ℕ) (done count n : ℕ)
    → AreHalf m order s p block stride size nodes done count → Keeps s new → 1 ≤ size
    → done < count → IsLeft m order new p (done * block) n
    → AreHalf m order new p block stride size (slice_set nodes done n) (done + 1) count
half_more m order s new p block stride size nodes done count n half kept one low left =
    let long = half.long in
    let wide = times_one count size one in
    let here : slice_index (slice_set nodes done n) done ≡ n =
    get_or-set_same nodes done n 0 (omega arith) in
    record {
      long = length-set nodes done n ∙ half.long;
      made = λ j j_low.
          ⊎_elim
          (λ same. subst (λ (k : ℕ). IsLeft m order new p (k * block)
          (slice_index (slice_set nodes done n) k)) (sym same)
          (subst (λ (k : ℕ). IsLeft m order new p (done * block) k) (sym here) left))
          (λ other. subst (λ (k : ℕ). IsLeft m order new p (j * block) k)
          (sym (get_or-set_other nodes done j n 0 other))
          (left_of_kept m order s new p (j * block) (slice_index nodes j) kept
          (half.made j (below j other j_low))))
          (cases_eq j done);
      rest = λ j high j_low.
          let w = times_one (done + 1) size one in
          let d : (done + 1) * size ≡ done * size + size = omega arith in
          subst (λ (k : ℕ). IsLeft m order new (p + 1) (j * stride) k)
          (sym (get_or-set_other nodes done j n 0 (λ same. omega arith)))
          (left_of_kept m order s new (p + 1) (j * stride) (slice_index nodes j) kept
          (half.rest j (omega arith) j_low));
    }
  where
    below : (j : ℕ) → (j ≡ done → ⊥) → j < done + 1 → j < done
    below j other j_low =
        ⊎_elim (λ less. less) (λ more. absurd (other (omega arith))) (cases_lt j done)

-- ---- a variable
-- the children of a node, and that they stand in the list
pub record AreBlockKids (m : Machine) (order : List ℕ) (s : Diagrams) (p stride size j : ℕ)
    (nodes kids : List ℕ) : Type 0 where
  pub within : j * size + size ≤ length nodes
  pub long : length kids ≡ size
  pub each : (c : ℕ) → c < size
      → IsLeft m order s (p + 1) ((j * size + c) * stride) (slice_index kids c)

own_kids : (m : Machine) (order : List ℕ) (s : Diagrams) (p block stride size : ℕ)
    (nodes : List ℕ) (j count : ℕ) → AreHalf m order s p block stride size nodes j count
    → j < count
    → AreBlockKids m order s p stride size j nodes
    (slice_range nodes (j * size) (j * size + size))
own_kids m order s p block stride size nodes j count half low =
    let long = half.long in
    let more = times_le (j + 1) count size (omega arith) in
    let d : (j + 1) * size ≡ j * size + size = omega arith in
    let within : j * size + size ≤ length nodes = omega arith in
    let part : j * size + size - j * size ≡ size = omega arith in
    let a = length-take (j * size + size - j * size) (drop (j * size) nodes) in
    let b = length-drop (j * size) nodes in
    record {
      within = within;
      long = omega arith;
      each = λ c c_low.
          subst (λ (k : ℕ). IsLeft m order s (p + 1) ((j * size + c) * stride) k)
          (sym (get_or-take (j * size + size - j * size) (drop (j * size) nodes) c 0 (omega arith)
          ∙ get_or-drop (j * size) nodes c 0))
          (half.rest (j * size + c) (omega arith) (omega arith));
    }

pub block_kids : (m : Machine) (order : List ℕ) (s : Diagrams) (p block stride size : ℕ)
    (nodes seen : List ℕ) (j count : ℕ) → AreHalf m order s p block stride size nodes j count
    → seen ≡ nodes → j < count
    → AreBlockKids m order s p stride size j nodes
    (slice_range seen (j * size) (j * size + size))
block_kids m order s p block stride size nodes seen j count half all low =
    subst (λ (xs : List ℕ). AreBlockKids m order s p stride size j nodes
    (slice_range xs (j * size) (j * size + size))) (sym all)
    (own_kids m order s p block stride size nodes j count half low)

pub block_left : StandsOnce → SameOnSupport → (m : Machine) (order : List ℕ)
    → IsOrdered m order → (s new : Diagrams) (p v size j stride n : ℕ) (nodes kids : List ℕ)
    → IsStep m order p v size → v < length m.vars → 1 ≤ size
    → stride ≡ product (drop (v + 1) m.vars)
    → ((u : ℕ) → u < length m.vars → stands (take p order) u ≡ nat_lt u v)
    → s.sizes ≡ sizes_of m → new.sizes ≡ s.sizes
    → AreBlockKids m order s p stride size j nodes kids → Means new n (choice s v kids)
    → p ≤ level_of new n → IsLeft m order new p (j * (size * stride)) n
block_left once same m order ordered s new p v size j stride n nodes kids step inside one apart so_far
    sizes grown are means level =
    let front = are.each 0 (omega arith) in
    let front_low = front.low in
    let at_front : (j * size + 0) * stride ≡ j * (size * stride) = omega arith in
    let low : j * (size * stride) < length (points m) = omega arith in
    let sized = vars_size m order p v size step inside in
    let wide : size * stride ≡ product (drop v m.vars) =
    ap (λ (k : ℕ). k * stride) sized
    ∙ ap (λ (k : ℕ). slice_index m.vars v * k) apart
    ∙ sym (ap product (drop_more m.vars v 0 inside)) in
    let first = first_block once m order p v j (size * stride) so_far wide low in
    record {
      low = low;
      means = kids_left same m order ordered s new p v (j * (size * stride)) stride n kids step.at inside
          low
          (λ c c_low. next_of once m order ordered p v size (j * (size * stride)) c stride step inside
          low (omega arith) first apart) sizes grown
          (λ c c_low.
          let e : (j * size + c) * stride ≡ j * (size * stride) + c * stride = omega arith in
          subst (λ (i : ℕ). Means s (slice_index kids c) (left_from m order (p + 1) i)) e
          (are.each c (omega arith)).means) means;
      level = level;
    }

-- so many nodes the level of a variable has
pub block_count : (m : Machine) (order : List ℕ) (p v size next : ℕ) (nodes : List ℕ)
    → IsStep m order p v size → v < length m.vars → 1 ≤ size → next ≡ v + 1
    → length nodes ≡ product (take next m.vars)
    → (length nodes / size ≡ product (take v m.vars))
    × (length nodes ≡ length nodes / size * size)
block_count m order p v size next nodes step inside one is long =
    let sized = vars_size m order p v size step inside in
    let whole : length nodes ≡ product (take v m.vars) * size =
    long ∙ ap (λ (k : ℕ). product (take k m.vars)) is ∙ take_more m.vars v inside
    ∙ ap (λ (k : ℕ). product (take v m.vars) * k) (sym sized) in
    let e : product (take v m.vars) * size + 0 ≡ product (take v m.vars) * size = omega arith in
    let count : length nodes / size ≡ product (take v m.vars) =
    ap (λ (k : ℕ). k / size) (whole ∙ sym e)
    ∙ div-mul-add (product (take v m.vars)) size 0 (omega arith) in
    (count, whole ∙ ap (λ (k : ℕ). k * size) (sym count))

-- what the step at a variable stands on
pub record IsBlockStep (m : Machine) (order : List ℕ) (p v size stride : ℕ) (nodes : List ℕ) : Type 0
  where
    pub step : IsStep m order p v size
    pub inside : v < length m.vars
    pub one : 1 ≤ size
    pub apart : stride ≡ product (drop (v + 1) m.vars)
    pub so_far : (u : ℕ) → u < length m.vars → stands (take p order) u ≡ nat_lt u v
    pub count : length nodes / size ≡ product (take v m.vars)
    pub whole : length nodes ≡ length nodes / size * size

pub block_step : (m : Machine) (order sizes all : List ℕ) (s : Diagrams)
    (p v from raw size stride : ℕ) (nodes : List ℕ) → IsOrdered m order → sizes ≡ sizes_of m
    → all ≡ sizes → are_sizes all ≡ true → IsRising (length m.vars) order → p < length order
    → slice_index order p < length m.vars → slice_get order p ≡ Some v → from ≡ v
    → slice_get sizes from ≡ Some raw → size ≡ raw → AreLevel m order s (p + 1) stride nodes
    → IsBlockStep m order p v size stride nodes
block_step m order sizes all s p v from raw size stride nodes ordered of same are rising low below got
    is sized wide level =
    let step = subst (IsStep m order p v) (sym wide)
    (step_of m order sizes all p v from raw ordered of same are low got is sized) in
    let at = step.at.is in
    let inside : v < length m.vars = omega arith in
    let some = size_some (sizes_of m) (subst (λ (xs : List ℕ). are_sizes xs ≡ true) (same ∙ of) are) v
    step.at.inside in
    let own = step.sized in
    let one : 1 ≤ size = omega arith in
    let next = next_after (length m.vars) order p v level.next rising low at inside level.few
    level.so_far in
    let both = block_count m order p v size level.next nodes step inside one next level.long in
    record {
      step = step;
      inside = inside;
      one = one;
      apart = level.apart ∙ ap (λ (k : ℕ). product (drop k m.vars)) next;
      so_far = λ u u_low. rising p u low (omega arith) u_low ∙ ap (nat_lt u) at;
      count = both.0;
      whole = both.1;
    }

pub variable_done : (m : Machine) (order : List ℕ) (s : Diagrams) (p v size stride : ℕ)
    (nodes : List ℕ) (count : ℕ) → IsRising (length m.vars) order → IsStep m order p v size
    → v < length m.vars → 1 ≤ size → stride ≡ product (drop (v + 1) m.vars)
    → count ≡ product (take v m.vars)
    → AreHalf m order s p (size * stride) stride size nodes count count
    → AreLevel m order s p (size * stride) (take count nodes)
variable_done m order s p v size stride nodes count rising step inside one apart is half =
    let sized = vars_size m order p v size step inside in
    let long = half.long in
    let wide = times_one count size one in
    let cut = length-take count nodes in
    record {
      next = v;
      few = omega arith;
      so_far = λ u u_low. let e = step.at.is in
          rising p u step.at.low (omega arith) u_low ∙ ap (nat_lt u) step.at.is;
      apart = ap (λ (k : ℕ). k * stride) sized
          ∙ ap (λ (k : ℕ). slice_index m.vars v * k) apart
          ∙ sym (ap product (drop_more m.vars v 0 inside));
      long = omega arith;
      each = λ j low.
          subst (λ (k : ℕ). IsLeft m order s p (j * (size * stride)) k)
          (sym (get_or-take count nodes j 0 (omega arith))) (half.made j (omega arith));
    }

-- ---- a result
pub result_done : (m : Machine) (order : List ℕ) (s old : Diagrams) (p block : ℕ)
    (nodes before : List ℕ) (count : ℕ) → AreLevel m order old (p + 1) block before
    → p < length order → length m.vars ≤ slice_index order p → count ≡ length before
    → AreHalf m order s p block block 1 nodes count count → AreLevel m order s p block nodes
result_done m order s old p block nodes before count level low high is half =
    let long = half.long in
    let old_long = level.long in
    record {
      next = level.next;
      few = level.few;
      so_far = next_result (length m.vars) order p level.next low high level.so_far;
      apart = level.apart;
      long = omega arith;
      each = λ j j_low. half.made j (omega arith);
    }

-- ---- after the last variable
pub all_before : (m : Machine) (order : List ℕ) → IsOrdered m order → (start : ℕ)
    → OnlyResults (length m.vars) order start → (v : ℕ) → v < length m.vars
    → stands (take start order) v ≡ nat_lt v (length m.vars)
all_before m order ordered start only v low =
    let s = sizes_long m order ordered in
    let o = ordered.long in
    let within = place_below order ordered.permutation v (omega arith) in
    let at = at_place order v within in
    before_place m order ordered start v (omega arith)
    (⊎_elim (λ less. less) (λ more.
    let r = only (place order v) more within in
    absurd (omega arith))
    (cases_lt (place order v) start))
    ∙ sym (lt-ltb v (length m.vars) low)

pub record AreFirstLeft (m : Machine) (order : List ℕ) (s : Diagrams) (start : ℕ) (nodes : List ℕ)
    (i : ℕ) : Type 0 where
  pub long : length nodes ≡ i
  pub each : (j : ℕ) → j < i → IsLeft m order s start (j * 1) (slice_index nodes j)

pub first_none : (m : Machine) (order : List ℕ) (s : Diagrams) (start : ℕ)
    → AreFirstLeft m order s start [] 0
first_none m order s start = record {
  long = refl;
  each = λ j low. absurd (omega arith);
}

pub first_next : (m : Machine) (order : List ℕ) (s new : Diagrams) (start : ℕ) (nodes : List ℕ)
    (i n : ℕ) → AreFirstLeft m order s start nodes i → Keeps s new → i < length (points m)
    → Means new n (left_from m order start i) → start ≤ level_of new n
    → AreFirstLeft m order new start (nodes ++ n ∷ []) (i + 1)
first_next m order s new start nodes i n are kept low means level =
    let l = are.long in
    record {
      long = length-append nodes (n ∷ []) ∙ omega arith;
      each = λ j j_low.
          ⊎_elim
          (λ less. subst (λ (k : ℕ). IsLeft m order new start (j * 1) k)
          (sym (get_or_append_left nodes (n ∷ []) 0 j (omega arith)))
          (left_of_kept m order s new start (j * 1) (slice_index nodes j) kept (are.each j less)))
          (λ more.
          let e : length nodes ≡ j = omega arith in
          let f : i ≡ j * 1 = omega arith in
          subst (λ (k : ℕ). IsLeft m order new start (j * 1) k)
          (sym (ap (slice_index (nodes ++ n ∷ [])) (sym e) ∙ last nodes n))
          (subst (λ (k : ℕ). IsLeft m order new start k n) f
          (record { low = low; means = means; level = level })))
          (cases_lt j i);
    }
  where
    last : (xs : List ℕ) (x : ℕ) → slice_index (xs ++ x ∷ []) (length xs) ≡ x
    last [] x = refl
    last (y ∷ xs) x = last xs x

pub last_done : (m : Machine) (order : List ℕ) → IsOrdered m order → (s : Diagrams) (start : ℕ)
    → OnlyResults (length m.vars) order start → (nodes : List ℕ) (count : ℕ)
    → count ≡ length (points m) → AreFirstLeft m order s start nodes count
    → AreLevel m order s start 1 nodes
last_done m order ordered s start only nodes count is are =
    let a = length_map (point m) (all_codes m.vars) in
    let b = all_long m.vars in
    let l = are.long in
    let all = product_split m.vars (length m.vars) in
    let none : product (drop (length m.vars) m.vars) ≡ 1 = ap product (drop_none m.vars) in
    let one : product (take (length m.vars) m.vars) * product (drop (length m.vars) m.vars)
    ≡ product (take (length m.vars) m.vars) =
    ap (λ (k : ℕ). product (take (length m.vars) m.vars) * k) none ∙ omega arith in
    record {
      next = length m.vars;
      few = omega arith;
      so_far = all_before m order ordered start only;
      apart = sym none;
      long = omega arith;
      each = λ j low. are.each j (omega arith);
    }
  where
    drop_none : (xs : List ℕ) → drop (length xs) xs ≡ []
    drop_none [] = refl
    drop_none (x ∷ xs) = drop_none xs

-- ---- all levels
pub block_few : (m : Machine) (order : List ℕ) (s : Diagrams) (p block : ℕ) (nodes : List ℕ)
    → are_sizes m.vars ≡ true → AreLevel m order s p block nodes → block ≤ 65536
block_few m order s p block nodes are level =
    let below = product_after m.vars level.next are in
    let few = few_snapshots m in
    let apart = level.apart in
    omega arith

pub root_of_level : (m : Machine) (order : List ℕ) (s : Diagrams) (p block : ℕ)
    (nodes : List ℕ) → p ≡ 0 → AreLevel m order s p block nodes
    → (0 < length nodes) × Means s (slice_index nodes 0) (left_from m order 0 0)
root_of_level m order s p block nodes first level =
    let few = level.few in
    let none : level.next ≡ 0 =
    ⊎_elim (λ low. absurd (false≢true (ap (λ (k : ℕ). stands (take k order) 0) (sym first)
    ∙ level.so_far 0 (omega arith) ∙ lt-ltb 0 level.next low))) (λ high. omega arith)
    (cases_lt 0 level.next) in
    let long : length nodes ≡ 1 =
    level.long ∙ ap (λ (k : ℕ). product (take k m.vars)) none in
    let z : 0 * block ≡ 0 = omega arith in (
      omega arith,
      subst (λ (k : ℕ). Means s (slice_index nodes 0) (left_from m order k 0)) first
          (subst (λ (i : ℕ). Means s (slice_index nodes 0) (left_from m order p i)) z
          (level.each 0 (omega arith)).means),
    )
