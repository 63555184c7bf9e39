-- Numbers that cover code bound what it costs, and the least of them are taken.
use Rattle.std.proofs.Common.{◌≡◌, ◌⊎◌, inl, inr, ⊎_elim, ℕ, zero, suc, ◌+◌, ◌<◌, ◌≤◌, List, [], ◌∷◌, map, length, slice_get, slice_index, Option, Some, None, refl, ap, sym, ◌∙◌, arith}
use Rattle.std.specs.Prelude.{Contains}
use Rattle.std.proofs.lemmas.Bool.{cases_lt}
use Rattle.std.proofs.lemmas.List.{get_or_default, get_or_past}
use Rattle.std.proofs.lemmas.List.Elements.{Contains-get_or}
use Rattle.std.proofs.lemmas.Option.{slice_get_past, slice_get-get_or}
use Rattle.std.proofs.lemmas.List.Sums.{sum_by-cons}
use Rattle.std.specs.List.{sum_by}
use Rattle.transition_table.specs.declared.machine.Machine.{Machine}
use Rattle.task_code.specs.declared.instr.Instr.{Instr}
use Rattle.task_code.specs.declared.instr.Instr.TheVariants.{Test, Set, Goto, Halt}
use Rattle.task_code.specs.Codes.{goes_to, executed}
use Rattle.task_code.specs.Facts.{IsCode, OnceCode, goes_on}
use Rattle.task_machine.specs.Running.{CodeFits}
use Rattle.cost_bound.specs.declared.aim.Aim.TheVariants.{Most}
use Rattle.cost_bound.specs.declared.costs.Costs.{Costs}
use Rattle.cost_bound.specs.declared.score.Score.{Score}
use Rattle.cost_bound.specs.Bounds.{IsGreatest}
use Rattle.cost_bound.specs.Certificates.{greatest, needed, Covers, IsLeastCover}
use Rattle.cost_bound.specs.Costs.{cost_of, CostOf}
use Rattle.cost_bound.specs.Laws.{OnesAreSteps, CoversBound}
use Rattle.cost_bound.specs.inner.Scores.{nothing, score_of, IsScore, AreScores, MayGoOn}
use Rattle.cost_bound.proofs.FirstScore.{taking}
use Rattle.cost_bound.proofs.TailCosts.{tail_cost, tail_none, tail_at, tail_to, instr_at, may_go_on, goes_later}
use Rattle.sgraph.proofs.Trails.{Onward}

-- ---- the greatest of some numbers
pub greatest_at : (f : ℕ → ℕ) (xs : List ℕ) (k : ℕ) → k < length xs
    → f (slice_index xs k) ≤ greatest (map f xs)
greatest_at f [] k low = absurd (omega arith)
greatest_at f (x ∷ xs) zero low = omega arith
greatest_at f (x ∷ xs) (suc k) low =
    let r = greatest_at f xs k (omega arith) in
    omega arith

pub greatest_has : (f : ℕ → ℕ) (xs : List ℕ) (j : ℕ) → Contains xs j → f j ≤ greatest (map f xs)
greatest_has f xs j (k, low, is) =
    let e : slice_index xs k ≡ j = get_or_default xs k 0 j low ∙ is in
    let r = greatest_at f xs k low in
    let same = ap f e in
    omega arith

pub greatest_taken : (f : ℕ → ℕ) (x : ℕ) (xs : List ℕ)
    → (k : ℕ) × (k < length (x ∷ xs)) × (greatest (map f (x ∷ xs)) ≡ f (slice_index (x ∷ xs) k))
greatest_taken f x [] = (0, omega arith, omega arith)
greatest_taken f x (y ∷ ys) =
    let rest = greatest_taken f y ys in
    elim (cases_lt (f x) (greatest (map f (y ∷ ys)))) [
      | inl less ↦ (suc rest.0, omega (arith, rest.1), omega (arith, rest.2))
      | inr more ↦ (0, omega arith, omega arith)
    ]

greatest_less : (f g : ℕ → ℕ) (xs : List ℕ)
    → ((k : ℕ) → k < length xs → f (slice_index xs k) ≤ g (slice_index xs k))
    → greatest (map f xs) ≤ greatest (map g xs)
greatest_less f g [] each = omega arith
greatest_less f g (x ∷ xs) each =
    let first : f x ≤ g x = each 0 (omega arith) in
    let rest = greatest_less f g xs (λ k low. each (suc k) (omega arith)) in
    omega arith

-- ---- numbers that cover bound the cost
leads : (s : List ℕ) (count i : ℕ) (x : Instr) → MayGoOn count i x
    → (goes_to s i x ≡ None)
    ⊎ ((j : ℕ) × (goes_to s i x ≡ Some j) × Contains (goes_on i (Some x)) j)
leads s count i (Test var targets) may =
    elim (cases_lt (slice_index s var) (length targets)) [
      | inl low ↦ inr (
        slice_index targets (slice_index s var),
        slice_get-get_or targets (slice_index s var) 0 low,
        Contains-get_or targets (slice_index s var) 0 low,
      )
      | inr high ↦ inl (slice_get_past targets (slice_index s var) (omega arith))
    ]
leads s count i (Set result code) may =
    inr (suc i, refl, Contains-get_or (suc i ∷ []) 0 0 (omega arith))
leads s count i (Goto target) may =
    inr (target, refl, Contains-get_or (target ∷ []) 0 0 (omega arith))
leads s count i Halt may = inl refl

covered_from : (costs : Costs) (c : List Instr) (l s : List ℕ) → IsCode c → Covers costs c l
    → (d i : ℕ) → length c ≤ i + d → i < length c
    → tail_cost costs c s (Some i) ≤ slice_index l i
covered_from costs c l s ok covers zero i deep low = absurd (omega arith)
covered_from costs c l s ok covers (suc d) i deep low =
    let at = instr_at c i low in
    let x : Instr = at.0 in
    let may = may_go_on c i x ok at.1 in
    let each : needed costs l i x ≤ slice_index l i = covers.each i x at.1 in
    ⊎_elim
    (λ stops.
    let on : Onward i (goes_to s i x) = rw stops tt in
    let tail : tail_cost costs c s (Some i) ≡ cost_of costs x + tail_cost costs c s None =
    tail_at costs c s i x at.1 on
    ∙ ap (λ (o : Option ℕ). cost_of costs x + tail_cost costs c s o) stops in
    omega (arith, tail_none costs c s))
    (λ goes.
    let later = goes_later (length c) i x goes.0 may goes.2 in
    let tail = tail_to costs c s i goes.0 x at.1 goes.1 later.0 in
    let rest = covered_from costs c l s ok covers d goes.0 (omega arith) later.1 in
    let most = greatest_has (slice_index l) (goes_on i (Some x)) goes.0 goes.2 in
    omega arith)
    (leads s (length c) i x may)

pub covers_bound : CoversBound
covers_bound costs c l s ok covers =
    covered_from costs c l s ok covers (length c) 0 (omega arith) ok.some

-- ---- a cost where each instruction costs 1
pub ones_are_steps : OnesAreSteps
ones_are_steps costs c s test set jump halt = counted (executed c s)
  where
    one : (x : Instr) → cost_of costs x ≡ 1
    one (Test var targets) = test
    one (Set result code) = set
    one (Goto target) = jump
    one Halt = halt

    counted : (xs : List Instr) → sum_by (cost_of costs) xs ≡ length xs
    counted [] = refl
    counted (x ∷ xs) =
        sum_by-cons (cost_of costs) x xs ∙ omega (arith, one x, counted xs)

-- ---- the least numbers that cover are taken
abbrev as_score : ℕ → Score
as_score n = record { cost = n; number = 0 }

scored : (l : List ℕ) (i : ℕ) → score_of (map as_score l) i ≡ as_score (slice_index l i)
scored [] i = refl
scored (n ∷ l) zero = refl
scored (n ∷ l) (suc i) = scored l i

long_scores : (l : List ℕ) → length (map as_score l) ≡ length l
long_scores [] = refl
long_scores (n ∷ l) = ap suc (long_scores l)

-- each number is what its instruction needs
abbrev pub AreNeeded : Costs → List Instr → List ℕ → Type 0
AreNeeded costs c l = (i : ℕ) (x : Instr) → slice_get c i ≡ Some x
    → slice_index l i ≡ needed costs l i x

module _ (costs : Costs) (c : List Instr) (l : List ℕ) (ok : IsCode c)
    (long : length l ≡ length c) (are : AreNeeded costs c l) where
  cost_at : (i : ℕ) → (score_of (map as_score l) i).cost ≡ slice_index l i
  cost_at i = ap (λ (r : Score). r.cost) (scored l i)

  number_at : (i : ℕ) → (score_of (map as_score l) i).number ≡ 0
  number_at i = ap (λ (r : Score). r.number) (scored l i)

  own : (i : ℕ) (x : Instr) → slice_get c i ≡ Some x
      → (score_of (map as_score l) i).cost
      ≡ cost_of costs x + greatest (map (slice_index l) (goes_on i (Some x)))
  own i x is = cost_at i ∙ are i x is

  score_at : (i : ℕ) (x : Instr) → slice_get c i ≡ Some x → MayGoOn (length c) i x
      → IsScore Most costs [] (map as_score l) i x (score_of (map as_score l) i)
  score_at i (Test var []) is may = absurd (omega (arith, may.0))
  score_at i (Test var (t ∷ ts)) is may =
      let best = greatest_taken (slice_index l) t ts in
      record {
        ahead = as_score (greatest (map (slice_index l) (t ∷ ts)));
        best = record {
          code = best.0;
          low = best.1;
          cost_is = best.2 ∙ sym (cost_at (slice_index (t ∷ ts) best.0));
          number_is = omega (arith, number_at (slice_index (t ∷ ts) best.0));
          none = λ j low. (
            omega (
              arith,
              cost_at (slice_index (t ∷ ts) j),
              greatest_at (slice_index l) (t ∷ ts) j low,
            ),
            λ same. omega arith,
          );
        };
        cost_is = own i (Test var (t ∷ ts)) is;
        number_is = number_at i;
      }
  score_at i (Set result code) is may = record {
    ahead = as_score (slice_index l (suc i));
    best = sym (scored l (suc i));
    cost_is = omega (arith, own i (Set result code) is);
    number_is = number_at i;
  }
  score_at i (Goto target) is may = record {
    ahead = as_score (slice_index l target);
    best = sym (scored l target);
    cost_is = omega (arith, own i (Goto target) is);
    number_is = number_at i;
  }
  score_at i Halt is may = record {
    ahead = nothing;
    best = refl;
    cost_is = own i Halt is;
    number_is = number_at i;
  }

  are_scores : AreScores Most costs [] c (map as_score l)
  are_scores = record {
    long = long_scores l ∙ long;
    each = λ i x is. score_at i x is (may_go_on c i x ok is);
  }

  pub needed_cover : Covers costs c l
  needed_cover = record {
    long = long;
    each = λ i x is. let e = are i x is in omega arith;
  }

  -- no others that cover are less
  least_from : (other : List ℕ) → Covers costs c other → (d i : ℕ) → length c ≤ i + d
      → slice_index l i ≤ slice_index other i
  least_from other covers zero i deep =
      let none = get_or_past l i 0 (omega arith) in
      omega arith
  least_from other covers (suc d) i deep =
      elim (cases_lt i (length c)) [
        | inl low ↦
            let at = instr_at c i low in
            let x : Instr = at.0 in
            let mine : slice_index l i ≡ needed costs l i x = are i x at.1 in
            let theirs : needed costs other i x ≤ slice_index other i = covers.each i x at.1 in
            let less : greatest (map (slice_index l) (goes_on i (Some x)))
            ≤ greatest (map (slice_index other) (goes_on i (Some x))) =
            greatest_less (slice_index l) (slice_index other) (goes_on i (Some x))
            (λ k within.
            let later = goes_later (length c) i x (slice_index (goes_on i (Some x)) k)
            (may_go_on c i x ok at.1) (Contains-get_or (goes_on i (Some x)) k 0 within) in
            least_from other covers d (slice_index (goes_on i (Some x)) k) (omega arith)) in
            omega arith
        | inr high ↦ let none = get_or_past l i 0 (omega arith) in omega arith
      ]

  pub needed_least : IsLeastCover costs c l
  needed_least = record {
    covers = needed_cover;
    least = λ other covers i. least_from other covers (length c) i (omega arith);
  }

  pub needed_taken : (m : Machine) → CodeFits m c → OnceCode c
      → IsGreatest m (CostOf costs c) (slice_index l 0)
  needed_taken m fit once =
      let t = taking Most costs c m ok fit once [] (map as_score l) are_scores in
      record {
        taken = (t.0, t.1, t.2 ∙ cost_at 0);
        most = λ s fs. covers_bound costs c l s ok needed_cover;
      }
