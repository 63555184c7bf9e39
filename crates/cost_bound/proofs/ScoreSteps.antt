-- Scores, made from the last instruction to the first.
use Rattle.std.proofs.Common.{◌≡◌, ℕ, suc, ◌+◌, ◌-◌, ◌*◌, ◌<◌, ◌≤◌, List, length, slice_get, slice_index, slice_set, Some, ap, sym, subst, ◌∙◌, arith, length-set}
use Rattle.std.proofs.Math.Nat.{mul-le-mul_right}
use Rattle.std.proofs.lemmas.List.{get_or-set_same, get_or-set_other}
use Rattle.std.proofs.lemmas.Bool.{cases_lt}
use Rattle.std.proofs.Common.{inl, inr}
use Rattle.task_code.specs.declared.instr.Instr.{Instr}
use Rattle.task_code.specs.declared.instr.Instr.TheVariants.{Test, Set, Goto, Halt}
use Rattle.task_code.specs.Facts.{IsCode}
use Rattle.cost_bound.specs.declared.aim.Aim.{Aim}
use Rattle.cost_bound.specs.declared.aim.Aim.TheVariants.{Most, Least}
use Rattle.cost_bound.specs.declared.costs.Costs.{Costs}
use Rattle.cost_bound.specs.declared.score.Score.{Score}
use Rattle.cost_bound.specs.Costs.{cost_of}
use Rattle.cost_bound.specs.inner.Scores.{AtLeast, nothing, score_of, IsAhead, IsBestOf, IsScore, IsSmall, Weigh, MayGoOn}
use Rattle.cost_bound.proofs.TailCosts.{may_go_on}
use Rattle.std.proofs.lemmas.Option.{slice_get_within}

-- the instructions from a place on have their scores
pub record Scored (aim : Aim) (costs : Costs) (ws : List ℕ) (c : List Instr) (scores : List Score) (at : ℕ) : Type 0 where
  pub long : length scores ≡ length c
  pub each :
      (i : ℕ) (x : Instr)
      → at ≤ i
      → slice_get c i ≡ Some x
      → IsScore aim costs ws scores i x (score_of scores i)
  pub small : (p : ℕ) → at ≤ p → p < length c → IsSmall (length c - p) (score_of scores p)

-- ---- what is ahead hangs on later places alone
module _ (aim : Aim) (ws : List ℕ) (a b : List Score) (count i : ℕ)
    (same : (p : ℕ) → i < p → score_of b p ≡ score_of a p) where
  cost_same : (p : ℕ) → i < p → (score_of b p).cost ≡ (score_of a p).cost
  cost_same p late = ap (λ (r : Score). r.cost) (same p late)

  number_same : (p : ℕ) → i < p → (score_of b p).number ≡ (score_of a p).number
  number_same p late = ap (λ (r : Score). r.number) (same p late)

  ahead_same : (x : Instr) (r : Score) → MayGoOn count i x → IsAhead aim ws a i x r
      → IsAhead aim ws b i x r
  ahead_same (Test var targets) r may best = record {
    code = best.code;
    low = best.low;
    cost_is = best.cost_is
        ∙ sym (cost_same (slice_index targets best.code) (may.1 best.code best.low).0);
    number_is = omega (
      arith,
      best.number_is,
      number_same (slice_index targets best.code) (may.1 best.code best.low).0,
    );
    none = λ j low. with_equal (score_of b (slice_index targets j)).cost
        (score_of a (slice_index targets j)).cost (score_of b (slice_index targets j)).number
        (score_of a (slice_index targets j)).number (j * slice_index ws var)
        (cost_same (slice_index targets j) (may.1 j low).0)
        (number_same (slice_index targets j) (may.1 j low).0) (best.none j low);
  }
    where
      with_equal : (e f en fn q : ℕ) → e ≡ f → en ≡ fn
          → AtLeast aim r.cost r.number f (q + fn) → AtLeast aim r.cost r.number e (q + en)
      with_equal e f en fn q p o h = rw (p, o) h
  ahead_same (Set result code) r may e = e ∙ sym (same (suc i) (omega arith))
  ahead_same (Goto target) r may e = e ∙ sym (same target may.0)
  ahead_same Halt r may e = e

-- ---- scores are small
pub ahead_small : (aim : Aim) (ws : List ℕ) (scores : List Score) (count i : ℕ) (x : Instr) (r : Score)
    → i < count → MayGoOn count i x → Weigh ws x → IsAhead aim ws scores i x r
    → ((p : ℕ) → i < p → p < count → IsSmall (count - p) (score_of scores p))
    → (r.cost ≤ 1000000 * (count - i - 1)) × (r.number ≤ 65536 * (count - i))
ahead_small aim ws scores count i (Test var targets) r low may weigh best small =
    let to = may.1 best.code best.low in
    let p : ℕ = slice_index targets best.code in
    let one = small p to.0 to.1 in
    let w : ℕ = slice_index ws var in
    let le : best.code ≤ length targets = omega (arith, best.low) in
    let part : best.code * w ≤ length targets * w = mul-le-mul_right w le in
    let few : length targets * w ≤ 65536 = omega (arith, weigh.1) in (
      omega (arith, best.cost_is, one.cost_few),
      omega (arith, best.number_is, one.number_few),
    )
ahead_small aim ws scores count i (Set result code) r low may weigh e small =
    let one = small (suc i) (omega arith) (omega arith) in
    let cost : r.cost ≡ (score_of scores (suc i)).cost = ap (λ (s : Score). s.cost) e in
    let number : r.number ≡ (score_of scores (suc i)).number = ap (λ (s : Score). s.number) e in
    (omega (arith, one.cost_few), omega (arith, one.number_few))
ahead_small aim ws scores count i (Goto target) r low may weigh e small =
    let one = small target may.0 may.1 in
    let cost : r.cost ≡ (score_of scores target).cost = ap (λ (s : Score). s.cost) e in
    let number : r.number ≡ (score_of scores target).number = ap (λ (s : Score). s.number) e in
    (omega (arith, one.cost_few), omega (arith, one.number_few))
ahead_small aim ws scores count i Halt r low may weigh e small =
    let cost : r.cost ≡ 0 = ap (λ (s : Score). s.cost) e in
    let number : r.number ≡ 0 = ap (λ (s : Score). s.number) e in
    (omega arith, omega arith)

pub few_cost : (costs : Costs) (x : Instr) → cost_of costs x ≤ 1000000
few_cost costs (Test var targets) = costs.few_test
few_cost costs (Set result code) = costs.few_set
few_cost costs (Goto target) = costs.few_jump
few_cost costs Halt = costs.few_halt

-- ---- one more
pub scored_more : (aim : Aim) (costs : Costs) (ws : List ℕ) (c : List Instr)
    (a b : List Score) (at : ℕ) (x : Instr) (r score : Score) → IsCode c → slice_get c at ≡ Some x
    → Weigh ws x → Scored aim costs ws c a (at + 1) → IsAhead aim ws a at x r
    → score.cost ≡ cost_of costs x + r.cost → score.number ≡ r.number
    → b ≡ slice_set a at score → Scored aim costs ws c b at
scored_more aim costs ws c a b at x r score ok is weigh scored ahead cost number set =
    let low = slice_get_within c at x is in
    let inside : at < length a = omega (arith, scored.long) in
    let may = may_go_on c at x ok is in
    let own : score_of b at ≡ score =
    ap (λ (xs : List Score). score_of xs at) set ∙ get_or-set_same a at score nothing inside in
    let others : (p : ℕ) → at < p → score_of b p ≡ score_of a p =
    λ p late. ap (λ (xs : List Score). score_of xs p) set
    ∙ get_or-set_other a at p score nothing (λ e. absurd (omega arith)) in
    let own_cost : (score_of b at).cost ≡ score.cost = ap (λ (s : Score). s.cost) own in
    let own_number : (score_of b at).number ≡ score.number = ap (λ (s : Score). s.number) own in
    let bounds = ahead_small aim ws a (length c) at x r low may weigh ahead
    (λ p late within. scored.small p (omega arith) within) in
    let few = few_cost costs x in
    let here : IsScore aim costs ws b at x (score_of b at) = record {
      ahead = r;
      best = ahead_same aim ws a b (length c) at others x r may ahead;
      cost_is = own_cost ∙ cost;
      number_is = own_number ∙ number;
    } in
    let here_small : IsSmall (length c - at) (score_of b at) = record {
      cost_few = omega (arith, bounds.0);
      number_few = omega (arith, bounds.1);
    } in
    record {
      long = ap (λ (xs : List Score). length xs) set ∙ length-set a at score ∙ scored.long;
      each = λ i y late there_is. each i y late there_is here others;
      small = λ p late within. small p late within here_small others;
    }
  where
    each : (i : ℕ) (y : Instr) → at ≤ i → slice_get c i ≡ Some y
        → IsScore aim costs ws b at x (score_of b at)
        → ((p : ℕ) → at < p → score_of b p ≡ score_of a p)
        → IsScore aim costs ws b i y (score_of b i)
    each i y late is_y here others =
        elim (cases_lt at i) [
          | inl later ↦
              let old = scored.each i y (omega arith) is_y in
              let cost = ap (λ (s : Score). s.cost) (others i later) in
              let number = ap (λ (s : Score). s.number) (others i later) in
              record {
                ahead = old.ahead;
                best = ahead_same aim ws a b (length c) i
                    (λ p after. others p (omega arith)) y old.ahead
                    (may_go_on c i y ok is_y) old.best;
                cost_is = cost ∙ old.cost_is;
                number_is = number ∙ old.number_is;
              }
          | inr not_later ↦
              let e : at ≡ i = omega arith in
              let same : x ≡ y = got_same (sym is ∙ ap (slice_get c) e ∙ is_y) in
              subst (λ (z : Instr). IsScore aim costs ws b i z (score_of b i)) same
              (subst (λ (k : ℕ). IsScore aim costs ws b k x (score_of b k)) e here)
        ]
      where
        got_same : Some x ≡ Some y → x ≡ y
        got_same h = cc

    small : (p : ℕ) → at ≤ p → p < length c → IsSmall (length c - at) (score_of b at)
        → ((q : ℕ) → at < q → score_of b q ≡ score_of a q)
        → IsSmall (length c - p) (score_of b p)
    small p late within here others =
        elim (cases_lt at p) [
          | inl later ↦
              let old = scored.small p (omega arith) within in
              subst (λ (s : Score). IsSmall (length c - p) s) (sym (others p later)) old
          | inr not_later ↦
              let e : at ≡ p = omega arith in
              subst (λ (k : ℕ). IsSmall (length c - k) (score_of b k)) e here
        ]

-- ---- the best code of a test
at_least_same : (aim : Aim) (a an : ℕ) → AtLeast aim a an a an
at_least_same Most a an = (omega arith, λ e. omega arith)
at_least_same Least a an = (omega arith, λ e. omega arith)

at_least_chain : (aim : Aim) (a an b bn c cn : ℕ) → AtLeast aim a an b bn → AtLeast aim b bn c cn
    → AtLeast aim a an c cn
at_least_chain Most a an b bn c cn (p, f) (q, g) =
    (omega arith, λ e. let x = f (omega arith) in let y = g (omega arith) in omega arith)
at_least_chain Least a an b bn c cn (p, f) (q, g) =
    (omega arith, λ e. let x = f (omega arith) in let y = g (omega arith) in omega arith)

module _ (aim : Aim) (weight : ℕ) (scores : List Score) (targets : List ℕ) where
  abbrev ByCode : ℕ → Score → Type 0
  ByCode code score =
      (score.cost ≡ (score_of scores (slice_index targets code)).cost)
      × (score.number ≡ code * weight + (score_of scores (slice_index targets code)).number)

  own : (code : ℕ) (score : Score) → ByCode code score
      → AtLeast aim score.cost score.number (score_of scores (slice_index targets code)).cost
      (code * weight + (score_of scores (slice_index targets code)).number)
  own code score (p, q) = rw (← p, ← q) (at_least_same aim score.cost score.number)

  pub best_first : (score : Score) → ByCode 0 score
      → IsBestOf aim weight scores targets 1 score
  best_first score by = record {
    code = 0;
    low = omega arith;
    cost_is = by.0;
    number_is = by.1;
    none = λ j low. let e : 0 ≡ j = omega arith in
        subst (λ (k : ℕ). AtLeast aim score.cost score.number
        (score_of scores (slice_index targets k)).cost
        (k * weight + (score_of scores (slice_index targets k)).number)) e (own 0 score by);
  }

  pub best_takes : (count : ℕ) (best score : Score) → IsBestOf aim weight scores targets count best
      → ByCode count score → AtLeast aim score.cost score.number best.cost best.number
      → IsBestOf aim weight scores targets (count + 1) score
  best_takes count best score is by better = record {
    code = count;
    low = omega arith;
    cost_is = by.0;
    number_is = by.1;
    none = λ j low. elim (cases_lt j count) [
      | inl less ↦ at_least_chain aim score.cost score.number best.cost best.number
          (score_of scores (slice_index targets j)).cost
          (j * weight + (score_of scores (slice_index targets j)).number) better
          (is.none j less)
      | inr more ↦ let e : count ≡ j = omega arith in
          subst (λ (k : ℕ). AtLeast aim score.cost score.number
          (score_of scores (slice_index targets k)).cost
          (k * weight + (score_of scores (slice_index targets k)).number)) e
          (own count score by)
    ];
  }

  pub best_keeps : (count : ℕ) (best score : Score) → IsBestOf aim weight scores targets count best
      → ByCode count score → AtLeast aim best.cost best.number score.cost score.number
      → IsBestOf aim weight scores targets (count + 1) best
  best_keeps count best score is by better = record {
    code = is.code;
    low = let low = is.low in omega arith;
    cost_is = is.cost_is;
    number_is = is.number_is;
    none = λ j low. elim (cases_lt j count) [
      | inl less ↦ is.none j less
      | inr more ↦ let e : count ≡ j = omega arith in
          subst (λ (k : ℕ). AtLeast aim best.cost best.number
          (score_of scores (slice_index targets k)).cost
          (k * weight + (score_of scores (slice_index targets k)).number)) e
          (at_least_chain aim best.cost best.number score.cost score.number
          (score_of scores (slice_index targets count)).cost
          (count * weight + (score_of scores (slice_index targets count)).number) better
          (own count score by))
    ];
  }
