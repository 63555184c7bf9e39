-- Numbers that cover code, made from the last instruction to the first.
use Rattle.std.proofs.Common.{◌≡◌, cond, inl, inr, ℕ, zero, suc, ◌+◌, ◌-◌, ◌*◌, ◌<◌, ◌≤◌, max, List, [], ◌∷◌, map, length, drop, slice_get, slice_index, slice_set, Some, refl, ap, sym, subst, ◌∙◌, arith, length-set}
use Rattle.std.proofs.lemmas.Bool.{cases_lt, cases_order}
use Rattle.std.proofs.lemmas.List.{drop_more, get_or-set_same, get_or-set_other}
use Rattle.std.proofs.lemmas.Option.{get_or_from_slice_get, slice_get_within}
use Rattle.std.specs.Ordering.{ord_max, nat_cmp, is_lt}
use Rattle.std.specs.Cmp.{nat_cmp_is}
use Rattle.std.specs.declared.cmp.Ordering.{Ordering}
use Rattle.std.specs.declared.cmp.Ordering.TheVariants.{Less, Equal, Greater}
use Rattle.task_code.specs.declared.instr.Instr.{Instr}
use Rattle.task_code.specs.declared.instr.Instr.TheVariants.{Test, Set, Goto, Halt}
use Rattle.task_code.specs.Facts.{IsCode, goes_on}
use Rattle.cost_bound.specs.inner.Scores.{MayGoOn}
use Rattle.cost_bound.specs.declared.costs.Costs.{Costs}
use Rattle.cost_bound.specs.Certificates.{greatest, needed}
use Rattle.cost_bound.specs.Costs.{cost_of}
use Rattle.cost_bound.proofs.CoversBound.{AreNeeded}
use Rattle.cost_bound.proofs.ScoreSteps.{few_cost}
use Rattle.cost_bound.proofs.TailCosts.{may_go_on}

pub record Labelled (costs : Costs) (c : List Instr) (l : List ℕ) (at : ℕ) : Type 0 where
  pub long : length l ≡ length c
  pub each :
      (i : ℕ) (x : Instr)
      → at ≤ i
      → slice_get c i ≡ Some x
      → slice_index l i ≡ needed costs l i x
  pub small : (p : ℕ) → at ≤ p → p < length c → slice_index l p ≤ 1000000 * (length c - p)

pub labelled_whole : (costs : Costs) (c : List Instr) (l : List ℕ) (at : ℕ)
    → Labelled costs c l at → at ≤ 0 → AreNeeded costs c l
labelled_whole costs c l at labelled none i x is = labelled.each i x (omega arith) is

-- the greatest number of places hangs on these places alone
greatest_same : (f g : ℕ → ℕ) (xs : List ℕ)
    → ((j : ℕ) → j < length xs → g (slice_index xs j) ≡ f (slice_index xs j))
    → greatest (map g xs) ≡ greatest (map f xs)
greatest_same f g [] same = refl
greatest_same f g (x ∷ xs) same =
    ap (λ (n : ℕ). max n (greatest (map g xs))) (same 0 (omega arith))
    ∙ ap (max (f x)) (greatest_same f g xs (λ j low. same (suc j) (omega arith)))

needed_same : (costs : Costs) (a b : List ℕ) (count i : ℕ) (x : Instr) → MayGoOn count i x
    → ((p : ℕ) → i < p → slice_index b p ≡ slice_index a p)
    → needed costs b i x ≡ needed costs a i x
needed_same costs a b count i x may same =
    ap (λ (n : ℕ). cost_of costs x + n)
    (greatest_same (slice_index a) (slice_index b) (goes_on i (Some x)) (on x may))
  where
    on : (x : Instr) → MayGoOn count i x → (j : ℕ) → j < length (goes_on i (Some x))
        → slice_index b (slice_index (goes_on i (Some x)) j)
        ≡ slice_index a (slice_index (goes_on i (Some x)) j)
    on (Test var targets) may j low = same (slice_index targets j) (may.1 j low).0
    on (Set result code) may zero low = same (suc i) (omega arith)
    on (Set result code) may (suc j) low = absurd (omega arith)
    on (Goto target) may zero low = same target may.0
    on (Goto target) may (suc j) low = absurd (omega arith)
    on Halt may j low = absurd (omega arith)

greatest_few : (f : ℕ → ℕ) (xs : List ℕ) (n : ℕ)
    → ((j : ℕ) → j < length xs → f (slice_index xs j) ≤ n) → greatest (map f xs) ≤ n
greatest_few f [] n few = omega arith
greatest_few f (x ∷ xs) n few =
    let first : f x ≤ n = few 0 (omega arith) in
    let rest = greatest_few f xs n (λ j low. few (suc j) (omega arith)) in
    omega arith

-- what an instruction needs is small where the numbers are to which it may go on
needed_small : (costs : Costs) (l : List ℕ) (count i n : ℕ) (x : Instr) → MayGoOn count i x
    → ((p : ℕ) → i < p → p < count → slice_index l p ≤ n) → needed costs l i x ≤ 1000000 + n
needed_small costs l count i n x may small =
    let few = few_cost costs x in
    let rest = greatest_few (slice_index l) (goes_on i (Some x)) n (on x may) in
    omega arith
  where
    on : (x : Instr) → MayGoOn count i x → (j : ℕ) → j < length (goes_on i (Some x))
        → slice_index l (slice_index (goes_on i (Some x)) j) ≤ n
    on (Test var targets) may j low =
        let to = may.1 j low in
        small (slice_index targets j) to.0 to.1
    on (Set result code) may zero low = small (suc i) (omega arith) (omega arith)
    on (Set result code) may (suc j) low = absurd (omega arith)
    on (Goto target) may zero low = small target may.0 may.1
    on (Goto target) may (suc j) low = absurd (omega arith)
    on Halt may j low = absurd (omega arith)

pub labelled_more : (costs : Costs) (c : List Instr) (a b : List ℕ) (at label : ℕ) (x : Instr)
    → IsCode c → slice_get c at ≡ Some x → Labelled costs c a (at + 1)
    → label ≡ needed costs a at x → b ≡ slice_set a at label → Labelled costs c b at
labelled_more costs c a b at label x ok is labelled label_is set =
    let low = slice_get_within c at x is in
    let inside : at < length a = omega (arith, labelled.long) in
    let may = may_go_on c at x ok is in
    let own : slice_index b at ≡ label =
    ap (λ (xs : List ℕ). slice_index xs at) set ∙ get_or-set_same a at label 0 inside in
    let others : (p : ℕ) → at < p → slice_index b p ≡ slice_index a p =
    λ p late. ap (λ (xs : List ℕ). slice_index xs p) set
    ∙ get_or-set_other a at p label 0 (λ e. absurd (omega arith)) in
    let here : slice_index b at ≡ needed costs b at x =
    own ∙ label_is ∙ sym (needed_same costs a b (length c) at x may others) in
    let few = needed_small costs a (length c) at (1000000 * (length c - at - 1)) x may
    (λ p late within. let old = labelled.small p (omega arith) within in omega arith) in
    let here_small : slice_index b at ≤ 1000000 * (length c - at) = omega arith in
    record {
      long = ap (λ (xs : List ℕ). length xs) set ∙ length-set a at label ∙ labelled.long;
      each = λ i y late is_y. each i y late is_y here others;
      small = λ p late within. small p late within here_small others;
    }
  where
    each : (i : ℕ) (y : Instr) → at ≤ i → slice_get c i ≡ Some y
        → slice_index b at ≡ needed costs b at x
        → ((p : ℕ) → at < p → slice_index b p ≡ slice_index a p)
        → slice_index b i ≡ needed costs b i y
    each i y late is_y here others =
        elim (cases_lt at i) [
          | inl later ↦
              others i later ∙ labelled.each i y (omega arith) is_y
              ∙ sym (needed_same costs a b (length c) i y (may_go_on c i y ok is_y)
              (λ p after. others p (omega arith)))
          | inr not_later ↦
              let e : at ≡ i = omega arith in
              let same : x ≡ y = got_same (sym is ∙ ap (slice_get c) e ∙ is_y) in
              subst (λ (z : Instr). slice_index b i ≡ needed costs b i z) same
              (subst (λ (k : ℕ). slice_index b k ≡ needed costs b k x) e here)
        ]
      where
        got_same : Some x ≡ Some y → x ≡ y
        got_same h = cc

    small : (p : ℕ) → at ≤ p → p < length c → slice_index b at ≤ 1000000 * (length c - at)
        → ((q : ℕ) → at < q → slice_index b q ≡ slice_index a q)
        → slice_index b p ≤ 1000000 * (length c - p)
    small p late within here others =
        elim (cases_lt at p) [
          | inl later ↦
              let old = labelled.small p (omega arith) within in
              let e = others p later in
              omega arith
          | inr not_later ↦
              let e : at ≡ p = omega arith in
              subst (λ (k : ℕ). slice_index b k ≤ 1000000 * (length c - k)) e here
        ]

-- ---- the greatest number of places, one place after another
max_is : (a b : ℕ) → ord_max nat_cmp a b ≡ max a b
max_is a b =
    elim (cases_order b a) [
      | inl same ↦
          ap (λ (o : Ordering). cond (is_lt o) a b) (sym (nat_cmp_is b a Equal same))
          ∙ omega arith
      | inr (inl less) ↦
          ap (λ (o : Ordering). cond (is_lt o) a b) (sym (nat_cmp_is b a Less less)) ∙ omega arith
      | inr (inr more) ↦
          ap (λ (o : Ordering). cond (is_lt o) a b) (sym (nat_cmp_is b a Greater more))
          ∙ omega arith
    ]

pub greatest_more : (most here r g : ℕ) (ls xs : List ℕ) (j p : ℕ) → j < length xs
    → slice_get xs j ≡ Some p → slice_get ls p ≡ Some here → r ≡ ord_max nat_cmp most here
    → max most (greatest (map (slice_index ls) (drop j xs))) ≡ g
    → max r (greatest (map (slice_index ls) (drop (j + 1) xs))) ≡ g
greatest_more most here r g ls xs j p low is there_is max_of inv =
    let split = drop_more xs j 0 low in
    let place : slice_index xs j ≡ p = get_or_from_slice_get xs j p 0 is in
    let number : slice_index ls p ≡ here = get_or_from_slice_get ls p here 0 there_is in
    let own : slice_index ls (slice_index xs j) ≡ here = ap (slice_index ls) place ∙ number in
    let whole : greatest (map (slice_index ls) (drop j xs))
    ≡ max here (greatest (map (slice_index ls) (drop (j + 1) xs))) =
    ap (λ (ys : List ℕ). greatest (map (slice_index ls) ys)) split
    ∙ ap (λ (n : ℕ). max n (greatest (map (slice_index ls) (drop (j + 1) xs)))) own in
    let r_is : r ≡ max most here = max_of ∙ max_is most here in
    omega arith

-- the greatest number of later places is below what all later numbers are below
pub ahead_few : (l : List ℕ) (count i n : ℕ) (x : Instr) → MayGoOn count i x
    → ((p : ℕ) → i < p → p < count → slice_index l p < n + 1)
    → greatest (map (slice_index l) (goes_on i (Some x))) ≤ n
ahead_few l count i n x may small =
    greatest_few (slice_index l) (goes_on i (Some x)) n (on x may)
  where
    on : (x : Instr) → MayGoOn count i x → (j : ℕ) → j < length (goes_on i (Some x))
        → slice_index l (slice_index (goes_on i (Some x)) j) ≤ n
    on (Test var targets) may j low =
        let to = may.1 j low in
        let s = small (slice_index targets j) to.0 to.1 in
        omega arith
    on (Set result code) may zero low =
        let s = small (suc i) (omega arith) (omega arith) in
        omega arith
    on (Set result code) may (suc j) low = absurd (omega arith)
    on (Goto target) may zero low = let s = small target may.0 may.1 in omega arith
    on (Goto target) may (suc j) low = absurd (omega arith)
    on Halt may j low = absurd (omega arith)

-- one place
pub one_place : (l : List ℕ) (place n : ℕ) → slice_get l place ≡ Some n
    → n ≡ greatest (map (slice_index l) (place ∷ []))
one_place l place n is =
    let e : slice_index l place ≡ n = get_or_from_slice_get l place n 0 is in
    omega arith
