-- Sums and weights.
use Rattle.std.proofs.Common.{◌≡◌, ℕ, zero, suc, ◌+◌, ◌*◌, ◌<◌, ◌≤◌, Bool, true, false, cond, List, [], ◌∷◌, ◌++◌, Some, refl, ap, arith, inl, inr}
use Rattle.std.specs.Prelude.{find, unwrap_or}
use Rattle.std.proofs.lemmas.Option.{none-some}
use Rattle.std.proofs.lemmas.Bool.{cases_eq}
use Rattle.journals.specs.declared.entry.Owed.{Owed}
use Rattle.journals.specs.Schedules.{without_first}
use Rattle.net_gen.specs.Dwindling.{Load, weight, sum_below}

same_sums : (f g : ℕ → ℕ) (n : ℕ) → ((m : ℕ) → m < n → g m ≡ f m) → sum_below g n ≡ sum_below f n
same_sums f g zero h = refl
same_sums f g (suc n) h =
    let rest = same_sums f g n (λ m below. h m (omega arith)) in
    let last = h n (omega arith) in
    rw (rest, last) refl

-- where only the term of k changes, the sum changes as that term does
pub sum_moves : (f g : ℕ → ℕ) (n k a b : ℕ) → ((m : ℕ) → (k ≡ m → ⊥) → g m ≡ f m) → k < n
    → g k + a ≤ f k + b → sum_below g n + a ≤ sum_below f n + b
sum_moves f g zero k a b others below here = absurd (omega arith)
sum_moves f g (suc n) k a b others below here =
    elim (cases_eq k n) [
      | inl same ↦
          let rest : sum_below g n ≡ sum_below f n =
          same_sums f g n (λ m less. others m (λ e. let k_is = e in omega arith)) in
          let gk : g k ≡ g n = ap g same in
          let fk : f k ≡ f n = ap f same in
          omega arith
      | inr other ↦
          let last : g n ≡ f n = others n other in
          let rest = sum_moves f g n k a b others (omega arith) here in
          omega arith
    ]

pub sum_at_most : (f g : ℕ → ℕ) (n : ℕ) → ((m : ℕ) → m < n → f m ≤ 18 * g m)
    → sum_below f n ≤ 18 * sum_below g n
sum_at_most f g zero h = omega arith
sum_at_most f g (suc n) h =
    let rest = sum_at_most f g n (λ m below. h m (omega arith)) in
    let last = h n (omega arith) in
    omega arith

pub weight_append : (load : Load) (xs ys : List Owed)
    → weight load (xs ++ ys) ≡ weight load xs + weight load ys
weight_append load [] ys = let e : weight load ys ≡ 0 + weight load ys = omega arith in e
weight_append load (x ∷ xs) ys = let rest = weight_append load xs ys in omega arith

pub weight_without : (load : Load) (p : Owed → Bool) (ds : List Owed)
    → weight load (without_first p ds) ≤ weight load ds
weight_without load p [] = omega arith
weight_without load p (d ∷ ds) =
    let rest = weight_without load p ds in
    elim (p d) as (λ b. weight load (cond b ds (d ∷ without_first p ds)) ≤ weight load (d ∷ ds)) [
      | true ↦ omega arith
      | false ↦ omega arith
    ]

pub weight_taken : (load : Load) (p : Owed → Bool) (d : Owed) (ds : List Owed)
    → find p ds ≡ Some d
    → weight load (without_first p ds) + suc (load d.event d.code) ≡ weight load ds
weight_taken load p d [] found = absurd (none-some d found)
weight_taken load p d (x ∷ ds) found =
    let Goal : Bool → Type 0 = λ b. cond b (Some x) (find p ds) ≡ Some d
    → weight load (cond b ds (x ∷ without_first p ds)) + suc (load d.event d.code)
    ≡ weight load (x ∷ ds) in
    let here : Goal true = λ e.
    let same : x ≡ d = ap (λ o. unwrap_or o x) e in
    let load_is : load x.event x.code ≡ load d.event d.code =
    ap (λ (o : Owed). load o.event o.code) same in
    omega arith in
    let there : Goal false = λ e. let rest = weight_taken load p d ds e in omega arith in
    elim (p x) as (λ b. Goal b) [ true ↦ here | false ↦ there ] found
