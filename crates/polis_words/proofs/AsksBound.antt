-- The bounds that command lines ask for.
use Rattle.std.proofs.Common.{◌≡◌, inl, inr, subst, ℕ, ◌<◌, ◌≤◌, ◌^◌, ◌≢◌, List, [], ◌∷◌, length, drop, slice_get, Option, Some, None, sym, ap, ◌∙◌, arith, codes, decimal}
use Rattle.std.specs.Prelude.{IfSome, IfNone}
use Rattle.std.proofs.lemmas.Fmt.{decimal_injective}
use Rattle.polis_base.specs.declared.limits.TheConstants.{COST_MAX}
use Rattle.polis_words.specs.declared.requests.costs.GivenCosts.{GivenCosts}
use Rattle.polis_words.specs.Bound.{BoundWords, AsksBound, GiveCosts}
use Rattle.polis_words.specs.FileWords.{IsFileWord}
use Rattle.polis_words.specs.inner.Bound.{AreCostsAt}
use Rattle.polis_words.specs.inner.Commands.{IsCommand}
use Rattle.polis_words.proofs.Asks.{same_item, same_word}

-- a number that is too great is no cost
pub no_cost : (answer : Option ℕ) (text : List ℕ) (n : ℕ) → text ≡ decimal n → n < 2 ^ 64
    → IfNone answer (COST_MAX < n)
    → IfNone answer ((k : ℕ) → k ≤ COST_MAX → text ≢ decimal k)
no_cost None text n e below none =
    λ k few d.
    let same : n ≡ k = decimal_injective n k below (omega arith) (sym e ∙ d) in
    omega arith
no_cost (Some found) text n e below none = tt

-- the words after the file are the four costs
given_four : (words : List (List ℕ)) (costs : GivenCosts) → length words ≡ 6
    → AreCostsAt words costs
    → drop 2 words
    ≡ decimal costs.test ∷ decimal costs.set ∷ decimal costs.jump ∷ decimal costs.halt ∷ []
given_four [] costs n at = absurd (omega arith)
given_four (a ∷ []) costs n at = absurd (omega arith)
given_four (a ∷ b ∷ []) costs n at = absurd (omega arith)
given_four (a ∷ b ∷ c ∷ []) costs n at = absurd (omega arith)
given_four (a ∷ b ∷ c ∷ d ∷ []) costs n at = absurd (omega arith)
given_four (a ∷ b ∷ c ∷ d ∷ e ∷ []) costs n at = absurd (omega arith)
given_four (a ∷ b ∷ c ∷ d ∷ e ∷ f ∷ []) costs n at =
    let p = at.test in let q = at.set in let r = at.jump in let s = at.halt in cc
given_four (a ∷ b ∷ c ∷ d ∷ e ∷ f ∷ g ∷ more) costs n at = absurd (omega arith)

pub some_four : (answer : Option GivenCosts) (words : List (List ℕ)) → length words ≡ 6
    → IfSome answer (AreCostsAt words) → IfSome answer (GiveCosts (drop 2 words))
some_four None words n at = tt
some_four (Some costs) words n at = inr (given_four words costs n at, at.few)

-- words give these costs alone
pub one_costs : (given : List (List ℕ)) (a b : GivenCosts) → GiveCosts given a → GiveCosts given b
    → a ≡ b
one_costs given a b (inl x) (inl y) = x.1 ∙ sym y.1
one_costs given a b (inl x) (inr y) =
    let long = ap (λ (w : List (List ℕ)). length w) (sym x.0 ∙ y.0) in
    absurd (omega (arith, long))
one_costs given a b (inr x) (inl y) =
    let long = ap (λ (w : List (List ℕ)). length w) (sym x.0 ∙ y.0) in
    absurd (omega (arith, long))
one_costs given a b (inr x) (inr y) =
    let e = sym x.0 ∙ y.0 in
    let test = decimal_injective a.test b.test (few x.1.test) (few y.1.test) (same_item 0 e) in
    let set = decimal_injective a.set b.set (few x.1.set) (few y.1.set) (same_item 1 e) in
    let jump = decimal_injective a.jump b.jump (few x.1.jump) (few y.1.jump) (same_item 2 e) in
    let halt = decimal_injective a.halt b.halt (few x.1.halt) (few y.1.halt) (same_item 3 e) in
    λ i. record { test = test i; set = set i; jump = jump i; halt = halt i }
  where
    few : {n : ℕ} → n ≤ COST_MAX → n < 2 ^ 64
    few low = omega arith

pub one_four : (answer : Option GivenCosts) (words : List (List ℕ)) → length words ≡ 6
    → IfSome answer (AreCostsAt words)
    → IfSome answer (λ costs. (other : GivenCosts) → GiveCosts (drop 2 words) other → other ≡ costs)
one_four None words n at = tt
one_four (Some costs) words n at = λ other gives.
    one_costs (drop 2 words) other costs gives (inr (given_four words costs n at, at.few))

-- the words after the file give the costs of the bounds
pub given_costs : (words : List (List ℕ)) (bound : BoundWords) → AsksBound words bound
    → GiveCosts (drop 2 words) bound.costs
given_costs words bound asks =
    subst (λ (given : List (List ℕ)). GiveCosts given bound.costs)
    (sym (ap (λ (w : List (List ℕ)). drop 2 w) asks.form)) asks.costs

-- the command line asks for bounds of this file at these costs
two_and_more : (words : List (List ℕ)) (a b : List ℕ) → slice_get words 0 ≡ Some a
    → slice_get words 1 ≡ Some b → words ≡ a ∷ b ∷ drop 2 words
two_and_more [] a b p q = cc
two_and_more (w ∷ []) a b p q = cc
two_and_more (w ∷ x ∷ more) a b p q = cc

pub bound_asked : (words : List (List ℕ)) (net : List ℕ) (costs : GivenCosts)
    → IsCommand words (codes "bound") → slice_get words 1 ≡ Some net → IsFileWord net
    → GiveCosts (drop 2 words) costs → AsksBound words (record { net = net; costs = costs })
bound_asked words net costs command at file gives = record {
  given = drop 2 words;
  form = two_and_more words (codes "bound") net command at;
  costs = gives;
  net = file;
}

-- and for no others
pub one_bound : (words : List (List ℕ)) (net : List ℕ) (costs : GivenCosts)
    → slice_get words 1 ≡ Some net
    → ((other : GivenCosts) → GiveCosts (drop 2 words) other → other ≡ costs)
    → (other : BoundWords) → AsksBound words other
    → other ≡ record { net = net; costs = costs }
one_bound words net costs at one other asks =
    let net_is = same_word words 1 net other.net at
    (ap (λ (w : List (List ℕ)). slice_get w 1) asks.form) in
    let costs_are = one other.costs (given_costs words other asks) in
    λ i. record { net = net_is i; costs = costs_are i }

-- no costs are given, so no bounds are asked for
pub no_bound : (words : List (List ℕ))
    → ((costs : GivenCosts) → GiveCosts (drop 2 words) costs → ⊥) → (bound : BoundWords)
    → AsksBound words bound → ⊥
no_bound words none bound asks = none bound.costs (given_costs words bound asks)
