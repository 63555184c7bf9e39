use Rattle.std.proofs.Common.{◌≡◌, ⊎_elim, ◌+◌, ◌<◌, ℕ, List, [], ◌∷◌, ◌++◌, length, get_or, slice_index, sym, ap, subst, ◌∙◌, arith, length-append}
use Rattle.std.proofs.lemmas.Bool.{cases_lt}
use Rattle.std.proofs.lemmas.List.{get_or_append_left}
use Rattle.domains.specs.Tables.{product}
use Rattle.transition_table.specs.declared.machine.Machine.{Machine}
use Rattle.transition_table.specs.Computed.{result_code}
use Rattle.order_sift.specs.inner.Classes.{snapshot_at}
use Rattle.order_sift.specs.inner.Pairs.{AreBelow}
use Rattle.order_sift.proofs.prepare.codes_of_results.Goals as goal
use Rattle.polis_base.proofs.Places.{list_at_end}

-- the codes of one result
record AreCodes (m : Machine) (y : ℕ) (codes : List ℕ) : Type 0 where
  long : length codes ≡ product m.vars
  below : AreBelow 33 codes
  code : (i : ℕ) → i < product m.vars → slice_index codes i ≡ result_code m y (snapshot_at m i)

-- those before the end, and the one at the end
one_more : (m : Machine) (xs new : List (List ℕ)) (x : List ℕ) (n : ℕ)
    → ((z : ℕ) → z < n → AreCodes m z (get_or xs z [])) → AreCodes m n x → length xs ≡ n
    → new ≡ xs ++ x ∷ [] → (z : ℕ) → z < n + 1 → AreCodes m z (get_or new z [])
one_more m xs new x n each last long made z low =
    subst (λ (l : List (List ℕ)). AreCodes m z (get_or l z [])) (sym made)
    (⊎_elim
    (λ less. subst (AreCodes m z) (sym (get_or_append_left xs (x ∷ []) [] z (omega arith)))
    (each z less))
    (λ more.
    let here : z ≡ n = omega arith in
    let place : z ≡ length xs = here ∙ sym long in
    subst (AreCodes m z)
    (sym (ap (λ (k : ℕ). get_or (xs ++ x ∷ []) k []) place ∙ list_at_end xs x))
    (subst (λ (k : ℕ). AreCodes m k x) (sym here) last))
    (cases_lt z n))

pub codes_of_result-requires-clause-result : goal.codes_of_result-requires-clause-result
codes_of_result-requires-clause-result c =
    subst (λ (n : ℕ). c.loop-y.y < n) c.len-y-end.ensures.len c.loop-y-test.true

pub loop-y-init : goal.loop-y-init
loop-y-init c = record {
  wide = ap (λ (xs : List (List ℕ)). length xs) c.new-results.ensures;
  long = λ z low. absurd (omega arith);
  below = λ z low. absurd (omega arith);
  code = λ z i low inside. absurd (omega arith);
}

pub loop-y-preserved : goal.loop-y-preserved
loop-y-preserved c =
    let m = c.args.m.now in
    let old = c.loop-y.results in
    let codes = c.in_ok-codes.codes in
    let inv = c.loop-y.invariant in
    let ok = c.in_ok-push.ensures.ok in
    let each = one_more m old c.push.new.self codes c.loop-y.y
    (λ z low. record {
      long = inv.long z low;
      below = inv.below z low;
      code = λ i inside. inv.code z i low inside;
    })
    (record {
      long = c.in_ok-codes.ensures.long;
      below = c.in_ok-codes.ensures.below;
      code = c.in_ok-codes.ensures.each;
    }) inv.wide ok in
    record {
      wide = ap (λ (xs : List (List ℕ)). length xs) ok ∙ length-append old (codes ∷ [])
          ∙ ap (λ (n : ℕ). n + 1) inv.wide;
      long = λ z low. (each z low).long;
      below = λ z low. (each z low).below;
      code = λ z i low inside. (each z low).code i inside;
    }

pub returns : goal.returns
returns c =
    let inv = c.loop-y.invariant in
    let whole : length c.args.m.now.results ≡ c.loop-y.y = let a = c.loop-y-test.false in
    let b = c.len-y-end.ensures.len in let d = c.loop-y.auto.y-end in omega arith in
    record {
      wide = inv.wide ∙ sym whole;
      long = λ y low. inv.long y (omega arith);
      below = λ y low. inv.below y (omega arith);
      code = λ y i low inside. inv.code y i (omega arith) inside;
    }
