use Rattle.std.proofs.Common.{◌≡◌, ⊎_elim, ◌+◌, ◌<◌, ℕ, List, [], ◌∷◌, ◌++◌, length, get_or, refl, sym, ap, subst, ◌∙◌, arith, length-append}
use Rattle.std.proofs.lemmas.Bool.{cases_lt}
use Rattle.std.proofs.lemmas.List.{get_or_append_left}
use Rattle.transition_table.specs.declared.machine.Machine.{Machine}
use Rattle.outcome_table.specs.inner.RowSets.{AreSets}
use Rattle.outcome_table.proofs.allowing.allowed_table.Goals as goal

at_end : (xs : List (List (List ℕ))) (x : List (List ℕ)) → get_or (xs ++ x ∷ []) (length xs) [] ≡ x
at_end [] x = refl
at_end (y ∷ xs) x = at_end xs x

-- those before the end, and the one at the end
one_more : (m : Machine) (xs new : List (List (List ℕ))) (x : List (List ℕ)) (n : ℕ)
    → ((k : ℕ) → k < n → AreSets m k (get_or xs k [])) → AreSets m n x → length xs ≡ n
    → new ≡ xs ++ x ∷ [] → (k : ℕ) → k < n + 1 → AreSets m k (get_or new k [])
one_more m xs new x n each last long made k low =
    subst (λ (l : List (List (List ℕ))). AreSets m k (get_or l k [])) (sym made)
    (⊎_elim
    (λ less. subst (AreSets m k) (sym (get_or_append_left xs (x ∷ []) [] k (omega arith)))
    (each k less))
    (λ more.
    let here : k ≡ n = omega arith in
    let place : k ≡ length xs = here ∙ sym long in
    subst (AreSets m k)
    (sym (ap (λ (i : ℕ). get_or (xs ++ x ∷ []) i []) place ∙ at_end xs x))
    (subst (λ (i : ℕ). AreSets m i x) (sym here) last))
    (cases_lt k n))

pub sets_of-requires-clause-var : goal.sets_of-requires-clause-var
sets_of-requires-clause-var c =
    subst (λ (n : ℕ). c.loop-var.var < n) c.len-var-end.ensures.len c.loop-var-test.true

pub loop-var-init : goal.loop-var-init
loop-var-init c = record {
  long = ap (λ (xs : List (List (List ℕ))). length xs) c.new-table.ensures;
  each = λ k low. absurd (omega arith);
}

pub loop-var-preserved : goal.loop-var-preserved
loop-var-preserved c =
    let old = c.loop-var.table in
    let sets = c.in_ok-sets_of.field-0 in
    let inv = c.loop-var.invariant in
    let ok = c.in_ok-push.ensures.ok in
    record {
      long = ap (λ (xs : List (List (List ℕ))). length xs) ok ∙ length-append old (sets ∷ [])
          ∙ ap (λ (n : ℕ). n + 1) inv.long;
      each = one_more c.args.machine.now old c.push.new.self sets c.loop-var.var inv.each
          c.in_ok-sets_of.ensures inv.long ok;
    }

pub returns : goal.returns
returns c =
    let inv = c.loop-var.invariant in
    let whole : length c.args.machine.now.vars ≡ c.loop-var.var = let a = c.loop-var-test.false in
    let b = c.len-var-end.ensures.len in let d = c.loop-var.auto.var-end in omega arith in
    record {
      long = inv.long ∙ sym whole;
      each = λ k low. inv.each k (omega arith);
    }
