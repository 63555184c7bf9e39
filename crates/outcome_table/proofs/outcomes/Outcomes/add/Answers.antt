use Rattle.std.proofs.Common.{◌≡◌, ◌∙◌, ◌<◌, [], ◌∷◌, ◌++◌, ℕ, List, length, take, get_or, refl, sym, ap, subst, arith, length-append}
use Rattle.outcome_table.specs.Known.{AreKnown}
use Rattle.outcome_table.proofs.AreKnown.{known_before, known_last}
use Rattle.outcome_table.proofs.outcomes.Outcomes.add.Goals as goal
use Rattle.polis_base.proofs.Places.{list_at_end}

pub row_key-requires-clause-row : goal.row_key-requires-clause-row
row_key-requires-clause-row c = c.requires.row

pub row_key-requires-clause-snapshot : goal.row_key-requires-clause-snapshot
row_key-requires-clause-snapshot c = c.requires.snapshot

pub row_codes-requires-clause-row : goal.row_codes-requires-clause-row
row_codes-requires-clause-row c = c.requires.row

pub row_codes-requires-clause-snapshot : goal.row_codes-requires-clause-snapshot
row_codes-requires-clause-snapshot c = c.requires.snapshot

pub invariant_of-self : goal.invariant_of-self
invariant_of-self c = c.self.invariant

pub invariant_of-self-in-Some : goal.invariant_of-self-in-Some
invariant_of-self-in-Some c = c.self.invariant

pub invariant_of-self-in_err-key : goal.invariant_of-self-in_err-key
invariant_of-self-in_err-key c = c.self.invariant

pub invariant_of-self-in_err-row_codes : goal.invariant_of-self-in_err-row_codes
invariant_of-self-in_err-row_codes c = c.self.invariant

take_own : (xs ys : List (List ℕ)) → take (length xs) (xs ++ ys) ≡ xs
take_own [] ys = refl
take_own (x ∷ xs) ys = ap (λ (l : List (List ℕ)). x ∷ l) (take_own xs ys)

take_all : (xs : List (List ℕ)) → take (length xs) xs ≡ xs
take_all [] = refl
take_all (x ∷ xs) = ap (λ (l : List (List ℕ)). x ∷ l) (take_all xs)

end_low : (xs new : List (List ℕ)) (x : List ℕ) (k : ℕ) → new ≡ xs ++ x ∷ [] → k ≡ length xs
    → k < length new
end_low xs new x k made is =
    let long = ap (λ (l : List (List ℕ)). length l) made ∙ length-append xs (x ∷ []) in
    omega arith

pub returns-in-Some-clause-kept : goal.returns-in-Some-clause-kept
returns-in-Some-clause-kept c =
    subst (λ (xs : List (List ℕ)). take (length xs) c.self.inside.list ≡ xs) c.self.view_is
    (take_all c.self.inside.list)

pub returns-in-Some-clause-is : goal.returns-in-Some-clause-is
returns-in-Some-clause-is c =
    (c.self.invariant c.deref.result.now c.in-Some.number (sym c.find.ensures ∙ c.in-Some.is)).1
    ∙ c.deref.ensures.value ∙ c.in_ok-row_key.ensures

pub returns-clause-kept : goal.returns-clause-kept
returns-clause-kept c =
    subst (λ (xs : List (List ℕ)). take (length xs) c.push.new.self ≡ xs) c.self.view_is
    (ap (λ (xs : List (List ℕ)). take (length c.self.inside.list) xs) c.in_ok-push.ensures.ok
    ∙ take_own c.self.inside.list (c.in_ok-row_codes.field-0 ∷ []))

pub returns-clause-low : goal.returns-clause-low
returns-clause-low c =
    end_low c.self.inside.list c.push.new.self c.in_ok-row_codes.field-0 c.len-number.result
    c.in_ok-push.ensures.ok c.len-number.ensures

pub returns-clause-is : goal.returns-clause-is
returns-clause-is c =
    let list = c.self.inside.list in
    let codes = c.in_ok-row_codes.field-0 in
    ap (λ (xs : List (List ℕ)). get_or xs c.len-number.result []) c.in_ok-push.ensures.ok
    ∙ ap (λ (k : ℕ). get_or (list ++ codes ∷ []) k []) c.len-number.ensures
    ∙ list_at_end list codes ∙ c.in_ok-row_codes.ensures

pub returns-in-Some-clause-low : goal.returns-in-Some-clause-low
returns-in-Some-clause-low c =
    (c.self.invariant c.deref.result.now c.in-Some.number (sym c.find.ensures ∙ c.in-Some.is)).0

pub invariant_of-self-in_err-push : goal.invariant_of-self-in_err-push
invariant_of-self-in_err-push c =
    subst (λ (xs : List (List ℕ)). AreKnown xs c.self.inside.known)
    (sym c.in_err-push.ensures.err) c.self.invariant

pub invariant_of-self-in_err-enter : goal.invariant_of-self-in_err-enter
invariant_of-self-in_err-enter c =
    λ q k is.
    subst (λ (xs : List (List ℕ)). (k < length xs) × (get_or xs k [] ≡ q))
    (sym c.in_ok-push.ensures.ok)
    (known_before c.self.inside.list _ c.self.inside.known c.self.invariant q k
    (sym (c.in_err-enter.ensures.err q) ∙ is))

pub invariant_of-self-2 : goal.invariant_of-self-2
invariant_of-self-2 c =
    let same : c.in_ok-key.key.items ≡ c.in_ok-row_codes.field-0 =
    let a = c.in_ok-key.ensures.items in let b = c.deref-2.ensures.value in
    let d = c.in_ok-row_key.ensures in let e = c.in_ok-row_codes.ensures in cc in
    subst (λ (xs : List (List ℕ)). AreKnown xs c.enter.new.index) (sym c.in_ok-push.ensures.ok)
    (known_last c.self.inside.list _ c.in_ok-key.key.items c.self.inside.known
    c.enter.new.index c.len-number.result c.self.invariant same c.len-number.ensures
    c.in_ok-enter.ensures.ok)
