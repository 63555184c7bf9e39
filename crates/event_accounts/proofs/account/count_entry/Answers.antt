use Rattle.std.proofs.Common.{◌≡◌, ◌<◌, ◌≤◌, ◌+◌, ⊎_elim, ℕ, zero, suc, List, [], ◌∷◌, length, slice_get, slice_index, slice_set, Some, refl, ap, sym, subst, ◌∙◌, arith}
use Rattle.std.proofs.lemmas.Bool.{cases_eq}
use Rattle.std.proofs.lemmas.List.{length-set}
use Rattle.std.proofs.lemmas.Option.{get_or_from_slice_get, same_Some, slice_get_within}
use Rattle.event_accounts.specs.declared.account.Account.{Account}
use Rattle.event_accounts.specs.inner.Steps.{account_after}
use Rattle.event_accounts.proofs.account.count_entry.Goals as goal

pub get-requires : goal.get-requires
get-requires c = subst (λ (n : ℕ). c.loop-i.i < n) c.len-i-end.ensures c.loop-i-test.true

pub get-requires-in-loop-i : goal.get-requires-in-loop-i
get-requires-in-loop-i c =
    subst (λ (n : ℕ). c.loop-i.i < n)
    (c.len-i-end.ensures ∙ sym c.requires.many ∙ sym c.loop-i.invariant.0) c.loop-i-test.true

pub next_account-after-requires-clause-room : goal.next_account-after-requires-clause-room
next_account-after-requires-clause-room c = c.requires.room

pub next_account-after-requires-clause-code : goal.next_account-after-requires-clause-code
next_account-after-requires-clause-code c =
    c.requires.codes c.loop-i.i
    (subst (λ (n : ℕ). c.loop-i.i < n) c.len-i-end.ensures c.loop-i-test.true)

pub set-requires : goal.set-requires
set-requires c =
    subst (λ (n : ℕ). c.loop-i.i < n)
    (c.len-i-end.ensures ∙ sym c.requires.many ∙ sym c.loop-i.invariant.0) c.loop-i-test.true

set_here : (xs : List Account) (k : ℕ) (y : Account) → k < length xs
    → slice_get (slice_set xs k y) k ≡ Some y
set_here [] k y low = absurd (omega arith)
set_here (x ∷ xs) zero y low = refl
set_here (x ∷ xs) (suc k) y low = set_here xs k y (omega arith)

set_other : (xs : List Account) (k j : ℕ) (y : Account) → (j ≡ k → ⊥)
    → slice_get (slice_set xs k y) j ≡ slice_get xs j
set_other [] k j y other = refl
set_other (x ∷ xs) zero zero y other = absurd (other refl)
set_other (x ∷ xs) zero (suc j) y other = refl
set_other (x ∷ xs) (suc k) zero y other = refl
set_other (x ∷ xs) (suc k) (suc j) y other =
    set_other xs k j y (λ same. other (omega arith))

-- one account more is counted on
moved : (f : ℕ → Account → Account) (old now new : List Account) (i : ℕ) (was is : Account)
    → length now ≡ length old
    → ((k : ℕ) (a : Account) → k < i → slice_get old k ≡ Some a → slice_get now k ≡ Some (f k a))
    → ((k : ℕ) → i ≤ k → slice_get now k ≡ slice_get old k)
    → i < length now → slice_get now i ≡ Some was → new ≡ slice_set now i is → is ≡ f i was
    → (length new ≡ length old)
    × ((k : ℕ) (a : Account) → k < i + 1 → slice_get old k ≡ Some a
    → slice_get new k ≡ Some (f k a))
    × ((k : ℕ) → i + 1 ≤ k → slice_get new k ≡ slice_get old k)
moved f old now new i was is long done left below here set made = (
  ap (λ (l : List Account). length l) set ∙ length-set now i is ∙ long,
  λ k a low at.
      ap (λ (l : List Account). slice_get l k) set
      ∙ ⊎_elim
      (λ same.
      let first : was ≡ a =
      same_Some was a
      (sym here ∙ left i (omega arith) ∙ ap (slice_get old) (sym same) ∙ at) in
      ap (slice_get (slice_set now i is)) same ∙ set_here now i is below
      ∙ ap (λ (x : Account). Some x)
      (made ∙ ap (f i) first ∙ ap (λ (j : ℕ). f j a) (sym same)))
      (λ apart. set_other now i k is apart ∙ done k a (omega arith) at)
      (cases_eq k i),
  λ k high.
      ap (λ (l : List Account). slice_get l k) set
      ∙ set_other now i k is (λ same. omega arith)
      ∙ left k (omega arith),
)

pub loop-i-preserved : goal.loop-i-preserved
loop-i-preserved c =
    let i = c.loop-i.i in
    let p = c.args.p in
    let inputs = c.args.machine.now.inputs in
    let entry = c.args.entry.now in
    let account = c.get-in-loop-i.result.now in
    let inv = c.loop-i.invariant in
    let f : ℕ → Account → Account = λ k a. account_after p k (slice_index inputs k) entry a in
    let input = get_or_from_slice_get inputs i c.get.result.now 0 c.get.ensures in
    moved f c.args.row.now c.loop-i.row c.set.new.self i account c.next_account-after.result inv.0
    inv.1 inv.2
    (subst (λ (n : ℕ). i < n) (c.len-i-end.ensures ∙ sym c.requires.many ∙ sym inv.0)
    c.loop-i-test.true)
    c.get-in-loop-i.ensures c.set.ensures
    (c.next_account-after.ensures
    ∙ ap (λ (e : ℕ). account_after p i e entry account) (sym input))

pub returns-clause-many : goal.returns-clause-many
returns-clause-many c = c.loop-i.invariant.0

passed : (k i end inputs long : ℕ) → k < long → long ≡ inputs → end ≡ inputs → end ≤ i → k < i
passed k i end inputs long low many same past = omega arith

pub returns-clause-each : goal.returns-clause-each
returns-clause-each c = λ k a at.
    c.loop-i.invariant.1 k a
    (passed k c.loop-i.i c.len-i-end.result _ _ (slice_get_within c.args.row.now k a at)
    c.requires.many c.len-i-end.ensures c.loop-i-test.false)
    at
