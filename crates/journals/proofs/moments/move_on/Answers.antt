use Rattle.std.proofs.Common.{◌≡◌, ◌<◌, ◌≤◌, ◌+◌, ℕ, List, ⊎_elim, map, length, slice_index, slice_set, arith, ap, sym, subst, ◌∙◌}
use Rattle.std.proofs.lemmas.Bool.{cases_eq}
use Rattle.std.proofs.lemmas.List.{same_lists, get_or_default, get_or-set_other, get_or-set_same, length-set}
use Rattle.std.proofs.lemmas.Option.{get_or_from_slice_get}
use Rattle.polis_base.specs.Lists.{upto}
use Rattle.journals.specs.Moved.{code_after}
use Rattle.journals.proofs.MomentsAfter.{length_table, get_or_table}
use Rattle.journals.proofs.moments.move_on.Goals as goal
use Rattle.polis_base.proofs.Numbers.{not_above_itself}

pub returns : goal.returns
returns c =
    let old = c.args.s.now.codes in
    let new = c.loop-k.s.codes in
    let at : ℕ → ℕ = λ k. code_after c.args.machine.now c.args.entry.now k (slice_index old k) in
    let size = length_table at (length old) in
    let inv = c.loop-k.invariant in
    let end : length old ≡ c.loop-k.k = omega arith in
    same_lists new (map at (upto (length old))) (inv.0 ∙ sym size) (λ k d below.
    let inside : k < c.loop-k.k = omega arith in
    get_or_default new k d 0 below ∙ inv.1 k inside
    ∙ sym (get_or_table at (length old) k d (omega arith)))

pub get-requires : goal.get-requires
get-requires c =
    subst (λ (n : ℕ). c.loop-k.k < n) (c.len-k-end.ensures ∙ sym c.loop-k.invariant.0)
    c.loop-k-test.true

pub next_code-code-requires-clause-variable : goal.next_code-code-requires-clause-variable
next_code-code-requires-clause-variable c =
    subst (λ (n : ℕ). c.loop-k.k < n) (c.len-k-end.ensures ∙ c.requires.width) c.loop-k-test.true

pub next_code-code-requires-clause-entry : goal.next_code-code-requires-clause-entry
next_code-code-requires-clause-entry c = c.requires.entry

pub set-requires : goal.set-requires
set-requires c =
    subst (λ (n : ℕ). c.loop-k.k < n) (c.len-k-end.ensures ∙ sym c.loop-k.invariant.0)
    c.loop-k-test.true

-- one code more is moved on
moved : (old now new : List ℕ) (k code : ℕ) (at : ℕ → ℕ) → length now ≡ length old
    → ((i : ℕ) → i < k → slice_index now i ≡ at i)
    → ((i : ℕ) → k ≤ i → slice_index now i ≡ slice_index old i)
    → k < length now → new ≡ slice_set now k code → code ≡ at k
    → (length new ≡ length old)
    × ((i : ℕ) → i < k + 1 → slice_index new i ≡ at i)
    × ((i : ℕ) → k + 1 ≤ i → slice_index new i ≡ slice_index old i)
moved old now new k code at long done left below is made = (
  ap (λ (l : List ℕ). length l) is ∙ length-set now k code ∙ long,
  λ i low.
      ap (λ (l : List ℕ). slice_index l i) is
      ∙ ⊎_elim
      (λ same.
      ap (slice_index (slice_set now k code)) same ∙ get_or-set_same now k code 0 below ∙ made
      ∙ ap at (sym same))
      (λ apart. get_or-set_other now k i code 0 apart ∙ done i (omega arith))
      (cases_eq i k),
  λ i high.
      ap (λ (l : List ℕ). slice_index l i) is
      ∙ get_or-set_other now k i code 0 (λ same. omega arith)
      ∙ left i (omega arith),
)

pub loop-k-preserved : goal.loop-k-preserved
loop-k-preserved c =
    let old = c.args.s.now.codes in
    let now = c.loop-k.s.codes in
    let k = c.loop-k.k in
    let inv = c.loop-k.invariant in
    let at : ℕ → ℕ = λ i. code_after c.args.machine.now c.args.entry.now i (slice_index old i) in
    let was = sym (get_or_from_slice_get now k c.get.result.now 0 c.get.ensures) ∙ inv.2 k (not_above_itself k)
    in
    moved old now c.set.new.self k c.next_code-code.result at inv.0 inv.1 inv.2
    (subst (λ (n : ℕ). k < n) (c.len-k-end.ensures ∙ sym inv.0) c.loop-k-test.true)
    c.set.ensures
    (c.next_code-code.ensures
    ∙ ap (λ (x : ℕ). code_after c.args.machine.now c.args.entry.now k x) was)
