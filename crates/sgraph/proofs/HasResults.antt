-- What holds of each machine's results.
use Rattle.std.proofs.Common.{◌≡◌, ℕ, zero, suc, ◌+◌, ◌<◌, ◌≤◌, Bool, true, ◌&&◌, ◌==◌, List, [], ◌∷◌, map, length, take, drop, slice_index, refl, sym, subst, arith, ltb}
use Rattle.std.specs.Prelude.{nat_le}
use Rattle.std.specs.Cmp.Lexicographic.{pointwise, same_text}
use Rattle.std.specs.List.{list_all}
use Rattle.std.proofs.lemmas.Bool.{and_parts, and_from, leb-true, le-leb}
use Rattle.std.proofs.lemmas.List.{take-append-drop}
use Rattle.polis_base.proofs.Lists.{all_append}
use Rattle.domains.specs.Tables.{are_sizes}
use Rattle.transition_table.specs.declared.machine.Machine.{Machine}
use Rattle.sgraph.proofs.Below.{Below, HasResults}

ones : (sizes : List ℕ) → are_sizes sizes ≡ true → list_all (nat_le 1) sizes ≡ true
ones [] h = refl
ones (size ∷ sizes) h =
    let parts = and_parts (nat_le 1 size && nat_le size 33) (are_sizes sizes) h in
    and_from (nat_le 1 size) (list_all (nat_le 1) sizes)
    (and_parts (nat_le 1 size) (nat_le size 33) parts.0).0 (ones sizes parts.1)

all_drop : (p : ℕ → Bool) (xs : List ℕ) (n : ℕ) → list_all p xs ≡ true
    → list_all p (drop n xs) ≡ true
all_drop p xs zero h = h
all_drop p [] (suc n) h = refl
all_drop p (x ∷ xs) (suc n) h = all_drop p xs n (and_parts (p x) (list_all p xs) h).1

twos : (sizes : List ℕ) → list_all (nat_le 1) sizes ≡ true
    → list_all (nat_le 2) (map (λ size. 1 + size) sizes) ≡ true
twos [] h = refl
twos (size ∷ sizes) h =
    let parts = and_parts (nat_le 1 size) (list_all (nat_le 1) sizes) h in
    and_from (nat_le 2 (1 + size)) (list_all (nat_le 2) (map (λ size. 1 + size) sizes))
    (le-leb 2 (1 + size) (omega (arith, leb-true 1 size parts.0))) (twos sizes parts.1)

at_all : (xs : List ℕ) (k : ℕ) → list_all (nat_le 2) xs ≡ true → k < length xs
    → 2 ≤ slice_index xs k
at_all [] k h low = absurd (omega arith)
at_all (x ∷ xs) zero h low = leb-true 2 x (and_parts (nat_le 2 x) (list_all (nat_le 2) xs) h).0
at_all (x ∷ xs) (suc k) h low =
    at_all xs k (and_parts (nat_le 2 x) (list_all (nat_le 2) xs) h).1 (omega arith)

module _ (m : Machine) where
  n : ℕ
  n = 1 + length m.states

  firsts : List ℕ
  firsts = map (λ size. 1 + size) (drop (length m.inputs) m.vars)

  begins_so : 2 ∷ firsts ≡ take n m.results
  unfolding n firsts
  begins_so =
      let lengths = length m.results == 1 + length m.states + length m.outputs in
      let same = pointwise ◌==◌ (2 ∷ firsts) (take n m.results) in
      let after = list_all (nat_le 2) (drop n m.results) in
      let parts = and_parts (lengths && same) after m.sized_results in
      same_text (2 ∷ firsts) (take n m.results) (sym (and_parts lengths same parts.0).1)

  vars_sized : are_sizes m.vars ≡ true
  vars_sized =
      let lengths = length m.vars == length m.inputs + length m.states in
      let inputs = list_all (nat_le 2) (take (length m.inputs) m.vars) in
      let states = pointwise (λ state size. ltb state.init size) m.states
      (drop (length m.inputs) m.vars) in
      (and_parts (are_sizes m.vars) lengths
      (and_parts (are_sizes m.vars && lengths) inputs
      (and_parts ((are_sizes m.vars && lengths) && inputs) states m.sized_vars).0).0).0

  all_two : list_all (nat_le 2) m.results ≡ true
  unfolding n firsts
  all_two =
      let lengths = length m.results == 1 + length m.states + length m.outputs in
      let same = pointwise ◌==◌ (2 ∷ firsts) (take n m.results) in
      let after = list_all (nat_le 2) (drop n m.results) in
      let parts = and_parts (lengths && same) after m.sized_results in
      let first : list_all (nat_le 2) (take n m.results) ≡ true =
      subst (λ (xs : List ℕ). list_all (nat_le 2) xs ≡ true) begins_so
      (twos (drop (length m.inputs) m.vars)
      (all_drop (nat_le 1) m.vars (length m.inputs) (ones m.vars vars_sized))) in
      subst (λ (xs : List ℕ). list_all (nat_le 2) xs ≡ true) (take-append-drop n m.results)
      (all_append (nat_le 2) (take n m.results) (drop n m.results) first parts.1)

  pub has_results : Below → HasResults m
  has_results below =
      record {
        two = λ y low. at_all m.results y all_two low;
        fit = λ s h. below.fit m s h;
        below = below;
      }
