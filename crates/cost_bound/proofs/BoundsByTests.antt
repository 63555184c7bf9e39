-- Bounds and certificates by tests that compute.
use Rattle.std.proofs.Common.{◌≡◌, ℕ, zero, suc, ◌+◌, ◌≤◌, Bool, true, false, not, ◌&&◌, ◌||◌, ◌==◌, nat_le, List, [], ◌∷◌, length, slice_get, slice_index, Some, refl, subst, arith}
use Rattle.std.specs.List.{list_all}
use Rattle.std.proofs.lemmas.Bool.{and_parts, eq-eqb, leb-true, false≢true}
use Rattle.domains.specs.AllCodes.{all_codes, ListsAll}
use Rattle.domains.specs.Tables.{fits, rank}
use Rattle.transition_table.specs.declared.machine.Machine.{Machine}
use Rattle.transition_table.specs.samples.Join.{join_machine}
use Rattle.transition_table.specs.samples.Lamp.{lamp_machine}
use Rattle.task_code.specs.declared.instr.Instr.{Instr}
use Rattle.task_code.specs.declared.instr.Instr.TheVariants.{Test}
use Rattle.task_code.specs.Codes.{StepsOf}
use Rattle.task_code.specs.SampleCodes.{small_code}
use Rattle.cost_bound.specs.declared.bound.Bound.{Bound}
use Rattle.cost_bound.specs.declared.costs.Costs.{Costs}
use Rattle.cost_bound.specs.Bounds.{IsFirst, IsWorst, IsBest}
use Rattle.cost_bound.specs.Certificates.{needed, Covers}
use Rattle.cost_bound.specs.Costs.{CostOf}
use Rattle.cost_bound.specs.SampleCosts.{join_code, one_each, tests_and_sets, bound_at}
use Rattle.cost_bound.specs.Worked.{Lamp, Join, Numbers}

-- a snapshot that takes the bound's steps isn't before the bound's
abbrev is_later : Machine → (List ℕ → ℕ) → Bound → List ℕ → Bool
is_later m f b s =
    not (f s == b.steps) || nat_le (rank m.vars b.snapshot.codes) (rank m.vars s)

later : (p : ℕ) (n : ℕ) (r : Bool) → (not (p == n) || r) ≡ true → p ≡ n → r ≡ true
later p n r h e = go (p == n) (eq-eqb p n e) h
  where
    go : (b : Bool) → b ≡ true → (not b || r) ≡ true → r ≡ true
    go true is t = t
    go false is t = absurd (false≢true is)

first_by_test : ListsAll → (m : Machine) (f : List ℕ → ℕ) (b : Bound)
    → fits m.vars b.snapshot.codes ≡ true → f b.snapshot.codes ≡ b.steps
    → list_all (is_later m f b) (all_codes m.vars) ≡ true → IsFirst m f b
first_by_test all m f b fs taken test = record {
  fit = fs;
  holds = taken;
  least = λ s within e. leb-true (rank m.vars b.snapshot.codes) (rank m.vars s)
      (later (f s) b.steps (nat_le (rank m.vars b.snapshot.codes) (rank m.vars s))
      (all m.vars (is_later m f b) test s within) e);
}

worst_by_test : ListsAll → (m : Machine) (f : List ℕ → ℕ) (b : Bound)
    → fits m.vars b.snapshot.codes ≡ true → f b.snapshot.codes ≡ b.steps
    → list_all (is_later m f b) (all_codes m.vars) ≡ true
    → list_all (λ s. nat_le (f s) b.steps) (all_codes m.vars) ≡ true → IsWorst m f b
worst_by_test all m f b fs taken test most = record {
  first = first_by_test all m f b fs taken test;
  most = λ s within. leb-true (f s) b.steps
      (all m.vars (λ s. nat_le (f s) b.steps) most s within);
}

best_by_test : ListsAll → (m : Machine) (f : List ℕ → ℕ) (b : Bound)
    → fits m.vars b.snapshot.codes ≡ true → f b.snapshot.codes ≡ b.steps
    → list_all (is_later m f b) (all_codes m.vars) ≡ true
    → list_all (λ s. nat_le b.steps (f s)) (all_codes m.vars) ≡ true → IsBest m f b
best_by_test all m f b fs taken test least = record {
  first = first_by_test all m f b fs taken test;
  least = λ s within. leb-true b.steps (f s)
      (all m.vars (λ s. nat_le b.steps (f s)) least s within);
}

pub lamp_bounds : ListsAll → Lamp
lamp_bounds all = record {
  steps = worst_by_test all lamp_machine (StepsOf small_code) (bound_at 6 (1 ∷ 0 ∷ [])) refl refl
      refl refl;
  most = worst_by_test all lamp_machine (CostOf one_each small_code) (bound_at 6 (1 ∷ 0 ∷ [])) refl
      refl refl refl;
  least = best_by_test all lamp_machine (CostOf one_each small_code) (bound_at 2 (0 ∷ 0 ∷ [])) refl
      refl refl refl;
  dear = worst_by_test all lamp_machine (CostOf tests_and_sets small_code)
      (bound_at 14 (1 ∷ 0 ∷ [])) refl refl refl refl;
  cheap = best_by_test all lamp_machine (CostOf tests_and_sets small_code)
      (bound_at 3 (0 ∷ 0 ∷ [])) refl refl refl refl;
  later = λ best. let h : 1 ≤ 0 = best.first.least (0 ∷ 0 ∷ []) refl refl in
      absurd (omega arith);
  all_added = λ worst. let h : ◌≡◌ {A = ℕ} 6 7 = worst.first.holds in absurd (omega arith);
}

pub join_bounds : ListsAll → Join
join_bounds all = record {
  most = worst_by_test all join_machine (CostOf one_each join_code) (bound_at 5 (1 ∷ 1 ∷ [])) refl
      refl refl refl;
  least = best_by_test all join_machine (CostOf one_each join_code) (bound_at 2 (0 ∷ 0 ∷ [])) refl
      refl refl refl;
}

-- each instruction has a number that isn't below what it needs
abbrev covers : Costs → List ℕ → ℕ → List Instr → Bool
covers costs l i [] = true
covers costs l i (x ∷ xs) =
    nat_le (needed costs l i x) (slice_index l i) && covers costs l (suc i) xs

covers_each : (costs : Costs) (l : List ℕ) (base : ℕ) (xs : List Instr) (d i : ℕ) (x : Instr)
    → covers costs l base xs ≡ true → slice_get xs d ≡ Some x → i ≡ base + d
    → needed costs l i x ≤ slice_index l i
covers_each costs l base [] d i x h is e = cc
covers_each costs l base (y ∷ xs) zero i x h is e =
    let parts = and_parts (nat_le (needed costs l base y) (slice_index l base))
    (covers costs l (suc base) xs) h in
    let here = leb-true (needed costs l base y) (slice_index l base) parts.0 in
    let at : base ≡ i = omega arith in
    let same : y ≡ x = cc in
    subst (λ (z : Instr). needed costs l i z ≤ slice_index l i) same
    (subst (λ (k : ℕ). needed costs l k y ≤ slice_index l k) at here)
covers_each costs l base (y ∷ xs) (suc d) i x h is e =
    let parts = and_parts (nat_le (needed costs l base y) (slice_index l base))
    (covers costs l (suc base) xs) h in
    covers_each costs l (suc base) xs d i x parts.1 is (omega arith)

covers_by_test : (costs : Costs) (c : List Instr) (l : List ℕ) → length l ≡ length c
    → covers costs l 0 c ≡ true → Covers costs c l
covers_by_test costs c l long test = record {
  long = long;
  each = λ i x is. covers_each costs l 0 c i i x test is (omega arith);
}

pub numbers : Numbers
numbers = record {
  exact = covers_by_test one_each small_code (6 ∷ 5 ∷ 4 ∷ 3 ∷ 2 ∷ 1 ∷ []) refl refl;
  generous = covers_by_test one_each small_code (9 ∷ 5 ∷ 4 ∷ 3 ∷ 2 ∷ 1 ∷ []) refl refl;
  short = λ covers. let h : 5 ≤ 4 = covers.each 1 (Test 1 (2 ∷ 5 ∷ [])) refl in
      absurd (omega arith);
}
