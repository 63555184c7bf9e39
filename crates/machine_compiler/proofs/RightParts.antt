-- Machines and what belongs to each of them, one after another.
use Rattle.std.proofs.Common.{◌≡◌, ⊎_elim, ℕ, zero, suc, ◌+◌, ◌-◌, ◌<◌, ◌≤◌, List, [], ◌∷◌, ◌++◌, length, slice_get, Some, refl, ap, sym, subst, ◌∙◌, arith}
use Rattle.std.proofs.lemmas.Bool.{cases_lt}
use Rattle.transition_table.specs.declared.machine.Machine.{Machine}
use Rattle.transition_table.specs.declared.network.Network.{Network}
use Rattle.transition_table.specs.Transitions.{HasWidths}
use Rattle.task_code.specs.declared.instr.Instr.{Instr}
use Rattle.task_code.specs.Codes.{Computes}
use Rattle.task_code.specs.Listings.{Part}
use Rattle.task_machine.specs.Running.{CodeFits}
use Rattle.task_machine.specs.Tasks.{AreTasks}
use Rattle.machine_compiler.specs.declared.compiled.Compiled.{Compiled}
use Rattle.machine_compiler.specs.declared.tallies.Tally.{Tally}
use Rattle.machine_compiler.specs.Parts.{part_of_compiled, parts_of, codes_in, IsRightPart, AreRightParts}
use Rattle.machine_compiler.specs.inner.Tallies.{AreTallies}
use Rattle.machine_compiler.proofs.DistinctItems.{mapped}
use Rattle.task_code.proofs.Labels.{behind}
use Rattle.polis_base.proofs.Places.{get_left}

-- what holds of each machine and the item at its place
abbrev pub Paired : {X : Type 0} → (Machine → X → Type 0) → List Machine → List X → Type 0
Paired {X} P ms xs = (k : ℕ) (m : Machine) (x : X) → slice_get ms k ≡ Some m
    → slice_get xs k ≡ Some x → P m x

pub none_paired : {X : Type 0} (P : Machine → X → Type 0) (ms : List Machine) (xs : List X)
    → xs ≡ [] → Paired P ms xs
none_paired P ms [] e k m x at_m at_x = cc
none_paired P ms (y ∷ ys) e k m x at_m at_x = cc

-- one more
pub more_paired : {X : Type 0} (P : Machine → X → Type 0) (ms : List Machine) (xs new : List X)
    (k : ℕ) (m : Machine) (x : X)
    → Paired P ms xs
    → length xs ≡ k
    → new ≡ xs ++ x ∷ []
    → slice_get ms k ≡ Some m
    → P m x
    → Paired P ms new
more_paired {X = X} P ms xs new k m x so_far long e at_m holds j n y at_n at_y =
    let there : slice_get (xs ++ x ∷ []) j ≡ Some y =
    ap (λ (zs : List X). slice_get zs j) (sym e) ∙ at_y in
    ⊎_elim (before there) (last there) (cases_lt j (length xs))
  where
    before : slice_get (xs ++ x ∷ []) j ≡ Some y → j < length xs → P n y
    before there low = so_far j n y at_n (sym (get_left xs (x ∷ []) j low) ∙ there)

    only : (i : ℕ) → slice_get (x ∷ []) i ≡ Some y → (i ≡ 0) × (x ≡ y)
    only zero f = let g : x ≡ y = cc in (refl, g)
    only (suc i) f = cc

    last : slice_get (xs ++ x ∷ []) j ≡ Some y → length xs ≤ j → P n y
    last there high =
        let one = only (j - length xs) (sym (behind xs (x ∷ []) j (j - length xs) (omega arith))
        ∙ there) in
        let at : j ≡ k = let z : j - length xs ≡ 0 = one.0 in omega arith in
        let whose : m ≡ n = let g : Some m ≡ Some n =
        sym at_m ∙ ap (slice_get ms) (sym at) ∙ at_n in cc in
        subst (λ (z : Machine). P z y) whose (subst (P m) one.1 holds)

pub length_push : {X : Type 0} (xs new : List X) (x : X) (k : ℕ) → length xs ≡ k
    → new ≡ xs ++ x ∷ [] → length new ≡ k + 1
length_push {X = X} xs new x k long e = ap length e ∙ one_longer xs ∙ ap (λ (n : ℕ). n + 1) long
  where
    one_longer : (ys : List X) → length (ys ++ x ∷ []) ≡ length ys + 1
    one_longer [] = refl
    one_longer (y ∷ ys) = let r = one_longer ys in omega arith

-- ---- parts
abbrev pub RightSoFar : List Machine → List Compiled → Type 0
RightSoFar ms cs = Paired (λ m c. IsRightPart m (part_of_compiled c)) ms cs

long_parts : (cs : List Compiled) → length (parts_of cs) ≡ length cs
long_parts [] = refl
long_parts (c ∷ cs) = ap suc (long_parts cs)

pub all_right : (net : Network) (cs : List Compiled) → RightSoFar net.machines cs
    → length cs ≡ length net.machines → AreRightParts net (parts_of cs)
all_right net cs so_far long =
    record {
      long = long_parts cs ∙ long;
      each = λ k m q at_m at_q. let r = mapped part_of_compiled cs k q at_q in
          subst (IsRightPart m) r.2 (so_far k m r.0 at_m r.1);
    }

-- the codes of right parts are what a reactor takes
pub right_tasks : (net : Network) (qs : List Part) → AreRightParts net qs → AreTasks net (codes_in qs)
right_tasks net qs right =
    record {
      long = long_codes qs ∙ right.long;
      fits = λ k m c at_m at_c. let r = mapped (λ (q : Part). q.code) qs k c at_c in
          subst (λ (x : List Instr). CodeFits m x) r.2 (right.each k m r.0 at_m r.1).code_fits;
      computes = λ k m c at_m at_c. let r = mapped (λ (q : Part). q.code) qs k c at_c in
          subst (λ (x : List Instr). Computes x m) r.2 (right.each k m r.0 at_m r.1).computes;
    }
  where
    long_codes : (qs : List Part) → length (codes_in qs) ≡ length qs
    long_codes [] = refl
    long_codes (q ∷ qs) = ap suc (long_codes qs)

-- ---- tallies
-- no reactions yet
pub record IsNoTally (m : Machine) (t : Tally) : Type 0 where
  pub widths : HasWidths m t.outcome
  pub tries : t.tries ≡ 0
  pub steps : t.steps ≡ 0

pub no_reactions : (net : Network) (all : List (List Instr)) (ts : List Tally)
    → Paired IsNoTally net.machines ts → length ts ≡ length net.machines
    → AreTallies net all [] ts
no_reactions net all ts none long =
    record {
      long = long;
      each = λ k m c t at_m at_c at_t. let is = none k m t at_m at_t in
          let no = is.steps in
          record { widths = is.widths; tries = is.tries; steps = is.steps; few = omega (arith, no) };
    }
