-- What readers allow is what images keep.
use Rattle.std.proofs.Common.{◌≡◌, ℕ, zero, suc, ◌+◌, ◌^◌, ◌<◌, ◌≤◌, Bool, true, false, cond, List, [], ◌∷◌, length, get_or, Some, refl, sym, ap, subst, ◌∙◌, arith}
use Rattle.std.specs.Prelude.{◌&&◌, nat_le, nat_lt, slice_get, slice_index}
use Rattle.std.proofs.lemmas.Option.{slice_get-get_or, slice_get_within}
use Rattle.polis_base.specs.Names.{is_name, is_word}
use Rattle.domains.specs.Tables.{are_sizes}
use Rattle.task_code.specs.declared.instr.Instr.{Instr}
use Rattle.task_code.specs.declared.instr.Instr.TheVariants.{Test, Set, Goto, Halt}
use Rattle.task_code.specs.Facts.{IsCode, FitsAt}
use Rattle.task_image.specs.declared.image.ImageMachine.{ImageMachine}
use Rattle.task_image.specs.Images.{IsCodeOf, IsImageMachine, IsImage}
use Rattle.task_image.specs.inner.FieldReaders.{within}
use Rattle.task_image.specs.inner.Reading.{greatest_tag}
use Rattle.task_image.proofs.IsReader.{AllFrom}
use Rattle.task_image.proofs.InstrAt.{tag_of, TargetOk, OperandsOk, InstrOk}
use Rattle.task_image.proofs.MachinesAt.{low_of, high_of, in_range, CodeOk, MachineOk, MachinesOk}
use Rattle.task_image.proofs.Prefixes.{none_some}
use Rattle.std.proofs.lemmas.Bool.{and_from, le-leb, le-ltb, leb-true, lt-ltb, ltb-true}
use Rattle.domains.proofs.FittingCodes.{size_some}
use Rattle.polis_base.proofs.Bools.{and_first, and_second}
use Rattle.polis_base.proofs.Places.{some_is}

-- ---- tests
lt_false : (a b : ℕ) → nat_lt a b ≡ false → b ≤ a
lt_false a b e = grind arith

-- ---- each item by its place
all_get : {X : Type 0} (p : ℕ → X → Type 0) (k : ℕ) (xs : List X) (j : ℕ) (x : X)
    → AllFrom p k xs → slice_get xs j ≡ Some x → p (k + j) x
all_get p k [] j x all e = absurd (none_some x e)
all_get {X} p k (y ∷ ys) zero x all e =
    let same : k ≡ k + 0 = omega arith in
    subst (λ (n : ℕ). p n x) same (subst (λ (z : X). p k z) (some_is y x e) all.0)
all_get p k (y ∷ ys) (suc j) x all e =
    let same : suc k + j ≡ k + suc j = omega arith in
    subst (λ (n : ℕ). p n x) same (all_get p (suc k) ys j x all.1 e)

all_first : {X : Type 0} (p : ℕ → X → Type 0) (xs : List X) (j : ℕ) (x : X)
    → AllFrom p 0 xs → slice_get xs j ≡ Some x → p j x
all_first p xs j x all e =
    let same : 0 + j ≡ j = omega arith in
    subst (λ (n : ℕ). p n x) same (all_get p 0 xs j x all e)

all_from : {X : Type 0} (p : ℕ → X → Type 0) (k : ℕ) (xs : List X)
    → ((j : ℕ) (x : X) → slice_get xs j ≡ Some x → p (k + j) x) → AllFrom p k xs
all_from p k [] each = tt
all_from p k (y ∷ ys) each =
    let same : k + 0 ≡ k = omega arith in (
      subst (λ (n : ℕ). p n y) same (each 0 y refl),
      all_from p (suc k) ys (λ j x e.
          let later : k + suc j ≡ suc k + j = omega arith in
          subst (λ (n : ℕ). p n x) later (each (suc j) x e)),
    )

all_at : {X : Type 0} (p : ℕ → X → Type 0) (xs : List X)
    → ((j : ℕ) (x : X) → slice_get xs j ≡ Some x → p j x) → AllFrom p 0 xs
all_at p xs each = all_from p 0 xs (λ j x e.
    let same : j ≡ 0 + j = omega arith in
    subst (λ (n : ℕ). p n x) same (each j x e))

-- ---- code

target_fits : (count k target : ℕ) → TargetOk count k target → (k < target) × (target < count)
target_fits count k target ok =
    let low = leb-true (k + 1) target (and_first (nat_le (k + 1) target) (nat_lt target count) ok.0)
    in
    let high = ltb-true target count
    (and_second (nat_le (k + 1) target) (nat_lt target count) ok.0) in
    (omega arith, high)

halt_is : (i : Instr) → tag_of i ≤ 0 → i ≡ Halt
halt_is Halt le = refl
halt_is (Test var targets) le = absurd (omega (arith, le))
halt_is (Set result code) le = absurd (omega (arith, le))
halt_is (Goto target) le = absurd (omega (arith, le))

tag_le : (i : Instr) → tag_of i ≤ 3
tag_le Halt = omega arith
tag_le (Test var targets) = omega arith
tag_le (Set result code) = omega arith
tag_le (Goto target) = omega arith

module _ (vars results : List ℕ) (c : List Instr) where
  operands_fit : (k : ℕ) (i : Instr) → are_sizes vars ≡ true
      → OperandsOk vars results (length c) k i → FitsAt (length c) k i
  operands_fit k Halt sizes ok = tt
  operands_fit k (Set result code) sizes ok = tt
  operands_fit k (Goto target) sizes ok = target_fits (length c) k target ok
  operands_fit k (Test var targets) sizes ok =
      let some = size_some vars var sizes (ltb-true var (length vars) ok.0) in
      let long = ok.1.0 in (
        omega arith,
        λ j lt.
            target_fits (length c) k (slice_index targets j)
            (all_first (λ n. TargetOk (length c) k) targets j (slice_index targets j) ok.1.1
            (slice_get-get_or targets j 0 lt)),
      )

  last_is : (k : ℕ) (i : Instr) → k + 1 ≡ length c → InstrOk vars results (length c) k i → i ≡ Halt
  last_is k i e ok =
      let none = le-ltb (suc k) (length c) (omega arith) in
      let tag = subst (λ (b : Bool). within 0 (cond b 3 0) (tag_of i) ≡ true) none ok.0 in
      halt_is i (leb-true (tag_of i) 0 (and_second (nat_le 0 (tag_of i)) (nat_le (tag_of i) 0) tag))

  pub code_to : are_sizes vars ≡ true → CodeOk vars results c → IsCodeOf vars results c
  code_to sizes ok =
      let each = all_first (InstrOk vars results (length c)) c in
      record {
        code = record {
          some = leb-true 1 (length c)
              (and_first (nat_le 1 (length c)) (nat_lt (length c) (2 ^ 32)) ok.0.0);
          few = omega (arith, ok.0.1);
          last = λ k e.
              let there = slice_get-get_or c k Halt (omega (arith, e)) in
              there ∙ ap Some (last_is k (get_or c k Halt) e (each k (get_or c k Halt) ok.1 there));
          each = λ k i e. operands_fit k i sizes (each k i ok.1 e).1;
        };
        tests = λ k var targets e.
            let i = each k (Test var targets) ok.1 e in
            (ltb-true var (length vars) i.1.0, i.1.1.0);
        sets = λ k result code e.
            let i = each k (Set result code) ok.1 e in (
              ltb-true result (length results) i.1.0,
              ltb-true code (slice_index results result) i.1.1,
            );
      }

  target_ok : (k target : ℕ) → length c < 2 ^ 32 → (k < target) × (target < length c)
      → TargetOk (length c) k target
  target_ok k target few fits =
      let low = fits.0 in
      let high = fits.1 in (
        and_from (nat_le (k + 1) target) (nat_lt target (length c))
            (le-leb (k + 1) target (omega arith)) (lt-ltb target (length c) high),
        omega arith,
      )

  operands_ok : (k : ℕ) (i : Instr) → length c < 2 ^ 32 → IsCodeOf vars results c
      → slice_get c k ≡ Some i → OperandsOk vars results (length c) k i
  operands_ok k Halt few is e = tt
  operands_ok k (Test var targets) few is e =
      let test = is.tests k var targets e in
      let fits = is.code.each k (Test var targets) e in (
        lt-ltb var (length vars) test.0,
        (
          test.1,
          all_at (λ n. TargetOk (length c) k) targets (λ j t at.
              let within : j < length targets = slice_get_within targets j t at in
              target_ok k t few (subst (λ (n : ℕ). (k < n) × (n < length c))
              (some_is (slice_index targets j) t (sym (slice_get-get_or targets j 0 within) ∙ at))
              (fits.1 j within))),
        ),
      )
  operands_ok k (Set result code) few is e =
      let set = is.sets k result code e in
      (lt-ltb result (length results) set.0, lt-ltb code (slice_index results result) set.1)
  operands_ok k (Goto target) few is e = target_ok k target few (is.code.each k (Goto target) e)

  greatest_ok : (k : ℕ) (i : Instr) → IsCode c → slice_get c k ≡ Some i
      → (b : Bool) → nat_lt (suc k) (length c) ≡ b → nat_le (tag_of i) (cond b 3 0) ≡ true
  greatest_ok k i is e true t = le-leb (tag_of i) 3 (tag_le i)
  greatest_ok k i is e false t =
      let past = lt_false (suc k) (length c) t in
      let within : k < length c = slice_get_within c k i e in
      let halt = some_is i Halt (sym e ∙ is.last k (omega arith)) in
      subst (λ (j : Instr). nat_le (tag_of j) 0 ≡ true) (sym halt) (le-leb 0 0 (omega arith))

  pub code_from : length c < 2 ^ 32 → IsCodeOf vars results c → CodeOk vars results c
  code_from few is =
      let some = is.code.some in (
        (
          and_from (nat_le 1 (length c)) (nat_lt (length c) (2 ^ 32)) (le-leb 1 (length c) some)
              (lt-ltb (length c) (2 ^ 32) few),
          few,
        ),
        all_at (InstrOk vars results (length c)) c (λ k i e. (
          and_from (nat_le 0 (tag_of i)) (nat_le (tag_of i) (greatest_tag (length c) k))
              (le-leb 0 (tag_of i) (omega arith))
              (greatest_ok k i is.code e (nat_lt (suc k) (length c)) refl),
          operands_ok k i few is e,
        )),
      )

-- ---- sizes
pub sizes_to : (k : ℕ) (sizes : List ℕ) → AllFrom (λ k size. within 1 33 size ≡ true) k sizes
    → are_sizes sizes ≡ true
sizes_to k [] all = refl
sizes_to k (s ∷ sizes) all =
    and_from (nat_le 1 s && nat_le s 33) (are_sizes sizes) all.0 (sizes_to (suc k) sizes all.1)

sizes_from : (k : ℕ) (sizes : List ℕ) → are_sizes sizes ≡ true
    → AllFrom (λ k size. within 1 33 size ≡ true) k sizes
sizes_from k [] e = tt
sizes_from k (s ∷ sizes) e = (
  and_first (nat_le 1 s && nat_le s 33) (are_sizes sizes) e,
  sizes_from (suc k) sizes (and_second (nat_le 1 s && nat_le s 33) (are_sizes sizes) e),
)

-- ---- machines
name_some : (xs : List ℕ) → is_word xs ≡ true → 1 ≤ length xs
name_some [] e = absurd (false_true e)
  where
    false_true : false ≡ true → ⊥
    false_true e = cc
name_some (x ∷ xs) e = omega arith

name_length : (xs : List ℕ) → is_name xs ≡ true → within 1 24 (length xs) ≡ true
name_length xs e =
    let front = and_first (nat_le (length xs) 24 && is_word xs) _ e in
    in_range 1 24 (length xs)
    (name_some xs (and_second (nat_le (length xs) 24) (is_word xs) front))
    (leb-true (length xs) 24 (and_first (nat_le (length xs) 24) (is_word xs) front))

pub machine_to : (m : ImageMachine) → MachineOk m → IsImageMachine m
machine_to m ok =
    let vars = ok.1.1.0 in
    let results = ok.1.1.1.0 in
    record {
      name = ok.1.0;
      some_vars = low_of 1 24 (length m.vars) vars.0;
      few_vars = high_of 1 24 (length m.vars) vars.0;
      vars = sizes_to 0 m.vars vars.1;
      some_results = low_of 1 25 (length m.results) results.0;
      few_results = high_of 1 25 (length m.results) results.0;
      results = sizes_to 0 m.results results.1;
      code = code_to m.vars m.results m.code (sizes_to 0 m.vars vars.1) ok.1.1.1.1;
    }

pub machine_few : (m : ImageMachine) → MachineOk m → length m.code < 2 ^ 32
machine_few m ok = ok.1.1.1.1.0.1

pub machine_from : (m : ImageMachine) → IsImageMachine m → length m.code < 2 ^ 32 → MachineOk m
machine_from m is few = (
  name_length m.name is.name,
  (
    is.name,
    (
      (in_range 1 24 (length m.vars) is.some_vars is.few_vars, sizes_from 0 m.vars is.vars),
      (
        (
          in_range 1 25 (length m.results) is.some_results is.few_results,
          sizes_from 0 m.results is.results,
        ),
        code_from m.vars m.results m.code few is.code,
      ),
    ),
  ),
)

-- ---- images
pub image_to : (i : List ImageMachine) → MachinesOk i → IsImage i
image_to i ok = record {
  some = low_of 1 64 (length i) ok.0;
  few = high_of 1 64 (length i) ok.0;
  each = λ k m e. machine_to m (all_first (λ n. MachineOk) i k m ok.1 e);
}

pub image_few : (i : List ImageMachine) → MachinesOk i
    → (k : ℕ) (m : ImageMachine) → slice_get i k ≡ Some m → length m.code < 2 ^ 32
image_few i ok k m e = machine_few m (all_first (λ n. MachineOk) i k m ok.1 e)

pub image_from : (i : List ImageMachine) → IsImage i
    → ((k : ℕ) (m : ImageMachine) → slice_get i k ≡ Some m → length m.code < 2 ^ 32)
    → MachinesOk i
image_from i is few = (
  in_range 1 64 (length i) is.some is.few,
  all_at (λ n. MachineOk) i (λ k m e. machine_from m (is.each k m e) (few k m e)),
)
