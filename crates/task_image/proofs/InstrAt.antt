-- Readers of instructions.
use Rattle.std.proofs.Common.{◌≡◌, ℕ, zero, suc, ◌+◌, ◌^◌, ◌<◌, ◌≤◌, Bool, true, false, cond, List, [], ◌∷◌, ◌++◌, map, length, Ok, refl, sym, ap, subst, arith}
use Rattle.std.specs.Prelude.{nat_le, nat_lt, slice_index, ⊤}
use Rattle.std.specs.List.{flat_map, concat}
use Rattle.std.proofs.lemmas.List.Concat.{flat_map_single}
use Rattle.task_code.specs.declared.instr.Instr.{Instr}
use Rattle.task_code.specs.declared.instr.Instr.TheVariants.{Test, Set, Goto, Halt}
use Rattle.task_image.specs.Fields.{one_byte, four_bytes, instr_fields}
use Rattle.task_image.specs.inner.FieldReaders.{Read, ◌>>=◌, within, from_to, byte_at, each_at}
use Rattle.task_image.specs.inner.Reading.{target_at, test_at, set_at, goto_at, greatest_tag, after_tag, instr_at}
use Rattle.task_image.proofs.IsReader.{Takes, IsReader, ok_is, ok_no_err, then_reads, map_reads, same_reads, SoMany, some_many, each_reads, ended_most}
use Rattle.task_image.proofs.FieldReaders.{byte_reads, number_reads}
use Rattle.std.proofs.lemmas.Bool.{and_from, le-leb, leb-true, lt-ltb, ltb-true}
use Rattle.polis_base.proofs.Bools.{and_second}

-- ---- what instructions name
abbrev pub tag_of : Instr → ℕ
tag_of Halt = 0
tag_of (Test var targets) = 1
tag_of (Set result code) = 2
tag_of (Goto target) = 3

abbrev pub operands : Instr → List (List ℕ)
operands Halt = []
operands (Test var targets) = one_byte var ∷ map four_bytes targets
operands (Set result code) = one_byte result ∷ one_byte code ∷ []
operands (Goto target) = four_bytes target ∷ []

abbrev first_of : Instr → ℕ
first_of Halt = 0
first_of (Test var targets) = var
first_of (Set result code) = result
first_of (Goto target) = target

abbrev code_of : Instr → ℕ
code_of Halt = 0
code_of (Test var targets) = 0
code_of (Set result code) = code
code_of (Goto target) = 0

abbrev targets_of : Instr → List ℕ
targets_of Halt = []
targets_of (Test var targets) = targets
targets_of (Set result code) = []
targets_of (Goto target) = []

-- ---- what is allowed of instruction k of so many
abbrev pub TargetOk : ℕ → ℕ → ℕ → Type 0
TargetOk count k target = (from_to (k + 1) count target ≡ true) × (target < 2 ^ 32)

abbrev pub TargetsOk : List ℕ → ℕ → ℕ → ℕ → List ℕ → Type 0
TargetsOk vars count k var targets = SoMany (λ j. TargetOk count k) 0 (slice_index vars var) targets

abbrev pub OperandsOk : List ℕ → List ℕ → ℕ → ℕ → Instr → Type 0
OperandsOk vars results count k Halt = ⊤
OperandsOk vars results count k (Test var targets) =
    (nat_lt var (length vars) ≡ true) × TargetsOk vars count k var targets
OperandsOk vars results count k (Set result code) =
    (nat_lt result (length results) ≡ true) × (nat_lt code (slice_index results result) ≡ true)
OperandsOk vars results count k (Goto target) = TargetOk count k target

abbrev pub InstrOk : List ℕ → List ℕ → ℕ → ℕ → Instr → Type 0
InstrOk vars results count k i =
    (within 0 (greatest_tag count k) (tag_of i) ≡ true) × OperandsOk vars results count k i

-- ---- what may be named
-- there are variables, and results with codes
pub record HaveCodes (vars results : List ℕ) : Type 0 where
  pub var : 0 < length vars
  pub result : 0 < length results
  pub code : (v : ℕ) → v < length results → 0 < slice_index results v

next_place : (count k : ℕ) → suc k < count → count < 2 ^ 32
    → (target : ℕ) × TargetOk count k target
next_place count k later few = (
  k + 1,
  (
    and_from (nat_le (k + 1) (k + 1)) (nat_lt (k + 1) count) (le-leb (k + 1) (k + 1) (omega arith))
        (lt-ltb (k + 1) count (omega arith)),
    omega arith,
  ),
)

-- ---- tests
module _ (vars results : List ℕ) (count k : ℕ) (few : count < 2 ^ 32) where
  abbrev TestOk : Instr → Type 0
  TestOk i = (tag_of i ≡ 1)
      × TargetsOk vars count k (first_of i) (targets_of i)

  test_made : (v : ℕ) (i : Instr) → (tag_of i ≡ 1) × (first_of i ≡ v) → Test v (targets_of i) ≡ i
  test_made v Halt f = absurd (omega (arith, f.0))
  test_made v (Test var targets) f = ap (λ (w : ℕ). Test w targets) (sym f.1)
  test_made v (Set result code) f = absurd (omega (arith, f.0))
  test_made v (Goto target) f = absurd (omega (arith, f.0))

  test_rest : suc k < count → (v : ℕ) → IsReader (λ i. map four_bytes (targets_of i))
      (λ i. (first_of i ≡ v) × TestOk i)
      (λ bytes. each_at (λ j. target_at count k) 0 (slice_index vars v) bytes
      >>= λ targets. Ok (Test v targets.0, targets.1))
  test_rest later v =
      same_reads (λ i. flat_map (λ t. four_bytes t ∷ []) (targets_of i))
      (λ i. map four_bytes (targets_of i))
      (λ i. ((tag_of i ≡ 1) × (first_of i ≡ v)) × TargetsOk vars count k v (targets_of i))
      (λ i. (first_of i ≡ v) × TestOk i)
      (λ bytes. each_at (λ j. target_at count k) 0 (slice_index vars v) bytes
      >>= λ targets. Ok (Test v targets.0, targets.1))
      (map_reads (flat_map (λ t. four_bytes t ∷ [])) (TargetsOk vars count k v)
      (each_at (λ j. target_at count k) 0 (slice_index vars v))
      targets_of (λ targets. Test v targets) (λ i. (tag_of i ≡ 1) × (first_of i ≡ v))
      (each_reads (λ t. four_bytes t ∷ []) (λ j. TargetOk count k) (λ j. target_at count k)
      (λ j. number_reads (from_to (k + 1) count) (next_place count k later few))
      (λ j. next_place count k later few) 0 (slice_index vars v))
      (λ targets. (refl, (refl, refl)))
      (test_made v))
      (λ i p. (
        p.0.1,
        (
          p.0.0,
          subst (λ (w : ℕ). TargetsOk vars count k w (targets_of i)) (sym p.0.1) p.1,
        ),
      ))
      (λ i q. (
        (q.1.0, q.0),
        subst (λ (w : ℕ). TargetsOk vars count k w (targets_of i)) q.0 q.1.1,
      ))
      (λ i q. flat_map_single four_bytes (targets_of i))

  test_to : (i : Instr) → (nat_lt (first_of i) (length vars) ≡ true) × TestOk i
      → (tag_of i ≡ 1) × OperandsOk vars results count k i
  test_to Halt p = absurd (omega (arith, p.1.0))
  test_to (Test var targets) p = (refl, (p.0, p.1.1))
  test_to (Set result code) p = absurd (omega (arith, p.1.0))
  test_to (Goto target) p = absurd (omega (arith, p.1.0))

  test_from : (i : Instr) → (tag_of i ≡ 1) × OperandsOk vars results count k i
      → (nat_lt (first_of i) (length vars) ≡ true) × TestOk i
  test_from Halt p = absurd (omega (arith, p.0))
  test_from (Test var targets) p = (p.1.0, (refl, p.1.1))
  test_from (Set result code) p = absurd (omega (arith, p.0))
  test_from (Goto target) p = absurd (omega (arith, p.0))

  test_is : (i : Instr) → (tag_of i ≡ 1) × OperandsOk vars results count k i
      → (one_byte (first_of i) ∷ []) ++ map four_bytes (targets_of i) ≡ operands i
  test_is Halt p = absurd (omega (arith, p.0))
  test_is (Test var targets) p = refl
  test_is (Set result code) p = absurd (omega (arith, p.0))
  test_is (Goto target) p = absurd (omega (arith, p.0))

  abbrev some_test : suc k < count → (v : ℕ) → (i : Instr) × (first_of i ≡ v) × TestOk i
  some_test later v =
      let targets = some_many (λ j. TargetOk count k) (λ j. next_place count k later few) 0
      (slice_index vars v) in
      (Test v targets.0, refl, (refl, targets.1))

  test_reads : suc k < count → 0 < length vars
      → IsReader operands (λ i. (tag_of i ≡ 1) × OperandsOk vars results count k i)
      (λ bytes. test_at vars count k bytes)
  unfolding test_at
  test_reads later some =
      same_reads (λ i. (one_byte (first_of i) ∷ []) ++ map four_bytes (targets_of i)) operands
      (λ i. (nat_lt (first_of i) (length vars) ≡ true) × TestOk i)
      (λ i. (tag_of i ≡ 1) × OperandsOk vars results count k i)
      (λ bytes. test_at vars count k bytes)
      (then_reads (λ v. one_byte v ∷ []) (λ v. nat_lt v (length vars) ≡ true)
      (byte_at (λ v. nat_lt v (length vars))) first_of
      (λ i. map four_bytes (targets_of i)) TestOk
      (λ v bytes. each_at (λ j. target_at count k) 0 (slice_index vars v) bytes
      >>= λ targets. Ok (Test v targets.0, targets.1))
      (byte_reads (λ v. nat_lt v (length vars)) (0, lt-ltb 0 (length vars) some))
      (λ v p. test_rest later v) (λ v p. some_test later v))
      test_to test_from test_is

  -- ---- sets
  abbrev SetOk : Instr → Type 0
  SetOk i = (tag_of i ≡ 2) × (nat_lt (code_of i) (slice_index results (first_of i)) ≡ true)

  set_made : (v : ℕ) (i : Instr) → (tag_of i ≡ 2) × (first_of i ≡ v) → Set v (code_of i) ≡ i
  set_made v Halt f = absurd (omega (arith, f.0))
  set_made v (Test var targets) f = absurd (omega (arith, f.0))
  set_made v (Set result code) f = ap (λ (w : ℕ). Set w code) (sym f.1)
  set_made v (Goto target) f = absurd (omega (arith, f.0))

  set_rest : (v : ℕ) → 0 < slice_index results v
      → IsReader (λ i. one_byte (code_of i) ∷ []) (λ i. (first_of i ≡ v) × SetOk i)
      (λ bytes. byte_at (λ code. nat_lt code (slice_index results v)) bytes
      >>= λ code. Ok (Set v code.0, code.1))
  set_rest v some =
      same_reads (λ i. one_byte (code_of i) ∷ []) (λ i. one_byte (code_of i) ∷ [])
      (λ i. ((tag_of i ≡ 2) × (first_of i ≡ v))
      × (nat_lt (code_of i) (slice_index results v) ≡ true))
      (λ i. (first_of i ≡ v) × SetOk i)
      (λ bytes. byte_at (λ code. nat_lt code (slice_index results v)) bytes
      >>= λ code. Ok (Set v code.0, code.1))
      (map_reads (λ c. one_byte c ∷ []) (λ c. nat_lt c (slice_index results v) ≡ true)
      (byte_at (λ code. nat_lt code (slice_index results v)))
      code_of (λ c. Set v c) (λ i. (tag_of i ≡ 2) × (first_of i ≡ v))
      (byte_reads (λ code. nat_lt code (slice_index results v))
      (0, lt-ltb 0 (slice_index results v) some))
      (λ c. (refl, (refl, refl)))
      (set_made v))
      (λ i p. (
        p.0.1,
        (
          p.0.0,
          subst (λ (w : ℕ). nat_lt (code_of i) (slice_index results w) ≡ true) (sym p.0.1) p.1,
        ),
      ))
      (λ i q. (
        (q.1.0, q.0),
        subst (λ (w : ℕ). nat_lt (code_of i) (slice_index results w) ≡ true) q.0 q.1.1,
      ))
      (λ i q. refl)

  set_to : (i : Instr) → (nat_lt (first_of i) (length results) ≡ true) × SetOk i
      → (tag_of i ≡ 2) × OperandsOk vars results count k i
  set_to Halt p = absurd (omega (arith, p.1.0))
  set_to (Test var targets) p = absurd (omega (arith, p.1.0))
  set_to (Set result code) p = (refl, (p.0, p.1.1))
  set_to (Goto target) p = absurd (omega (arith, p.1.0))

  set_from : (i : Instr) → (tag_of i ≡ 2) × OperandsOk vars results count k i
      → (nat_lt (first_of i) (length results) ≡ true) × SetOk i
  set_from Halt p = absurd (omega (arith, p.0))
  set_from (Test var targets) p = absurd (omega (arith, p.0))
  set_from (Set result code) p = (p.1.0, (refl, p.1.1))
  set_from (Goto target) p = absurd (omega (arith, p.0))

  set_is : (i : Instr) → (tag_of i ≡ 2) × OperandsOk vars results count k i
      → (one_byte (first_of i) ∷ []) ++ (one_byte (code_of i) ∷ []) ≡ operands i
  set_is Halt p = absurd (omega (arith, p.0))
  set_is (Test var targets) p = absurd (omega (arith, p.0))
  set_is (Set result code) p = refl
  set_is (Goto target) p = absurd (omega (arith, p.0))

  some_set : (v : ℕ) → 0 < slice_index results v → (i : Instr) × (first_of i ≡ v) × SetOk i
  some_set v some = (Set v 0, refl, (refl, lt-ltb 0 (slice_index results v) some))

  set_reads : HaveCodes vars results
      → IsReader operands (λ i. (tag_of i ≡ 2) × OperandsOk vars results count k i)
      (λ bytes. set_at results bytes)
  unfolding set_at
  set_reads some =
      same_reads (λ i. (one_byte (first_of i) ∷ []) ++ (one_byte (code_of i) ∷ [])) operands
      (λ i. (nat_lt (first_of i) (length results) ≡ true) × SetOk i)
      (λ i. (tag_of i ≡ 2) × OperandsOk vars results count k i)
      (λ bytes. set_at results bytes)
      (then_reads (λ v. one_byte v ∷ []) (λ v. nat_lt v (length results) ≡ true)
      (byte_at (λ v. nat_lt v (length results))) first_of
      (λ i. one_byte (code_of i) ∷ []) SetOk
      (λ v bytes. byte_at (λ code. nat_lt code (slice_index results v)) bytes
      >>= λ code. Ok (Set v code.0, code.1))
      (byte_reads (λ v. nat_lt v (length results)) (0, lt-ltb 0 (length results) some.result))
      (λ v p. set_rest v (some.code v (ltb-true v (length results) p)))
      (λ v p. some_set v (some.code v (ltb-true v (length results) p))))
      set_to set_from set_is

  -- ---- gotos and halts
  goto_made : (i : Instr) → tag_of i ≡ 3 → Goto (first_of i) ≡ i
  goto_made Halt f = absurd (omega (arith, f))
  goto_made (Test var targets) f = absurd (omega (arith, f))
  goto_made (Set result code) f = absurd (omega (arith, f))
  goto_made (Goto target) f = refl

  goto_to : (i : Instr) → (tag_of i ≡ 3) × TargetOk count k (first_of i)
      → (tag_of i ≡ 3) × OperandsOk vars results count k i
  goto_to Halt p = absurd (omega (arith, p.0))
  goto_to (Test var targets) p = absurd (omega (arith, p.0))
  goto_to (Set result code) p = absurd (omega (arith, p.0))
  goto_to (Goto target) p = p

  goto_from : (i : Instr) → (tag_of i ≡ 3) × OperandsOk vars results count k i
      → (tag_of i ≡ 3) × TargetOk count k (first_of i)
  goto_from Halt p = absurd (omega (arith, p.0))
  goto_from (Test var targets) p = absurd (omega (arith, p.0))
  goto_from (Set result code) p = absurd (omega (arith, p.0))
  goto_from (Goto target) p = p

  goto_is : (i : Instr) → (tag_of i ≡ 3) × OperandsOk vars results count k i
      → four_bytes (first_of i) ∷ [] ≡ operands i
  goto_is Halt p = absurd (omega (arith, p.0))
  goto_is (Test var targets) p = absurd (omega (arith, p.0))
  goto_is (Set result code) p = absurd (omega (arith, p.0))
  goto_is (Goto target) p = refl

  goto_reads : suc k < count
      → IsReader operands (λ i. (tag_of i ≡ 3) × OperandsOk vars results count k i)
      (λ bytes. goto_at count k bytes)
  unfolding goto_at
  goto_reads later =
      same_reads (λ i. four_bytes (first_of i) ∷ []) operands
      (λ i. (tag_of i ≡ 3) × TargetOk count k (first_of i))
      (λ i. (tag_of i ≡ 3) × OperandsOk vars results count k i)
      (λ bytes. goto_at count k bytes)
      (map_reads (λ t. four_bytes t ∷ []) (TargetOk count k) (target_at count k) first_of
      (λ t. Goto t) (λ i. tag_of i ≡ 3)
      (number_reads (from_to (k + 1) count) (next_place count k later few))
      (λ t. (refl, refl)) goto_made)
      goto_to goto_from goto_is

  halt_made : (i : Instr) → (tag_of i ≡ 0) × OperandsOk vars results count k i → Halt ≡ i
  halt_made Halt p = refl
  halt_made (Test var targets) p = absurd (omega (arith, p.0))
  halt_made (Set result code) p = absurd (omega (arith, p.0))
  halt_made (Goto target) p = absurd (omega (arith, p.0))

  halt_reads : IsReader operands (λ i. (tag_of i ≡ 0) × OperandsOk vars results count k i)
      (λ bytes. Ok (Halt, bytes))
  halt_reads = record {
    takes = λ bytes x fits e.
        subst (λ (y : Instr × List ℕ). Takes bytes (concat (operands y.0)) y.1
        × ((tag_of y.0 ≡ 0) × OperandsOk vars results count k y.0)) (ok_is (Halt, bytes) x e)
        (record { parts = refl; rest_fits = fits }, (refl, tt));
    again = λ i rest p.
        subst (λ (j : Instr). halted (concat (operands j) ++ rest) ≡ Ok (j, rest)) (halt_made i p)
        refl;
    begins = λ bytes left fits e. absurd (ok_no_err (Halt, bytes) left e);
    most = λ bytes fits i p prefix more rest parts are.
        ended_most bytes prefix more rest
        (subst (λ (j : Instr). operands j ≡ prefix ++ more) (sym (halt_made i p)) parts) are;
  }
    where
      halted : List ℕ → Read Instr
      halted bytes = Ok (Halt, bytes)

  after_reads : HaveCodes vars results → (tag : ℕ) → tag ≤ 3 → (1 ≤ tag → suc k < count)
      → IsReader operands (λ i. (tag_of i ≡ tag) × OperandsOk vars results count k i)
      (λ bytes. after_tag vars results count k tag bytes)
  after_reads some zero le later = halt_reads
  after_reads some (suc zero) le later = test_reads (later (omega arith)) some.var
  after_reads some (suc (suc zero)) le later = set_reads some
  after_reads some (suc (suc (suc n))) le later =
      let e : 3 ≡ suc (suc (suc n)) = omega arith in
      subst (λ (t : ℕ). IsReader operands
      (λ i. (tag_of i ≡ t) × OperandsOk vars results count k i)
      (λ bytes. goto_at count k bytes)) e (goto_reads (later (omega arith)))

  some_operands : HaveCodes vars results → (tag : ℕ) → tag ≤ 3 → (1 ≤ tag → suc k < count)
      → (i : Instr) × (tag_of i ≡ tag) × OperandsOk vars results count k i
  some_operands some zero le later = (Halt, refl, tt)
  some_operands some (suc zero) le later =
      let i = some_test (later (omega arith)) 0 in
      (Test 0 (targets_of i.0), refl, (lt-ltb 0 (length vars) some.var, i.2.1))
  some_operands some (suc (suc zero)) le later = (
    Set 0 0,
    refl,
    (
      lt-ltb 0 (length results) some.result,
      lt-ltb 0 (slice_index results 0) (some.code 0 some.result),
    ),
  )
  some_operands some (suc (suc (suc n))) le later =
      let e : 3 ≡ suc (suc (suc n)) = omega arith in
      let target = next_place count k (later (omega arith)) few in
      (Goto target.0, e, target.1)

greatest_le : (count k : ℕ) → greatest_tag count k ≤ 3
greatest_le count k = of (nat_lt (suc k) count)
  where
    of : (b : Bool) → cond b 3 0 ≤ 3
    of true = omega arith
    of false = omega arith

within_most : (most n : ℕ) → within 0 most n ≡ true → n ≤ most
within_most most n e = leb-true n most (and_second (nat_le 0 n) (nat_le n most) e)

-- a halt may stand anywhere
halt_tag : (count k : ℕ) → within 0 (greatest_tag count k) 0 ≡ true
halt_tag count k = le-leb 0 (greatest_tag count k) (omega arith)

tag_le : (count k t : ℕ) → within 0 (greatest_tag count k) t ≡ true → t ≤ 3
tag_le count k t p = omega (arith, within_most (greatest_tag count k) t p, greatest_le count k)

tag_later : (count k t : ℕ) → within 0 (greatest_tag count k) t ≡ true → 1 ≤ t → suc k < count
tag_later count k t p some = by (nat_lt (suc k) count) refl (within_most (greatest_tag count k) t p)
  where
    by : (b : Bool) → nat_lt (suc k) count ≡ b → t ≤ cond b 3 0 → suc k < count
    by true e le = ltb-true (suc k) count e
    by false e le = absurd (omega (arith, le, some))

instr_is : (i : Instr) → (one_byte (tag_of i) ∷ []) ++ operands i ≡ instr_fields i
instr_is Halt = refl
instr_is (Test var targets) = refl
instr_is (Set result code) = refl
instr_is (Goto target) = refl

pub instr_reads : (vars results : List ℕ) (count k : ℕ) → HaveCodes vars results → count < 2 ^ 32
    → IsReader instr_fields (InstrOk vars results count k)
    (λ bytes. instr_at vars results count k bytes)
unfolding instr_at
instr_reads vars results count k some few =
    same_reads (λ i. (one_byte (tag_of i) ∷ []) ++ operands i) instr_fields
    (InstrOk vars results count k) (InstrOk vars results count k)
    (λ bytes. instr_at vars results count k bytes)
    (then_reads (λ t. one_byte t ∷ []) (λ t. within 0 (greatest_tag count k) t ≡ true)
    (byte_at (within 0 (greatest_tag count k))) tag_of operands
    (OperandsOk vars results count k)
    (λ t bytes. after_tag vars results count k t bytes)
    (byte_reads (within 0 (greatest_tag count k)) (0, halt_tag count k))
    (λ t p. after_reads vars results count k few some t (tag_le count k t p)
    (tag_later count k t p))
    (λ t p. some_operands vars results count k few some t (tag_le count k t p)
    (tag_later count k t p)))
    (λ i p. p) (λ i p. p) (λ i p. instr_is i)

pub halt_ok : (vars results : List ℕ) (count k : ℕ) → InstrOk vars results count k Halt
halt_ok vars results count k = (halt_tag count k, tt)
