-- What code costs from a place on.
use Rattle.std.proofs.Common.{◌≡◌, ℕ, zero, suc, ◌+◌, ◌<◌, List, [], ◌∷◌, length, slice_get, slice_index, slice_index_or, Option, Some, None, refl, ap, sym, ◌∙◌, arith}
use Rattle.std.specs.Prelude.{Contains}
use Rattle.std.specs.List.{sum_by}
use Rattle.std.proofs.lemmas.List.Sums.{sum_by-cons}
use Rattle.std.proofs.lemmas.List.{get_or_default}
use Rattle.std.proofs.lemmas.Option.{slice_get_within}
use Rattle.sgraph.specs.Trails.{trail}
use Rattle.task_code.specs.declared.instr.Instr.{Instr}
use Rattle.task_code.specs.declared.instr.Instr.TheVariants.{Test, Set, Goto, Halt}
use Rattle.task_code.specs.Codes.{goes_to}
use Rattle.task_code.specs.Facts.{IsCode, goes_on}
use Rattle.cost_bound.specs.inner.Scores.{MayGoOn}
use Rattle.cost_bound.specs.declared.costs.Costs.{Costs}
use Rattle.cost_bound.specs.Costs.{cost_of}
use Rattle.sgraph.proofs.Trails.{Onward, trail_at}

-- what is executed costs from a place on
abbrev pub tail_cost : Costs → List Instr → List ℕ → Option ℕ → ℕ
tail_cost costs c s at = sum_by (cost_of costs) (trail (goes_to s) c 0 at)

pub instr_at : (c : List Instr) (k : ℕ) → k < length c
    → (x : Instr) × (slice_get c k ≡ Some x)
instr_at [] k low = absurd (omega arith)
instr_at (y ∷ c) zero low = (y, refl)
instr_at (y ∷ c) (suc k) low = instr_at c k (omega arith)

-- each instruction may go on to later places only
pub may_go_on : (c : List Instr) (k : ℕ) (x : Instr) → IsCode c → slice_get c k ≡ Some x
    → MayGoOn (length c) k x
may_go_on c k (Test var targets) ok is = ok.each k (Test var targets) is
may_go_on c k (Set result code) ok is =
    before (length c) (slice_get_within c k (Set result code) is)
    (λ last. not_halt (sym is ∙ ok.last k last))
  where
    not_halt : Some (Set result code) ≡ Some Halt → ⊥
    not_halt e = cc

    before : (n : ℕ) → k < n → (k + 1 ≡ n → ⊥) → k + 1 < n
    before n low other = omega (arith, other)
may_go_on c k (Goto target) ok is = ok.each k (Goto target) is
may_go_on c k Halt ok is = tt

one_item : {j : ℕ} (k i : ℕ) → i < length (k ∷ []) → slice_index_or (k ∷ []) i j ≡ j → k ≡ j
one_item k zero low is = is
one_item k (suc i) low is = absurd (omega arith)

-- where it may go on
pub goes_later : (count k : ℕ) (x : Instr) (j : ℕ) → MayGoOn count k x
    → Contains (goes_on k (Some x)) j → (k < j) × (j < count)
goes_later count k (Test var targets) j may (i, low, is) =
    let to = may.1 i low in
    let e : slice_index targets i ≡ j = get_or_default targets i 0 j low ∙ is in
    (omega arith, omega arith)
goes_later count k (Set result code) j may (i, low, is) =
    let e : suc k ≡ j = one_item (suc k) i low is in
    (omega arith, omega arith)
goes_later count k (Goto target) j may (i, low, is) =
    let e : target ≡ j = one_item target i low is in
    (omega arith, omega arith)
goes_later count k Halt j may (i, low, is) = absurd (omega arith)

pub tail_none : (costs : Costs) (c : List Instr) (s : List ℕ) → tail_cost costs c s None ≡ 0
tail_none costs c s = ap (sum_by (cost_of costs)) (none (goes_to s) c 0)
  where
    none : (next : ℕ → Instr → Option ℕ) (xs : List Instr) (base : ℕ)
        → trail next xs base None ≡ []
    none next [] base = refl
    none next (x ∷ xs) base = none next xs (suc base)

-- an instruction costs its own, and what comes after it
pub tail_at : (costs : Costs) (c : List Instr) (s : List ℕ) (k : ℕ) (x : Instr)
    → slice_get c k ≡ Some x → Onward k (goes_to s k x)
    → tail_cost costs c s (Some k) ≡ cost_of costs x + tail_cost costs c s (goes_to s k x)
tail_at costs c s k x is on =
    ap (sum_by (cost_of costs)) (trail_at (goes_to s) c 0 k k x is (omega arith) on)
    ∙ sum_by-cons (cost_of costs) x (trail (goes_to s) c 0 (goes_to s k x))

-- where it goes on to a known place
pub tail_to : (costs : Costs) (c : List Instr) (s : List ℕ) (k j : ℕ) (x : Instr)
    → slice_get c k ≡ Some x → goes_to s k x ≡ Some j → k < j
    → tail_cost costs c s (Some k) ≡ cost_of costs x + tail_cost costs c s (Some j)
tail_to costs c s k j x is goes later =
    let on : Onward k (goes_to s k x) = rw goes later in
    tail_at costs c s k x is on ∙ ap (λ (o : Option ℕ). cost_of costs x + tail_cost costs c s o) goes
