-- Running code, one instruction after another.
use Rattle.std.proofs.Common.{◌≡◌, ◌⊎◌, inl, inr, ⊎_elim, ℕ, suc, ◌+◌, ◌<◌, ◌≤◌, List, ◌∷◌, length, slice_get, slice_index, Option, Some, None, refl, ap, sym, ◌∙◌, arith, length-set, []}
use Rattle.task_code.specs.declared.instr.Instr.{Instr}
use Rattle.task_code.specs.declared.instr.Instr.TheVariants.{Test, Set, Goto, Halt}
use Rattle.sgraph.specs.Trails.{trail}
use Rattle.task_code.specs.Codes.{goes_to, set_by, set_all, executed}
use Rattle.task_machine.specs.inner.Running.{MayRun}
use Rattle.sgraph.proofs.Trails.{Onward, trail_at}
use Rattle.sgraph.proofs.EvalSteps.{got_some, no_next}

-- each instruction may be run, and there is one
pub record IsRunnable (c : List Instr) (s : List ℕ) (results : ℕ) : Type 0 where
  pub some : 0 < length c
  pub each : (k : ℕ) (i : Instr) → slice_get c k ≡ Some i → MayRun (length c) s results k i

none : (next : ℕ → Instr → Option ℕ) (xs : List Instr) (base : ℕ) → trail next xs base None ≡ []
none next [] base = refl
none next (x ∷ xs) base = none next xs (suc base)

-- where an instruction leads is later and within, or nowhere
pub leads : (count : ℕ) (s : List ℕ) (results k : ℕ) (i : Instr) → MayRun count s results k i
    → (goes_to s k i ≡ None)
    ⊎ ((next : ℕ) × (goes_to s k i ≡ Some next) × (k < next) × (next < count))
leads count s results k (Test var targets) may =
    inr (
      slice_index targets (slice_index s var),
      got_some targets (slice_index s var) may.1,
      may.2,
      may.3,
    )
leads count s results k (Set result code) may = inr (suc k, refl, omega arith, omega (arith, may.1))
leads count s results k (Goto target) may = inr (target, refl, may.0, may.1)
leads count s results k Halt may = inl refl

pub long_set : (codes : List ℕ) (i : Instr) → length (set_by codes i) ≡ length codes
long_set codes (Test var targets) = refl
long_set codes (Set result code) = length-set codes result code
long_set codes (Goto target) = refl
long_set codes Halt = refl

-- what is left to execute from a place
pub record Going (c : List Instr) (s first codes : List ℕ) (at steps : ℕ) : Type 0 where
  pub low : at < length c
  pub few : steps ≤ at + 1
  pub long : length codes ≡ length first
  pub sets : set_all codes (trail (goes_to s) c 0 (Some at)) ≡ set_all first (executed c s)
  pub count : steps + length (trail (goes_to s) c 0 (Some at)) ≡ length (executed c s) + 1

pub going_start : (c : List Instr) (s codes : List ℕ) → IsRunnable c s (length codes)
    → Going c s codes codes 0 1
going_start c s codes may =
    record { low = may.some; few = omega arith; long = refl; sets = refl; count = omega arith }

same_next : (a b : Option ℕ) (x y : ℕ) → a ≡ Some x → a ≡ Some y → x ≡ y
same_next a b x y e f = cc

pub going_on : (c : List Instr) (s first codes : List ℕ) (at steps next : ℕ) (i : Instr)
    → IsRunnable c s (length first) → Going c s first codes at steps → slice_get c at ≡ Some i
    → Some next ≡ goes_to s at i → Going c s first (set_by codes i) next (steps + 1) × (at < next)
going_on c s first codes at steps next i may going is go =
    ⊎_elim
    (λ stops. absurd (no_next (goes_to s at i) next stops (sym go)))
    (λ some.
    let e : some.0 ≡ next = same_next (goes_to s at i) None some.0 next some.1 (sym go) in
    let above : at < some.0 = some.2 in
    let within : some.0 < length c = some.3 in
    let onward : Onward at (goes_to s at i) = rw some.1 above in
    let step = trail_at (goes_to s) c 0 at at i is (omega arith) onward in
    let to : trail (goes_to s) c 0 (goes_to s at i) ≡ trail (goes_to s) c 0 (Some next) =
    ap (trail (goes_to s) c 0) (sym go) in
    let whole : trail (goes_to s) c 0 (Some at) ≡ i ∷ trail (goes_to s) c 0 (Some next) =
    step ∙ ap (λ (xs : List Instr). i ∷ xs) to in
    let long : length (trail (goes_to s) c 0 (Some at))
    ≡ suc (length (trail (goes_to s) c 0 (Some next))) =
    ap (λ (xs : List Instr). length xs) whole in (
      record {
        low = omega arith;
        few = omega (arith, going.few);
        long = long_set codes i ∙ going.long;
        sets = sym (ap (set_all codes) whole) ∙ going.sets;
        count = omega (arith, going.count);
      },
      omega arith,
    ))
    (leads (length c) s (length first) at i (may.each at i is))

pub going_ends : (c : List Instr) (s first codes : List ℕ) (at steps : ℕ) (i : Instr)
    → IsRunnable c s (length first) → Going c s first codes at steps → slice_get c at ≡ Some i
    → None ≡ goes_to s at i → (set_by codes i ≡ set_all first (executed c s))
    × (steps ≡ length (executed c s))
going_ends c s first codes at steps i may going is stops =
    let onward : Onward at (goes_to s at i) = rw (← stops) tt in
    let step = trail_at (goes_to s) c 0 at at i is (omega arith) onward in
    let whole : trail (goes_to s) c 0 (Some at) ≡ i ∷ [] =
    step ∙ ap (λ (o : Option ℕ). i ∷ trail (goes_to s) c 0 o) (sym stops)
    ∙ ap (λ (xs : List Instr). i ∷ xs) (none (goes_to s) c 0) in
    let long : length (trail (goes_to s) c 0 (Some at)) ≡ 1 =
    ap (λ (xs : List Instr). length xs) whole in
    (sym (ap (set_all codes) whole) ∙ going.sets, omega (arith, going.count))
