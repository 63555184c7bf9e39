-- Code of a machine may be run on its snapshots.
use Rattle.std.proofs.Common.{◌≡◌, ℕ, zero, suc, ◌+◌, ◌<◌, List, ◌∷◌, length, replicate, take, drop, ◌==◌, slice_get, slice_index, Some, None, ap, sym, subst, ◌∙◌, arith, []}
use Rattle.transition_table.specs.declared.machine.Machine.{Machine}
use Rattle.transition_table.specs.declared.snapshot.Snapshot.{Snapshot}
use Rattle.transition_table.specs.declared.snapshot.Outcome.{Outcome}
use Rattle.transition_table.specs.Transitions.{HasWidths}
use Rattle.task_code.specs.declared.instr.Instr.{Instr}
use Rattle.task_code.specs.declared.instr.Instr.TheVariants.{Test, Set, Goto, Halt}
use Rattle.task_code.specs.Codes.{goes_to, set_by, set_all, executed, Exec}
use Rattle.task_machine.specs.Running.{AreOfOne}
use Rattle.task_machine.specs.inner.Running.{MayRun}
use Rattle.task_code.specs.Facts.{FitsAt, IsCode}
use Rattle.sgraph.specs.Walks.{outcome_with, width_of}
use Rattle.task_machine.proofs.Executed.{IsRunnable, Going, going_start, going_on, going_ends}
use Rattle.sgraph.proofs.Outcomes.{mk, drop_more}
use Rattle.sgraph.proofs.GraphOf.{long_zeros}
use Rattle.domains.proofs.Ranks.{length_fits}
use Rattle.transition_table.proofs.Ranges.{below_size}
use Rattle.transition_table.proofs.MachineCounts.{results_long}

there : (c : List Instr) (k : ℕ) (i : Instr) → slice_get c k ≡ Some i → k < length c
there [] k i is = cc
there (x ∷ c) zero i is = omega arith
there (x ∷ c) (suc k) i is = let r = there c k i is in omega arith

pub runnable : (c : List Instr) (s : Snapshot) (o : Outcome) → IsCode c → AreOfOne c s o
    → IsRunnable c s.codes (width_of o)
runnable c s o ok one = record { some = ok.some; each = λ k i is. may k i is (ok.each k i is) }
  where
    may : (k : ℕ) (i : Instr) → slice_get c k ≡ Some i → FitsAt (length c) k i
        → MayRun (length c) s.codes (width_of o) k i
    may k (Test var targets) is fit =
        let test = one.code.tests k var targets is in
        let low : var < length one.machine.vars = test.0 in
        let count : length targets ≡ slice_index one.machine.vars var = test.1 in
        let long = length_fits one.machine.vars s.codes one.snapshot in
        let code = below_size one.machine.vars s.codes var one.snapshot low in
        let to = fit.1 (slice_index s.codes var) (omega arith) in
        (omega arith, omega arith, to.0, to.1)
    may k (Set result code) is fit =
        let low = one.code.sets k result code is in
        let long = results_long one.machine in
        let next = one.widths.next in
        let outs = one.widths.outs in
        let inside = there c k (Set result code) is in
        (omega arith, before (length c) inside (λ last. not_halt (sym is ∙ ok.last k last)))
      where
        not_halt : Some (Set result code) ≡ Some Halt → ⊥
        not_halt e = cc

        before : (n : ℕ) → k < n → (k + 1 ≡ n → ⊥) → k + 1 < n
        before n low other = omega (arith, other)
    may k (Goto target) is fit = fit
    may k Halt is fit = tt

-- what is left to execute, and the codes that the outcome has
pub record Doing (c : List Instr) (s : List ℕ) (first o : Outcome) (at steps : ℕ) : Type 0 where
  pub codes : List ℕ
  pub going : Going c s (replicate (width_of first) 0) codes at steps
  pub next : length o.next ≡ length first.next
  pub outs : length o.outs ≡ length first.outs
  pub is : o ≡ outcome_with (length first.next) codes

as_zeros : (c : List Instr) (s : List ℕ) (n : ℕ) → IsRunnable c s n
    → IsRunnable c s (length (replicate {A = ℕ} n 0))
as_zeros c s n may = subst (λ (m : ℕ). IsRunnable c s m) (sym (long_zeros n)) may

pub doing_start : (c : List Instr) (s : List ℕ) (first o : Outcome)
    → IsRunnable c s (width_of first) → length o.next ≡ length first.next
    → length o.outs ≡ length first.outs
    → o ≡ outcome_with (length first.next) (replicate (width_of first) 0) → Doing c s first o 0 1
doing_start c s first o may next outs is = record {
  codes = replicate (width_of first) 0;
  going = going_start c s (replicate (width_of first) 0) (as_zeros c s (width_of first) may);
  next = next;
  outs = outs;
  is = is;
}

-- what a step does to the outcome
pub Sets : (o new : Outcome) (i : Instr) → Type 0
Sets o new i = (codes : List ℕ) → length codes ≡ width_of o → o ≡ outcome_with (length o.next) codes
    → new ≡ outcome_with (length o.next) (set_by codes i)

set_one : (c : List Instr) (s : List ℕ) (first o new : Outcome) (at steps : ℕ) (i : Instr)
    → (d : Doing c s first o at steps) → Sets o new i
    → new ≡ outcome_with (length first.next) (set_by d.codes i)
unfolding Sets
set_one c s first o new at steps i d sets =
    let long = d.going.long in
    let zeros = long_zeros (width_of first) in
    let next = d.next in
    let outs = d.outs in
    sets d.codes (omega arith) (d.is ∙ ap (λ (n : ℕ). outcome_with n d.codes) (sym d.next))
    ∙ ap (λ (n : ℕ). outcome_with n (set_by d.codes i)) d.next

pub doing_on : (c : List Instr) (s : List ℕ) (first o new : Outcome) (at steps next : ℕ) (i : Instr)
    → IsRunnable c s (width_of first) → Doing c s first o at steps → slice_get c at ≡ Some i
    → Some next ≡ goes_to s at i → length new.next ≡ length o.next → length new.outs ≡ length o.outs
    → ((codes : List ℕ) → length codes ≡ width_of o → o ≡ outcome_with (length o.next) codes
    → new ≡ outcome_with (length o.next) (set_by codes i))
    → Doing c s first new next (steps + 1) × (at < next)
unfolding Sets
doing_on c s first o new at steps next i may d is go long_next long_outs sets =
    let on = going_on c s (replicate (width_of first) 0) d.codes at steps next i
    (as_zeros c s (width_of first) may) d.going is go in (
      record {
        codes = set_by d.codes i;
        going = on.0;
        next = long_next ∙ d.next;
        outs = long_outs ∙ d.outs;
        is = set_one c s first o new at steps i d sets;
      },
      on.1,
    )

pub doing_ends : (c : List Instr) (s : List ℕ) (first o new : Outcome) (at steps : ℕ) (i : Instr)
    → IsRunnable c s (width_of first) → Doing c s first o at steps → slice_get c at ≡ Some i
    → None ≡ goes_to s at i
    → ((codes : List ℕ) → length codes ≡ width_of o → o ≡ outcome_with (length o.next) codes
    → new ≡ outcome_with (length o.next) (set_by codes i))
    → (new ≡ outcome_with (length first.next)
    (set_all (replicate (width_of first) 0) (executed c s))) × (steps ≡ length (executed c s))
unfolding Sets
doing_ends c s first o new at steps i may d is stops sets =
    let ends = going_ends c s (replicate (width_of first) 0) d.codes at steps i
    (as_zeros c s (width_of first) may) d.going is stops in (
      set_one c s first o new at steps i d sets
          ∙ ap (outcome_with (length first.next)) ends.0,
      ends.1,
    )

-- for each machine of these widths
pub as_exec : (m : Machine) (c : List Instr) (s : List ℕ) (first : Outcome) → HasWidths m first
    → outcome_with (length first.next) (set_all (replicate (width_of first) 0) (executed c s))
    ≡ Exec m c s
as_exec m c s first widths =
    let long = results_long m in
    let next = widths.next in
    let outs = widths.outs in
    let e : width_of first ≡ length m.results = omega arith in
    ap (λ (n : ℕ). outcome_with n (set_all (replicate (width_of first) 0) (executed c s)))
    widths.next
    ∙ ap (λ (n : ℕ). outcome_with (length m.states) (set_all (replicate n 0) (executed c s))) e
    ∙ ap (mk (slice_index (set_all (replicate (length m.results) 0) (executed c s)) 0 == 1)
    (take (length m.states) (drop 1 (set_all (replicate (length m.results) 0) (executed c s)))))
    (drop_more (length m.states) (set_all (replicate (length m.results) 0) (executed c s)))
