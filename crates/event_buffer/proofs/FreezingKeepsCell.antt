-- What is kept as a reaction is frozen.
use Rattle.std.specs.Prelude.{◌≡◌, ℕ, ◌+◌, ◌<◌, Bool, true, false, cond, ◌||◌, is_some, List, [], ◌∷◌, ◌++◌, take, length, slice_get, slice_set, Option, Some, None, IsSomeAnd}
use Rattle.std.proofs.Common.{refl, sym, ap, ◌∙◌, subst, arith}
use Rattle.std.proofs.lemmas.Bool.{eq-eqb}
use Rattle.transition_table.specs.Transitions.{OfMachine, IsSnapshot, IsOutcome}
use Rattle.transition_table.specs.declared.machine.Machine.{Machine}
use Rattle.transition_table.specs.declared.network.Network.{Network}
use Rattle.transition_table.specs.declared.snapshot.Snapshot.{Snapshot}
use Rattle.journals.specs.declared.entry.Entry.TheVariants.{Rea}
use Rattle.journals.specs.declared.stamped.Stamped.{Stamped}
use Rattle.journals.specs.Alone.{LegalAlone, MayAppend}
use Rattle.journals.specs.Journals.{is_woken, snap}
use Rattle.journals.specs.Laws.{AloneBySteps, GivesTransition, MovesWaking, ReactionFits, SnapFits}
use Rattle.journals.specs.Logs.{clock, entries, max_stamp, stamped}
use Rattle.journals.specs.Reactions.{outcome_in}
use Rattle.worker_core.specs.Cores.{reacting}
use Rattle.event_buffer.specs.declared.look.Look.TheVariants.{Ready}
use Rattle.event_buffer.specs.declared.pending.Pending.{Pending}
use Rattle.event_buffer.specs.Cells.{CellState, look, look_of, freezing, decided, filled, frozen_of, shown, IsLast, IsCell}
use Rattle.event_buffer.proofs.LastReaction.{last_here}
use Rattle.event_buffer.proofs.Lists.{get_of_set, set_last, take_within}
use Rattle.event_buffer.proofs.LegalLogs.{clock_more, item_of_legal}
use Rattle.event_buffer.proofs.OutcomeIn.{outcome_holds}
use Rattle.journals.proofs.StampSteps.{entries_more}
use Rattle.polis_base.proofs.Places.{take_whole}

-- ---- where nothing is pending

pub nothing_pending :
    (moment : Snapshot) (p : Option Pending)
    → frozen_of moment p ≡ None → p ≡ None
nothing_pending moment None h = refl
nothing_pending moment (Some p) h = absurd cc

pub ready_parts :
    (busy : Bool) (frozen : Option (ℕ × Snapshot)) (woken : Bool)
    → look_of (busy || is_some frozen) woken ≡ Ready
    → (busy ≡ false) × (frozen ≡ None) × (woken ≡ true)
ready_parts true frozen woken h = absurd cc
ready_parts false (Some f) woken h = absurd cc
ready_parts false None true h = (refl, refl, refl)
ready_parts false None false h = absurd cc

-- a cell that looks Ready
pub ready_cell :
    (net : Network) (m : ℕ) (moment : Snapshot) (woken : Bool) (time : ℕ) (busy : Bool)
    (pending : Option Pending) (log : List Stamped) (c : CellState)
    → IsCell net m moment woken time pending log
    → shown net m moment busy pending log ≡ c
    → look c ≡ Ready
    → (pending ≡ None) × (is_woken (entries log) m ≡ true)
    × IsCell net m moment woken time None log
ready_cell net m moment woken time busy pending log c kept view ready =
    let parts =
    ready_parts busy (frozen_of moment pending)
    (is_woken (entries (filled net m moment pending log)) m) (ap look view ∙ ready) in
    let none = nothing_pending moment pending parts.1 in (
      none,
      subst (λ (o : Option Pending). is_woken (entries (filled net m moment o log)) m ≡ true) none
          parts.2,
      subst (λ (o : Option Pending). IsCell net m moment woken time o log) none kept,
    )

pub moment_fits :
    (net : Network) (m : ℕ) (moment : Snapshot) (woken : Bool) (time : ℕ) (log : List Stamped)
    → SnapFits
    → IsCell net m moment woken time None log
    → OfMachine net m (λ machine. IsSnapshot machine moment)
moment_fits net m moment woken time log fits kept =
    subst (λ (s : Snapshot). OfMachine net m (λ machine. IsSnapshot machine s))
    (sym kept.moment_is)
    (fits net (entries log) m (kept.legal).fitting kept.exists)

-- ---- the reaction

-- it may come after the log
may_react :
    (net : Network) (m : ℕ) (log : List Stamped)
    → GivesTransition
    → ReactionFits
    → m < length net.machines
    → LegalAlone net m log
    → is_woken (entries log) m ≡ true
    → clock log < max_stamp
    → MayAppend net m log (reacting net m log)
may_react net m log gives fits exists legal woken room = record {
  rises = omega arith;
  small = omega arith;
  fits = fits net m (entries log) legal.fitting exists;
  own = eq-eqb m m refl;
  reacts = (woken, refl, outcome_holds net m (snap net (entries log) m) gives exists);
}

pub frozen_log :
    (net : Network) (m : ℕ) (moment : Snapshot) (log more : List Stamped) (p : Pending)
    (x : Stamped)
    → p.place ≡ length log
    → more ≡ log ++ x ∷ []
    → filled net m moment (Some p) more ≡ log ++ decided net m moment p ∷ []
frozen_log net m moment log more p x place is =
    let y : Stamped = decided net m moment p in
    ap (λ (l : List Stamped). slice_set l p.place y) is
    ∙ ap (λ (k : ℕ). slice_set (log ++ x ∷ []) k y) place
    ∙ set_last log x y

pub decided_is :
    (net : Network) (m : ℕ) (moment : Snapshot) (woken : Bool) (time : ℕ) (log : List Stamped)
    (p : Pending)
    → IsCell net m moment woken time None log
    → p.stamp ≡ time + 1
    → decided net m moment p ≡ reacting net m log
decided_is net m moment woken time log p kept stamp =
    let at : p.stamp ≡ clock log + 1 = stamp ∙ ap (λ (n : ℕ). n + 1) kept.time_is in
    let to = kept.moment_is in
    λ i. stamped (at i) (Rea m (to i) (outcome_in net m (to i)))

pub frozen_kept :
    (net : Network) (m : ℕ) (moment : Snapshot) (woken : Bool) (time : ℕ)
    (log more : List Stamped) (p : Pending) (x : Stamped)
    → GivesTransition
    → ReactionFits
    → AloneBySteps
    → MovesWaking
    → IsCell net m moment woken time None log
    → is_woken (entries log) m ≡ true
    → time < max_stamp
    → p.place ≡ length log
    → p.stamp ≡ time + 1
    → more ≡ log ++ x ∷ []
    → IsCell net m moment false (time + 1) (Some p) more
frozen_kept net m moment woken time log more p x gives fits steps waking kept ready room place stamp
    is =
    let y : Stamped = decided net m moment p in
    let whole = frozen_log net m moment log more p x place is in
    let same = kept.time_is in
    let next : MayAppend net m log y =
    subst (MayAppend net m log) (sym (decided_is net m moment woken time log p kept stamp))
    (may_react net m log gives fits kept.exists kept.legal ready (omega arith)) in
    let first : take p.place more ≡ log =
    ap (λ (l : List Stamped). take p.place l) is
    ∙ ap (λ (k : ℕ). take k (log ++ x ∷ [])) place
    ∙ take_within log (length log) x (omega arith)
    ∙ take_whole log (length log) (omega arith) in
    let size : length more ≡ length log + 1 =
    ap (λ (l : List Stamped). length l) is ∙ long log x in
    record {
      exists = kept.exists;
      deterministic = kept.deterministic;
      legal = subst (LegalAlone net m) (sym whole) ((steps net m log y).1 (kept.legal, next));
      moment_is =
          kept.moment_is ∙ ap (λ (l : List Stamped). snap net (entries l) m) (sym first);
      woken_is =
          sym
          (ap (λ (l : List Stamped). is_woken (entries l) m) whole
          ∙ ap (λ j. is_woken j m) (entries_more log y)
          ∙ waking (entries log) y.entry m
          ∙ ap (λ b. cond b false (is_woken (entries log) m)) (eq-eqb m m refl));
      time_is = sym (ap clock whole ∙ clock_more log y ∙ stamp);
      pending_is = omega arith;
      last_is =
          subst (IsLast net m (Some (p.stamp, moment))) (sym whole) (last_here net m moment log p);
    }
  where
    long : (xs : List Stamped) (y : Stamped) → length (xs ++ y ∷ []) ≡ length xs + 1
    long [] y = refl
    long (z ∷ xs) y = let rest = long xs y in omega arith

pub frozen_view :
    (net : Network) (m : ℕ) (moment : Snapshot) (woken : Bool) (time : ℕ) (busy : Bool)
    (pending : Option Pending) (log more : List Stamped) (p : Pending) (x : Stamped)
    (c : CellState)
    → IsCell net m moment woken time None log
    → pending ≡ None
    → shown net m moment busy pending log ≡ c
    → p.place ≡ length log
    → p.stamp ≡ time + 1
    → more ≡ log ++ x ∷ []
    → shown net m moment busy (Some p) more ≡ freezing c
frozen_view net m moment woken time busy pending log more p x c kept none view place stamp is =
    let at : p.stamp ≡ clock log + 1 = stamp ∙ ap (λ (n : ℕ). n + 1) kept.time_is in
    let to = kept.moment_is in
    let whole : filled net m moment (Some p) more ≡ log ++ reacting net m log ∷ [] =
    frozen_log net m moment log more p x place is
    ∙ ap (λ (y : Stamped). log ++ y ∷ [])
    (decided_is net m moment woken time log p kept stamp) in
    let here :
    shown net m moment busy (Some p) more ≡ freezing (shown net m moment busy None log) =
    λ i. record {
      net = net;
      machine = m;
      log = whole i;
      busy = busy;
      frozen = Some (at i, to i);
    } in
    here
    ∙ ap (λ (o : Option Pending). freezing (shown net m moment busy o log)) (sym none)
    ∙ ap freezing view

-- ---- what a pending reaction is to

pub pending_fits :
    (net : Network) (m : ℕ) (moment : Snapshot) (woken : Bool) (time : ℕ) (p : Pending)
    (log : List Stamped)
    → IsCell net m moment woken time (Some p) log
    → OfMachine net m (λ machine. IsSnapshot machine moment)
pending_fits net m moment woken time p log kept =
    let y : Stamped = decided net m moment p in
    let item =
    item_of_legal net m (filled net m moment (Some p) log) p.place y kept.legal
    (get_of_set log p.place y kept.pending_is) in
    elim (slice_get net.machines m) as (λ (found : Option Machine).
    IsSomeAnd found
    (λ machine. IsSnapshot machine moment × IsOutcome machine (outcome_in net m moment))
    → IsSomeAnd found (λ machine. IsSnapshot machine moment)) [
      | None ↦ λ none. absurd none
      | Some machine ↦ λ here. here.0
    ] item.0
