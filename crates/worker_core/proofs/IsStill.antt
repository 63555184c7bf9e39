-- One step of a core that is left to itself.
use Rattle.std.specs.Prelude.{◌≡◌, ℕ, ◌+◌, ◌<◌, ◌≤◌, Bool, false, is_some, unwrap_or, List, length, Option, Some, None}
use Rattle.std.proofs.Common.{refl, sym, ap, ◌∙◌, subst, inl, inr, arith}
use Rattle.std.proofs.lemmas.List.{get_or_past}
use Rattle.std.proofs.lemmas.Bool.{false≢true, cases_lt}
use Rattle.transition_table.specs.declared.network.Network.{Network}
use Rattle.journals.specs.declared.entry.TraceItem.{TraceItem}
use Rattle.journals.specs.declared.stamped.CoreStep.{CoreStep}
use Rattle.journals.specs.declared.stamped.CoreStep.TheVariants.{React, Land, Free, Feed}
use Rattle.worker_core.specs.Cores.{CoreState, hand_of, land, free, take_step}
use Rattle.worker_core.specs.Facts.{IsCore}
use Rattle.worker_core.specs.Running.{CoreMoment}
use Rattle.worker_core.specs.inner.Turns.{IsStill}
use Rattle.worker_core.proofs.AreParts.{may_react_inside}
use Rattle.worker_core.proofs.IsCore.{some_when}

none_by : (old new : CoreMoment) (o : Option CoreState) (taken : Bool) → taken ≡ is_some o
    → new ≡ record old { state = unwrap_or o old.state } → taken ≡ false → (o ≡ None) × (new ≡ old)
none_by old new None taken says is left = (refl, is)
none_by old new (Some next) taken says is left = absurd (false≢true (sym left ∙ says))

pub not_taken : (old new : CoreMoment) (step : CoreStep) (taken : Bool)
    → taken ≡ is_some (take_step old.net old.state step)
    → new ≡ record old { state = unwrap_or (take_step old.net old.state step) old.state }
    → taken ≡ false → (take_step old.net old.state step ≡ None) × (new ≡ old)
not_taken old new step taken says is left =
    none_by old new (take_step old.net old.state step) taken says is left

-- no step of a machine that isn't of the network can be taken
pub still_past : (net : Network) (trace : List TraceItem) (state : CoreState) (m : ℕ)
    → IsCore net trace state → length net.machines ≤ m → IsStill net state m
still_past net trace state m core past =
    let many = core.hands in
    let none : hand_of state m ≡ None = get_or_past state.hands m None (omega arith) in
    record {
      land = ap (land state m) none;
      free = ap (free state m) none;
      react = never (take_step net state (React m)) refl;
    }
  where
    never : (o : Option CoreState) → take_step net state (React m) ≡ o → o ≡ None
    never None e = refl
    never (Some next) e =
        absurd (let inside = may_react_inside net trace state m core
        (some_when _ _ next e).0 in omega arith)

-- where no machine has a step, and the environment has none, no step can be taken
stopped_by : (net : Network) (state : CoreState) → ((m : ℕ) → IsStill net state m)
    → take_step net state Feed ≡ None → (step : CoreStep) → take_step net state step ≡ None
stopped_by net state still fed (React m) = (still m).react
stopped_by net state still fed (Land m) = (still m).land
stopped_by net state still fed (Free m) = (still m).free
stopped_by net state still fed Feed = fed

pub turn_stops : (old mid now : CoreMoment) (first n : ℕ) → mid ≡ old → now ≡ mid
    → ((m : ℕ) → first ≤ m → m < n → IsStill old.net old.state m)
    → ((m : ℕ) → 0 ≤ m → m < first → IsStill mid.net mid.state m)
    → ((m : ℕ) → n ≤ m → IsStill old.net old.state m)
    → take_step now.net now.state Feed ≡ None
    → (step : CoreStep) → take_step old.net old.state step ≡ None
turn_stops old mid now first n same again above below past fed =
    stopped_by old.net old.state still
    (subst (λ (v : CoreMoment). take_step v.net v.state Feed ≡ None) (again ∙ same) fed)
  where
    still : (m : ℕ) → IsStill old.net old.state m
    still m = elim (cases_lt m first) [
      | inl before ↦ subst (λ (v : CoreMoment). IsStill v.net v.state m) same
          (below m (omega arith) before)
      | inr after ↦ elim (cases_lt m n) [
        | inl inside ↦ above m after inside
        | inr outside ↦ past m outside
      ]
    ]

pub turn_still : (core now : CoreMoment) (from m : ℕ) → now ≡ core
    → ((k : ℕ) → from ≤ k → k < m → IsStill core.net core.state k) → IsStill now.net now.state m
    → (k : ℕ) → from ≤ k → k < m + 1 → IsStill core.net core.state k
turn_still core now from m same still here k above below =
    elim (cases_lt k m) [
      | inl before ↦ still k above before
      | inr past ↦
          let is : m ≡ k = omega arith in
          subst (IsStill core.net core.state) is
          (subst (λ (v : CoreMoment). IsStill v.net v.state m) same here)
    ]
