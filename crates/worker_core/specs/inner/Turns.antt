-- One step of a core that is left to itself.
use Rattle.std.specs.Prelude.{◌≡◌, ℕ, Bool, true, false, Option, Some, None}
use Rattle.transition_table.specs.declared.network.Network.{Network}
use Rattle.journals.specs.declared.stamped.CoreStep.{CoreStep}
use Rattle.journals.specs.declared.stamped.CoreStep.TheVariants.{React, Land, Free, Feed}
use Rattle.worker_core.specs.Cores.{CoreState, take_step}
use Rattle.worker_core.specs.Running.{CoreMoment}

-- the step was taken, or nothing has changed
abbrev pub Took : CoreMoment → CoreMoment → Option CoreStep → Type 0
Took old new None = new ≡ old
Took old new (Some step) =
    (take_step old.net old.state step ≡ Some new.state) × (new ≡ record old { state = new.state })

-- no step of the machine can be taken
pub record IsStill (net : Network) (state : CoreState) (m : ℕ) : Type 0 where
  pub land : take_step net state (Land m) ≡ None
  pub free : take_step net state (Free m) ≡ None
  pub react : take_step net state (React m) ≡ None

-- no step can be taken
abbrev pub IsStopped : CoreMoment → Type 0
IsStopped core = (step : CoreStep) → take_step core.net core.state step ≡ None

-- a freeing adds no entry, and each other step adds one
abbrev pub adds_entry : CoreStep → Bool
adds_entry (React m) = true
adds_entry (Land m) = true
adds_entry (Free m) = false
adds_entry Feed = true
