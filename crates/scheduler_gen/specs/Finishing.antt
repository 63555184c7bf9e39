-- A run that was carried on as far as it goes.
use Rattle.std.specs.Prelude.{◌≡◌, ◌⊎◌, ◌↔◌, ◌≤◌, ℕ, Bool, List, [], length, IsTrue}
use Rattle.polis_base.specs.Lists.{Begins}
use Rattle.journals.specs.declared.entry.Entry.{Entry}
use Rattle.journals.specs.declared.entry.Pick.TheVariants.{Stop}
use Rattle.journals.specs.Legality.{Legal, Complete}
use Rattle.journals.specs.Schedules.{pick, Follows, IsSchedule}
use Rattle.net_core.specs.Moments.{Moment}

-- From a moment on each further entry is what is picked after those before it, up to the limit of
-- entries or until nothing is picked; and whether the journal is complete.
pub record IsFinished (start : Moment) (limit : ℕ) (journal : List Entry) (answer : Bool)
    : Type 0 where
  pub begins : Begins start.journal journal
  pub follows : Follows start.net start.trace journal (length start.journal)
  pub legal : Legal start.net start.trace journal
  pub within : length journal ≤ limit
  pub ends : (pick start.net start.trace journal ≡ Stop) ⊎ (length journal ≡ limit)
  pub complete : IsTrue answer ↔ Complete start.net start.trace journal
  pub schedule : start.journal ≡ [] → IsSchedule start.net start.trace limit journal
