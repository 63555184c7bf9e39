-- A run that goes on from a moment.
use Rattle.std.specs.Prelude.{◌≡◌, ◌⊎◌, ◌≤◌, ◌+◌, ℕ, [], ◌∷◌, ◌++◌, length}
use Rattle.polis_base.specs.Lists.{Begins}
use Rattle.journals.specs.declared.entry.Entry.{Entry}
use Rattle.journals.specs.declared.entry.Pick.TheVariants.{Stop}
use Rattle.net_core.specs.Moments.{Moment}
use Rattle.journals.specs.Schedules.{pick, IsPicked, Follows}

-- one more entry, which is what is picked
abbrev pub IsNext : Moment → Moment → Type 0
IsNext old new =
    (entry : Entry) × (new ≡ record old { journal = old.journal ++ entry ∷ [] })
    × IsPicked old.net old.journal (pick old.net old.trace old.journal) entry

-- the same journal with n more entries at most, each of which is what is picked after those before
-- it
pub record GoesOn (old new : Moment) (n : ℕ) : Type 0 where
  pub net : new.net ≡ old.net
  pub trace : new.trace ≡ old.trace
  pub begins : Begins old.journal new.journal
  pub follows : Follows old.net old.trace new.journal (length old.journal)
  pub within : length new.journal ≤ length old.journal + n

-- nothing is picked, or there are n more entries
abbrev pub Ends : Moment → Moment → ℕ → Type 0
Ends old new n = (pick old.net old.trace new.journal ≡ Stop)
    ⊎ (length new.journal ≡ length old.journal + n)
