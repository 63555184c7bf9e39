-- A run that is drawn on from a moment.
use Rattle.std.specs.Prelude.{◌≡◌, ℕ, [], ◌∷◌, ◌++◌}
use Rattle.journals.specs.declared.entry.Entry.{Entry}
use Rattle.journals.specs.Schedules.{IsPicked}
use Rattle.net_core.specs.Moments.{Moment}
use Rattle.run_shuffle.specs.declared.order.RunOrder.{RunOrder}
use Rattle.run_shuffle.specs.Moves.{IsOneOf}
use Rattle.run_shuffle.specs.Orders.{offered}
use Rattle.run_shuffle.specs.Shuffles.{drawn}

-- one more entry, which is that of the move that a draw from x gives
abbrev pub IsNext : RunOrder → ℕ → ℕ → Moment → Moment → Type 0
IsNext order pace x old new =
    (entry : Entry) × (new ≡ record old { journal = old.journal ++ entry ∷ [] })
    × IsPicked old.net old.journal (drawn old.net old.trace order pace x old.journal) entry

-- the entry is that of a move that the order offers
abbrev pub IsOffered : RunOrder → Moment → Entry → Type 0
IsOffered order old entry =
    IsOneOf old.net old.journal (offered order old.net old.trace old.journal) entry

-- the entry is put at the end
abbrev pub IsTaken : Entry → Moment → Moment → Type 0
IsTaken entry old new = new ≡ record old { journal = old.journal ++ entry ∷ [] }
