-- What is picked where no delivery is ready.
use Rattle.std.specs.Prelude.{ℕ, Option, Some, None}
use Rattle.journals.specs.declared.entry.Pick.{Pick}
use Rattle.journals.specs.declared.entry.Pick.TheVariants.{React}

-- the reaction of the machine, or this where there is none
abbrev pub reaction_or : Option ℕ → Pick → Pick
reaction_or None other = other
reaction_or (Some m) other = React m
