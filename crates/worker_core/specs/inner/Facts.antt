-- What is true of the core after any steps.
use Rattle.std.specs.Prelude.{ℕ, List, count_by, is_some, Option}
use Rattle.worker_core.specs.declared.state.Hand.{Hand}

-- the number of busy machines
abbrev pub count_busy : List (Option Hand) → ℕ
count_busy hands = count_by is_some hands
