-- By which event an event of the network is heard, by a list.
use Rattle.std.specs.Prelude.{ℕ, List, slice_get, Option, None, unwrap_or}

-- what stands under a number
abbrev pub looked_up : List (Option ℕ) → ℕ → Option ℕ
looked_up events e = unwrap_or (slice_get events e) None
