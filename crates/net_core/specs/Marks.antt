-- The items of a trace that a machine reads, by the bits of the events' readers.
use Rattle.std.specs.Prelude.{ℕ, Bool, false, ◌&&◌, ◌==◌, nat_lt, List, length, get_or}
use Rattle.std.specs.Int.{bit_at}
use Rattle.journals.specs.declared.entry.TraceItem.{TraceItem}
use Rattle.journals.specs.declared.entry.TraceItem.TheVariants.{Event, Settle}

-- the item is an event among whose readers is m
abbrev pub is_marked : List ℕ → ℕ → TraceItem → Bool
is_marked sets m Settle = false
is_marked sets m (Event e code) = nat_lt e (length sets) && bit_at (get_or sets e 0) m == 1
