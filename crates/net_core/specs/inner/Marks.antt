-- The items of a trace that a machine reads, by the bits of the events' readers.
use Rattle.std.specs.Prelude.{ℕ, ◌+◌, Bool, true, cond, not, ◌&&◌, nat_lt, List, length, drop, slice_index, slice_set}
use Rattle.std.specs.List.{prefix_len}
use Rattle.transition_table.specs.declared.decl.Party.TheVariants.{Env, Machine as Sender}
use Rattle.journals.specs.declared.entry.Entry.{Entry}
use Rattle.journals.specs.declared.entry.Entry.TheVariants.{Dep, Rea}
use Rattle.journals.specs.declared.entry.TraceItem.{TraceItem}
use Rattle.net_core.specs.Marks.{is_marked}

-- after this place the next such item, or the trace's length, where a cursor stays
abbrev pub next_marked : List ℕ → List TraceItem → ℕ → ℕ → ℕ
next_marked sets trace m place =
    cond (nat_lt place (length trace))
    (place + 1 + prefix_len (λ item. not (is_marked sets m item)) (drop (place + 1) trace)) place

-- a delivery of the environment moves its receiver's cursor on
abbrev pub marked_after : List ℕ → List TraceItem → Entry → List ℕ → List ℕ
marked_after sets trace (Dep Env m event code) cursors =
    slice_set cursors m (next_marked sets trace m (slice_index cursors m))
marked_after sets trace (Dep (Sender s) m event code) cursors = cursors
marked_after sets trace (Rea m s o) cursors = cursors

-- a delivery is between machines below n
abbrev pub lands_below : ℕ → Entry → Bool
lands_below n (Dep Env m event code) = nat_lt m n
lands_below n (Dep (Sender s) m event code) = nat_lt s n && nat_lt m n
lands_below n (Rea m s o) = true
