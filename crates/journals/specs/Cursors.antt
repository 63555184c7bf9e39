-- For each machine its place in the trace, and what one entry more makes of it.
use Rattle.std.specs.Prelude.{ℕ, zero, suc, ◌+◌, Bool, true, false, cond, not, nat_lt, List, [], ◌∷◌, length, drop, slice_get, slice_index, slice_set, Option, Some, None}
use Rattle.std.specs.List.{prefix_len}
use Rattle.transition_table.specs.declared.decl.Party.TheVariants.{Env, Machine as Sender}
use Rattle.transition_table.specs.declared.network.Network.{Network}
use Rattle.journals.specs.declared.entry.Entry.{Entry}
use Rattle.journals.specs.declared.entry.Entry.TheVariants.{Dep, Rea}
use Rattle.journals.specs.declared.entry.TraceItem.{TraceItem}
use Rattle.journals.specs.declared.entry.TraceItem.TheVariants.{Event, Settle}
use Rattle.journals.specs.Journals.{reads, delivered}

-- the item is an event that m reads
abbrev pub is_read : Network → ℕ → TraceItem → Bool
is_read net m Settle = false
is_read net m (Event e code) = reads net m e

-- the place of the item that passes after k that pass, or the length where there is none
abbrev pub nth_place : {X : Type 0} → (X → Bool) → List X → ℕ → ℕ
nth_place p [] k = 0
nth_place p (x ∷ xs) zero = cond (p x) 0 (suc (nth_place p xs 0))
nth_place p (x ∷ xs) (suc k) = suc (nth_place p xs (cond (p x) k (suc k)))

-- the place of the next event item that m reads and that isn't delivered to it, or the trace's
-- length
abbrev pub cursor : Network → List TraceItem → List Entry → ℕ → ℕ
cursor net trace journal m = nth_place (is_read net m) trace (length (delivered Env m journal))

-- after this place the next item that m reads, or the trace's length, where a cursor stays
abbrev pub next_place : Network → List TraceItem → ℕ → ℕ → ℕ
next_place net trace m place =
    cond (nat_lt place (length trace))
    (place + 1 + prefix_len (λ item. not (is_read net m item)) (drop (place + 1) trace)) place

-- a delivery of the environment moves its receiver's cursor on
abbrev pub cursors_after : Network → List TraceItem → Entry → List ℕ → List ℕ
cursors_after net trace (Dep Env m event code) cursors =
    slice_set cursors m (next_place net trace m (slice_index cursors m))
cursors_after net trace (Dep (Sender s) m event code) cursors = cursors
cursors_after net trace (Rea m s o) cursors = cursors

abbrev pub is_settle : Option TraceItem → Bool
is_settle None = false
is_settle (Some Settle) = true
is_settle (Some (Event e code)) = false

-- the item before this place is `settle`
abbrev pub settled_at : List TraceItem → ℕ → Bool
settled_at trace zero = false
settled_at trace (suc i) = is_settle (slice_get trace i)
