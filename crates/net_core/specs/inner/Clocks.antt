-- What is kept while stamps are made or judged.
use Rattle.std.specs.Prelude.{◌≡◌, ℕ, ◌+◌, ◌<◌, ◌≤◌, max, cond, List, [], ◌∷◌, ◌++◌, map, filter, flat_map, length, drop, get_or, set, ⊤}
use Rattle.polis_base.specs.Lists.{upto}
use Rattle.transition_table.specs.declared.decl.Party.TheVariants.{Env, Machine as Sender}
use Rattle.transition_table.specs.declared.network.Network.{Network}
use Rattle.journals.specs.declared.entry.Entry.{Entry}
use Rattle.journals.specs.declared.entry.Entry.TheVariants.{Dep, Rea}
use Rattle.journals.specs.Journals.{IsJournal, is_firing_of, delivered}
use Rattle.net_core.specs.declared.clocks.Cursor.{Cursor}
use Rattle.net_core.specs.declared.clocks.Clocks.{Clocks}
use Rattle.journals.specs.Stamps.{greatest, stamps_at, once_each, stamps_sent, stamps_owed}
use Rattle.journals.specs.declared.stamped.Stamped.{Stamped}
use Rattle.journals.specs.Logs.{entries, stamped}

-- the firings of s with their stamps
abbrev pub firings_of : List Stamped → ℕ → List Stamped
firings_of done s = filter (λ p. is_firing_of s p.entry) done

-- the cursor of s at m
abbrev pub cursor_at : List (List Cursor) → ℕ → ℕ → Cursor
cursor_at cursors s m = get_or (get_or cursors s []) m (record { firing = 0; taken = 0 })

abbrev pub with_cursor : List (List Cursor) → ℕ → ℕ → Cursor → List (List Cursor)
with_cursor cursors s m cursor = set cursors s (set (get_or cursors s []) m cursor)

-- what the firings from the cursor's on give to m, but for what is taken of it
abbrev pub left : Network → ℕ → List Stamped → Cursor → List ℕ
left net m firings cursor =
    drop cursor.taken (flat_map (once_each net m) (drop cursor.firing firings))

-- the cursor of s at m stands where the first of what s owes to m is
pub record IsCursor (net : Network) (done : List Stamped) (s m : ℕ) (cursor : Cursor) : Type 0 where
  pub within : cursor.firing ≤ length (firings_of done s)
  pub given : cursor.taken
      ≤ length (flat_map (once_each net m) (drop cursor.firing (firings_of done s)))
  pub few : cursor.taken ≤ length done
  pub left_is : left net m (firings_of done s) cursor ≡ stamps_owed net s m done

-- the clock of each machine, the firings of each, and for each two machines a cursor
pub record AreClocks (net : Network) (done : List Stamped) (c : Clocks) : Type 0 where
  pub fitting : IsJournal net (entries done)
  pub clocks_are : c.clocks ≡ map (λ m. greatest (stamps_at m done)) (upto (length net.machines))
  pub firings_are : c.firings ≡ map (firings_of done) (upto (length net.machines))
  pub rows : length c.cursors ≡ length net.machines
  pub columns : (s : ℕ) → s < length net.machines
      → length (get_or c.cursors s []) ≡ length net.machines
  pub cursors_are : (s m : ℕ) → s < length net.machines → m < length net.machines
      → IsCursor net done s m (cursor_at c.cursors s m)

-- the greatest number of the machine
abbrev pub most : ℕ
most = 18446744073709551615

-- these are the clocks after some entries
abbrev pub HasClocks : Network → Clocks → Type 0
HasClocks net c = (done : List Stamped) × AreClocks net done c × (length done < most)

-- no more is delivered than was sent
abbrev pub IsBacked : Network → List Stamped → Type 0
IsBacked net done = (s m : ℕ) → length (delivered (Sender s) m (entries done))
    ≤ length (stamps_sent net s m done)

-- the entry raises its machine's clock
abbrev pub clocks_after : ℕ → ℕ → List ℕ → List ℕ
clocks_after m stamp clocks = set clocks m (max (get_or clocks m 0) stamp)

abbrev pub one_taken : Cursor → Cursor
one_taken cursor = record { firing = cursor.firing; taken = cursor.taken + 1 }

-- where the entry is a delivery from a machine, there is a cursor for it
abbrev pub HasCursor : Entry → List (List Cursor) → Type 0
HasCursor (Dep (Sender s) m event code) cursors =
    (s < length cursors) × (m < length (get_or cursors s []))
    × ((cursor_at cursors s m).taken < most)
HasCursor (Dep Env m event code) cursors = ⊤
HasCursor (Rea m s o) cursors = ⊤

-- a delivery from a machine takes one from what is left for its receiver
abbrev pub cursors_moved : Entry → List (List Cursor) → List (List Cursor)
cursors_moved (Dep (Sender s) m event code) cursors =
    with_cursor cursors s m (one_taken (cursor_at cursors s m))
cursors_moved (Dep Env m event code) cursors = cursors
cursors_moved (Rea m s o) cursors = cursors

-- a firing stands after those of its machine
abbrev pub firings_after : Entry → ℕ → List (List Stamped) → List (List Stamped)
firings_after (Dep s m event code) stamp firings = firings
firings_after (Rea m s o) stamp firings =
    cond o.fires (set firings m (get_or firings m [] ++ stamped stamp (Rea m s o) ∷ [])) firings
