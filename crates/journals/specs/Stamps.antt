-- The stamps of a journal's entries: which may stand, and which are least.
use Rattle.std.specs.Prelude.{ℕ, suc, ◌+◌, ◌<◌, max, Bool, true, false, ◌&&◌, nat_lt, nat_le, List, [], ◌∷◌, ◌++◌, filter, flat_map, length, take, drop, replicate, Option, Some, None, IsTrue, ◌≤◌, slice_get, IsSomeAnd}
use Rattle.std.specs.List.{list_all}
use Rattle.transition_table.specs.declared.decl.Party.TheVariants.{Env, Machine as Sender}
use Rattle.transition_table.specs.declared.network.Network.{Network}
use Rattle.journals.specs.declared.entry.Entry.{Entry}
use Rattle.journals.specs.declared.entry.Entry.TheVariants.{Dep, Rea}
use Rattle.journals.specs.declared.entry.TraceItem.{TraceItem}
use Rattle.journals.specs.declared.stamped.Stamped.{Stamped}
use Rattle.journals.specs.Journals.{reads, is_firing_of, emissions, delivered, sent}
use Rattle.journals.specs.Logs.{entries, max_stamp, of_machine, stamped, stamps as stamps_of}
use Rattle.journals.specs.Moved.{machine_of}

-- the greatest of these numbers, or 0 where there are none
abbrev pub greatest : List ℕ → ℕ
greatest [] = 0
greatest (n ∷ ns) = max n (greatest ns)

-- the stamps of the entries that stand at m
abbrev pub stamps_at : ℕ → List Stamped → List ℕ
stamps_at m before = stamps_of (filter (λ x. of_machine m x.entry) before)

-- the stamp, once for each emission of the entry that m reads
abbrev pub once_each : Network → ℕ → Stamped → List ℕ
once_each net m x =
    replicate (length (filter (λ e. reads net m e.0) (emissions net x.entry))) x.stamp

-- the stamps of what s has sent to m, in order: of each emission that of its firing
abbrev pub stamps_sent : Network → ℕ → ℕ → List Stamped → List ℕ
stamps_sent net s m before =
    flat_map (once_each net m) (filter (λ x. is_firing_of s x.entry) before)

-- of these the stamps of what isn't delivered yet
abbrev pub stamps_owed : Network → ℕ → ℕ → List Stamped → List ℕ
stamps_owed net s m before =
    drop (length (delivered (Sender s) m (entries before))) (stamps_sent net s m before)

-- The stamp of the entry's origin, if it is a delivery from a machine: of the i-th delivery from s
-- to m the origin is the firing
-- of s that has its i-th emission to m. So the delivery is of the first of what isn't delivered
-- yet.
abbrev pub origin : Network → List Stamped → Entry → List ℕ
origin net before (Dep (Sender s) m event code) = take 1 (stamps_owed net s m before)
origin net before (Dep Env m event code) = []
origin net before (Rea m s o) = []

-- The place q of the origin of the delivery from s to m at p: it is a firing of s before p, and of
-- its emissions to m one has as
-- many emissions of s to m before it as deliveries from s to m stand before p.
pub record IsOrigin (net : Network) (trace : List TraceItem) (journal : List Entry)
    (p s m q : ℕ) : Type 0 where
  pub before : q < p
  pub firing : IsSomeAnd (slice_get journal q) (λ entry. IsTrue (is_firing_of s entry))
  pub from :
      length (sent net trace (Sender s) m (take q journal))
      ≤ length (delivered (Sender s) m (take p journal))
  pub below :
      length (delivered (Sender s) m (take p journal))
      < length (sent net trace (Sender s) m (take (q + 1) journal))

-- the stamps above which the entry's stands: those of the earlier entries at its machine, and that
-- of its origin
abbrev pub stamps_below : Network → List Stamped → Entry → List ℕ
stamps_below net before entry = stamps_at (machine_of entry) before ++ origin net before entry

-- a stamp, and above each of these
abbrev pub is_above : List ℕ → ℕ → Bool
is_above below stamp =
    nat_le 1 stamp && nat_le stamp max_stamp && list_all (λ t. nat_lt t stamp) below

abbrev pub rises_after : Network → List Stamped → List Entry → List ℕ → Bool
rises_after net before [] [] = true
rises_after net before [] (t ∷ ts) = false
rises_after net before (entry ∷ journal) [] = false
rises_after net before (entry ∷ journal) (t ∷ ts) =
    is_above (stamps_below net before entry) t
    && rises_after net (before ++ stamped t entry ∷ []) journal ts

-- each entry has one stamp, from 1 to the greatest, above those of the earlier entries at its
-- machine and above that of its origin
abbrev pub Rising : Network → List Entry → List ℕ → Type 0
Rising net journal ts = IsTrue (rises_after net [] journal ts)

-- one above the greatest of those below it, or 1 where there are none
abbrev pub least_stamp : Network → List Stamped → Entry → ℕ
least_stamp net before entry = suc (greatest (stamps_below net before entry))

abbrev pub least_after : Network → List Stamped → List Entry → List ℕ
least_after net before [] = []
least_after net before (entry ∷ journal) =
    least_stamp net before entry
    ∷ least_after net (before ++ stamped (least_stamp net before entry) entry ∷ []) journal

-- the least stamps
abbrev pub least : Network → List Entry → List ℕ
least net journal = least_after net [] journal

-- the least place up to which the stamps aren't Rising, or None where all are
abbrev pub IsFirstNotRising : Network → List Entry → List ℕ → Option ℕ → Type 0
IsFirstNotRising net journal ts None = Rising net journal ts
IsFirstNotRising net journal ts (Some p) =
    (p < length journal)
    × Rising net (take p journal) (take p ts)
    × (Rising net (take (p + 1) journal) (take (p + 1) ts) → ⊥)
