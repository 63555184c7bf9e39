-- How far a journal is legal.
use Rattle.std.specs.Prelude.{◌≡◌, ◌↔◌, ℕ, ◌+◌, ◌<◌, ◌≤◌, Bool, List, length, take, slice_get, Option, Some, None, IsTrue}
use Rattle.transition_table.specs.declared.network.Network.{Network}
use Rattle.journals.specs.declared.entry.Entry.{Entry}
use Rattle.journals.specs.declared.entry.TraceItem.{TraceItem}
use Rattle.journals.specs.Legality.{Legal, Complete}
use Rattle.net_core.specs.Judging.{IsCauseAgainst}
use Rattle.net_core.specs.declared.answer.Why.{Why}

-- so many of the first entries are legal, and no more of them are
pub record IsLegalUpTo (net : Network) (trace : List TraceItem) (journal : List Entry)
    (k : ℕ) : Type 0 where
  pub within : k ≤ length journal
  pub legal : Legal net trace (take k journal)
  pub longest : k < length journal → ¬ Legal net trace (take (k + 1) journal)

-- this is the cause against the k-th entry after those before it, or none where it may follow them
abbrev pub IsReason : Network → List TraceItem → List Entry → ℕ → Option Why → Type 0
IsReason net trace journal k why =
    (entry : Entry) × (slice_get journal k ≡ Some entry)
    × IsCauseAgainst net trace (take k journal) entry why

-- so many of the first entries are legal, and complete or not, and no more of them are legal; this
-- is the cause against the next one, where there is one
pub record IsLegalPrefix (net : Network) (trace : List TraceItem) (journal : List Entry)
    (k : ℕ) (complete : Bool) (why : Option Why) : Type 0 where
  pub up_to : IsLegalUpTo net trace journal k
  pub completes : IsTrue complete ↔ Complete net trace (take k journal)
  pub reason : k < length journal → IsReason net trace journal k why
  pub no_reason : k ≡ length journal → why ≡ None

-- the longest legal prefix of at most so many entries
pub record IsAdopted (net : Network) (trace : List TraceItem) (journal : List Entry) (limit : ℕ)
    (adopted : List Entry) : Type 0 where
  pub prefix : adopted ≡ take (length adopted) journal
  pub legal : Legal net trace adopted
  pub within : length adopted ≤ limit
  pub longest :
      (k : ℕ) → k ≤ limit → Legal net trace (take k journal)
      → length (take k journal) ≤ length adopted
