-- Laws of accounts.
use Rattle.std.specs.Prelude.{◌≡◌, ℕ, ◌+◌, Bool, cond, ◌==◌, List, ◌∷◌, ◌++◌, sum, map, IsTrue}
use Rattle.std.specs.List.{list_all}
use Rattle.transition_table.specs.declared.network.Network.{Network}
use Rattle.transition_table.specs.declared.snapshot.Outcome.{Outcome}
use Rattle.transition_table.specs.declared.snapshot.Snapshot.{Snapshot}
use Rattle.journals.specs.declared.entry.Entry.{Entry}
use Rattle.journals.specs.declared.entry.Entry.TheVariants.{Rea}
use Rattle.journals.specs.declared.entry.TraceItem.{TraceItem}
use Rattle.journals.specs.Journals.{IsJournal, snap}
use Rattle.journals.specs.Legality.{Legal}
use Rattle.journals.specs.Outputs.{lost}
use Rattle.event_accounts.specs.Accounts.{accounts_of}
use Rattle.event_accounts.specs.declared.account.Account.{Account}

-- each reaction reads the snapshot of its moment
abbrev pub ReadsMoments : Network → List Entry → Type 0
ReadsMoments net journal =
    (before after : List Entry) (m : ℕ) (s : Snapshot) (o : Outcome)
    → journal ≡ before ++ Rea m s o ∷ after
    → s ≡ snap net before m

-- each delivery was read, lost, or is left
abbrev pub balances : Account → Bool
balances a = a.delivered == a.read + a.lost + cond a.left 1 0

-- so it is in each buffer of a journal whose reactions read the snapshots of their moments
abbrev pub AccountsBalance : Type 0
AccountsBalance =
    (net : Network) (journal : List Entry)
    → IsJournal net journal
    → ReadsMoments net journal
    → IsTrue (list_all balances (accounts_of net journal))

-- the reactions of a legal journal do
abbrev pub LegalReadsMoments : Type 0
LegalReadsMoments =
    (net : Network) (trace : List TraceItem) (journal : List Entry)
    → Legal net trace journal
    → ReadsMoments net journal

-- so in a legal journal each delivery was read, lost, or is left
abbrev pub LegalBalances : Type 0
LegalBalances =
    (net : Network) (trace : List TraceItem) (journal : List Entry)
    → Legal net trace journal
    → IsTrue (list_all balances (accounts_of net journal))

-- what was lost in all buffers is what the journal lost
abbrev pub AllLossesCounted : Type 0
AllLossesCounted =
    (net : Network) (journal : List Entry)
    → sum (map (λ a. a.lost) (accounts_of net journal)) ≡ lost net journal

-- what follows from the definitions
pub record AccountLaws : Type 0 where
  pub balance : AccountsBalance
  pub moments : LegalReadsMoments
  pub legal : LegalBalances
  pub losses : AllLossesCounted
