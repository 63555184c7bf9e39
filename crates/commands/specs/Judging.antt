-- What commands that judge a journal make of it.
use Rattle.std.specs.Prelude.{◌≡◌, ◌⊎◌, ◌↔◌, ℕ, Bool, true, List, Option, IsTrue}
use Rattle.polis_base.specs.Host.{Files}
use Rattle.transition_table.specs.declared.network.Network.{Network}
use Rattle.journals.specs.declared.entry.Entry.{Entry}
use Rattle.journals.specs.declared.entry.TraceItem.{TraceItem}
use Rattle.journals.specs.Legality.{Complete}
use Rattle.polis_words.specs.declared.cause.Cause.{Cause}
use Rattle.polis_words.specs.Replay.{ReplayWords}
use Rattle.output_files.specs.declared.product.Product.{Product}
use Rattle.input_files.specs.Inputs.{HoldsNet, HoldsTrace, InputsFail}
use Rattle.input_files.specs.JournalFiles.{HoldsJournal, JournalFails, LegalAndRising}
use Rattle.commands.specs.Meanings.{Meaning, finds_illegal, ends_judged}
use Rattle.input_files.specs.Details.{explains_replay}
use Rattle.input_files.specs.declared.load.Detail.{Detail}

-- what the three files hold
pub record HoldsReplay (replay : ReplayWords) (files : Files) (net : Network)
    (trace : List TraceItem) (journal : List Entry) (stamps : Option (List ℕ)) : Type 0 where
  pub holds_net : HoldsNet files replay.net net
  pub holds_trace : HoldsTrace files replay.trace net trace
  pub holds_journal : HoldsJournal files replay.journal net journal stamps

-- The files hold a journal that is legal on the trace, with rising stamps where it has any, and
-- this is whether it is complete.
pub record IsJudged (replay : ReplayWords) (files : Files) (net : Network) (trace : List TraceItem)
    (journal : List Entry) (complete : Bool) : Type 0 where
  pub stamps : Option (List ℕ)
  pub holds : HoldsReplay replay files net trace journal stamps
  pub lawful : LegalAndRising net trace journal stamps
  pub ends : IsTrue complete ↔ Complete net trace journal

-- the files hold a legal journal, and the product is this of its network, its entries and whether it
-- is complete
pub record MakesOfJournal (of : Network → List Entry → Bool → Product) (replay : ReplayWords)
    (files : Files) (product : Product) : Type 0 where
  pub net : Network
  pub trace : List TraceItem
  pub journal : List Entry
  pub complete : Bool
  pub judged : IsJudged replay files net trace journal complete
  pub made : product ≡ of net journal complete

-- each file is held, within its limit, and accepted
abbrev pub AcceptsReplay : ReplayWords → Files → Type 0
AcceptsReplay replay files = (net : Network) × (trace : List TraceItem) × (journal : List Entry)
    × (stamps : Option (List ℕ)) × HoldsReplay replay files net trace journal stamps

-- The files are accepted, and the journal that they hold isn't legal on the trace, or it has stamps
-- and they aren't rising.
pub record IsIllegalReplay (replay : ReplayWords) (files : Files) : Type 0 where
  pub accepted : AcceptsReplay replay files
  pub unlawful : (net : Network) (trace : List TraceItem) (journal : List Entry)
      (stamps : Option (List ℕ)) → HoldsReplay replay files net trace journal stamps
      → ¬ LegalAndRising net trace journal stamps

-- Why a file of a replay fails: the network or the trace does, or both are accepted and the journal
-- does.
abbrev pub FailsReplay : ReplayWords → Files → List ℕ → Cause → Type 0
FailsReplay replay files name cause =
    InputsFail files replay.net replay.trace name cause
    ⊎ ((name ≡ replay.journal) × (net : Network) × (trace : List TraceItem)
    × HoldsNet files replay.net net × HoldsTrace files replay.trace net trace
    × ((other : Network) (items : List TraceItem) → HoldsNet files replay.net other
    → HoldsTrace files replay.trace other items
    → JournalFails files other items replay.journal cause))

-- a command that judges a journal, by how much it says of a file that is refused or of a journal
-- that isn't legal, and by what it makes of one that is
abbrev pub judging_meaning : Detail → ReplayWords → (Network → List Entry → Bool → Product)
    → Meaning
judging_meaning detail replay of = record {
  makes = MakesOfJournal of replay;
  accepts = AcceptsReplay replay;
  finds = finds_illegal (IsIllegalReplay replay);
  fails = FailsReplay replay;
  explains = explains_replay detail replay;
  ends = ends_judged;
  reads = true;
}
