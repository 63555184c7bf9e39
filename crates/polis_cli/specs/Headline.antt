-- What a run is, and a drawn one, that ended with Done or Limit.
use Rattle.std.specs.Prelude.{◌≡◌, ◌⊎◌, ℕ, ◌≤◌, Bool, true, false, List, ◌++◌, length, Some, None, Ok, IsTrue, ⊤, codes}
use Rattle.polis_base.specs.declared.limits.TheConstants.{TEXT_MAX}
use Rattle.polis_base.specs.Host.{Files, bytes_at, Changes}
use Rattle.transition_table.specs.declared.network.Network.{Network}
use Rattle.journals.specs.declared.entry.Entry.{Entry}
use Rattle.journals.specs.declared.entry.TraceItem.{TraceItem}
use Rattle.journals.specs.Legality.{Legal, Complete}
use Rattle.trace_text.specs.Traces.{trace_of}
use Rattle.journal_text.specs.Texts.{output_text}
use Rattle.task_code.specs.Listings.{ListingText}
use Rattle.polis_words.specs.declared.status.Status.{Status}
use Rattle.polis_words.specs.declared.status.Status.TheVariants.{Done, Limit}
use Rattle.polis_words.specs.Run.{RunWords, AsksRun, out_name, journal_name, listing_name}
use Rattle.polis_words.specs.Shuffle as drawn
use Rattle.polis_words.specs.Shuffle.{ShuffleWords, AsksShuffle}
use Rattle.polis_words.specs.Texts.{drawn_text}
use Rattle.run_shuffle.specs.Shuffles.{IsShuffled}
use Rattle.commands.specs.declared.run_result.RunResult.{RunResult}
use Rattle.input_files.specs.Accepted.{Accepted}
use Rattle.output_files.specs.Ends.{is_end}
use Rattle.commands.specs.Run.{BeginsAt, Tasks, Compiled, Given, RunsTasks, run_text, saved_journal}
use Rattle.commands.specs.Shuffle.{order_of}
use Rattle.polis_cli.specs.Promise.{Outside, Answers}

-- the text is held under the name
abbrev pub IsHeld : Files → List ℕ → List ℕ → Type 0
IsHeld files name text = bytes_at files name ≡ Some text

-- How a run ends: with Done and a complete journal, whose last word says so, or with Limit and one
-- that isn't complete and has as many entries as the limit.
abbrev pub Ends : Status → ℕ → Network → List TraceItem → List Entry → Bool → Type 0
Ends Done limit net trace journal complete = (complete ≡ true) × Complete net trace journal
Ends Limit limit net trace journal complete =
    (complete ≡ false) × (length journal ≡ limit) × (¬ Complete net trace journal)
Ends other limit net trace journal complete = ⊥

-- the text is that of the network, and the trace text one of the trace of it, both within their
-- limit of length
pub record AreTexts (text trace_text : List ℕ) (net : Network) (trace : List TraceItem) :
    Type 0 where
  pub accepted : Accepted text net × (trace_of net trace_text ≡ Ok trace)
  pub texts_within : (length text ≤ TEXT_MAX) × (length trace_text ≤ TEXT_MAX)

-- What is promised of the journal of each run, and of its outputs, which are saved under the stem.
pub record SavesJournal (stem : List ℕ) (limit : ℕ) (net : Network) (trace : List TraceItem)
    (journal : List Entry) (complete : Bool) (status : Status) (now : Files) : Type 0 where
  -- 1. The journal that is saved, with its least stamps, is legal, and within the limit.
  pub legal : IsHeld now (stem ++ codes ".jnl") (saved_journal net journal complete)
      × Legal net trace journal × (length journal ≤ limit)
  -- 2. It is complete, or it is at the limit and isn't; its last word and the status say which.
  pub ends : Ends status limit net trace journal complete
  -- 3. The output that is saved is the journal's output events.
  pub outputs : IsHeld now (stem ++ codes ".out") (output_text net journal)

-- the listing of the machines that were compiled is held
abbrev pub SavesListing : RunWords → Files → Network → Tasks → Type 0
SavesListing run now net (Compiled parts) = IsHeld now (listing_name run) (ListingText net parts)
SavesListing run now net (Given code) = ⊤

-- a run saves under this name: its outputs, its journal, or the listing where it names no image
abbrev pub IsSaved : RunWords → List ℕ → Type 0
IsSaved run name = (name ≡ out_name run) ⊎ (name ≡ journal_name run)
    ⊎ ((run.image ≡ None) × (name ≡ listing_name run))

-- a drawn run saves under this name: its outputs, or its journal
abbrev pub IsSavedDrawn : ShuffleWords → List ℕ → Type 0
IsSavedDrawn shuffle name = (name ≡ drawn.out_name shuffle) ⊎ (name ≡ drawn.journal_name shuffle)

-- every name but those that are saved under holds what it held
abbrev pub KeepsOthers : (List ℕ → Type 0) → Files → Files → Type 0
KeepsOthers IsName before now =
    (name : List ℕ) → ¬ IsName name → bytes_at now name ≡ bytes_at before name

-- the counts of faults are as they were
abbrev pub CountsNoFault : Outside → Outside → Type 0
CountsNoFault old new =
    (new.load_faults ≡ old.load_faults) × (new.write_faults ≡ old.write_faults)

-- These are texts of a network and of a trace of it. What was run of them, and the tasks by which
-- it was, are such that:
pub record Headline (run : RunWords) (text trace_text : List ℕ) (status : Status)
    (before now : Files) (old new : Outside) : Type 0 where
  pub net : Network
  pub trace : List TraceItem
  pub ran : RunResult
  pub tasks : Tasks
  pub texts : AreTexts text trace_text net trace
  -- 1 to 3. The journal and the outputs are saved.
  pub saves : SavesJournal run.stem run.limit net trace ran.journal ran.complete status now
  -- 4. Each machine was compiled rightly, and the listing of these is saved; or each code of the
  -- image that is named computes its machine.
  pub tasks_are : RunsTasks run.image before net tasks × SavesListing run now net tasks
  -- 5. Of several workers' entries the first were adopted, and from there on the journal is the
  -- scheduler's; with one worker all of it is. The summary was shown.
  pub begins : BeginsAt run.workers run.limit net trace ran
      × Changes old.shown new.shown (λ was is. is ≡ was ++ run_text net tasks ran)
  -- 6. Every other name holds what it held, and no fault was counted.
  pub others : KeepsOthers (IsSaved run) before now × CountsNoFault old new

-- What a drawn run is that ended so: 1 to 3 and 6 are said of it too.
pub record DrawnHeadline (shuffle : ShuffleWords) (text trace_text : List ℕ) (status : Status)
    (before now : Files) (old new : Outside) : Type 0 where
  pub net : Network
  pub trace : List TraceItem
  pub journal : List Entry
  pub complete : Bool
  pub texts : AreTexts text trace_text net trace
  pub saves : SavesJournal shuffle.stem shuffle.limit net trace journal complete status now
  -- The journal is the one that is drawn from the seed. How long it is, and what was lost in it,
  -- was shown.
  pub shuffled : IsShuffled net trace shuffle.seed (order_of shuffle.order) shuffle.limit journal
  pub shown : Changes old.shown new.shown (λ was is. is ≡ was ++ drawn_text net journal complete)
  pub others : KeepsOthers (IsSavedDrawn shuffle) before now × CountsNoFault old new

-- what is so of the texts that the files hold under these names
abbrev pub OfTexts : Files → List ℕ → List ℕ → (List ℕ → List ℕ → Type 0) → Type 0
OfTexts files net_name trace_name P =
    (text : List ℕ) × (trace_text : List ℕ) × IsHeld files net_name text
    × IsHeld files trace_name trace_text × P text trace_text

-- A call that asks for a run, and that ends with Done or Limit, gives it, where its host tells the
-- files.
abbrev pub RunsGiveHeadline : Type 0
RunsGiveHeadline =
    (run : RunWords) (words : List (List ℕ)) (status : Status) (before now : Files)
    (old new : Outside) → AsksRun words run → IsTrue (is_end status)
    → Answers status words old new → old.files ≡ Some before → new.files ≡ Some now
    → OfTexts before run.net run.trace
    (λ text trace_text. Headline run text trace_text status before now old new)

-- and so of one that asks for a drawn run
abbrev pub DrawsGiveHeadline : Type 0
DrawsGiveHeadline =
    (shuffle : ShuffleWords) (words : List (List ℕ)) (status : Status) (before now : Files)
    (old new : Outside) → AsksShuffle words shuffle → IsTrue (is_end status)
    → Answers status words old new → old.files ≡ Some before → new.files ≡ Some now
    → OfTexts before shuffle.net shuffle.trace
    (λ text trace_text. DrawnHeadline shuffle text trace_text status before now old new)
