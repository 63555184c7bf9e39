-- What `run` makes.
use Rattle.std.specs.Prelude.{◌≡◌, ◌⊎◌, ◌↔◌, ℕ, ◌≤◌, ◌<◌, ◌/◌, Bool, true, false, List, [], ◌∷◌, ◌++◌, length, Option, Some, None, IsTrue, ⊤}
use Rattle.polis_base.specs.declared.limits.TheConstants.{ENTRIES_MAX}
use Rattle.polis_base.specs.Host.{Files}
use Rattle.transition_table.specs.declared.network.Network.{Network}
use Rattle.journals.specs.declared.entry.Entry.{Entry}
use Rattle.journals.specs.declared.entry.TraceItem.{TraceItem}
use Rattle.journals.specs.Legality.{Legal, Complete}
use Rattle.journals.specs.Schedules.{IsSchedule, Follows}
use Rattle.journals.specs.Stamps.{least}
use Rattle.journal_text.specs.Texts.{stamped_journal_text, output_text}
use Rattle.task_code.specs.declared.instr.Instr.{Instr}
use Rattle.task_code.specs.Listings.{Part, ListingText}
use Rattle.machine_compiler.specs.Parts.{AreRightParts}
use Rattle.machine_compiler.specs.Lines.{tries_text, code_tries_text}
use Rattle.task_image.specs.declared.image.ImageMachine.{ImageMachine}
use Rattle.task_image.specs.Images.{codes_of}
use Rattle.polis_words.specs.declared.cause.Cause.{Cause}
use Rattle.polis_words.specs.declared.status.Status.{Status}
use Rattle.polis_words.specs.declared.status.Status.TheVariants.{Done, Limit}
use Rattle.polis_words.specs.Run.{RunWords, out_name, journal_name, listing_name}
use Rattle.polis_words.specs.Texts.{summary_text}
use Rattle.output_files.specs.declared.product.End.{End}
use Rattle.output_files.specs.declared.product.End.TheVariants as ends
use Rattle.output_files.specs.declared.product.Product.{Product}
use Rattle.commands.specs.declared.run_result.RunResult.{RunResult}
use Rattle.commands.specs.ImageFiles.{HoldsImage, ImageFails}
use Rattle.output_files.specs.Saves.{Save}
use Rattle.input_files.specs.Inputs.{HoldsNet, HoldsTrace, InputsFail}
use Rattle.commands.specs.Meanings.{Meaning, finds_nothing}
use Rattle.input_files.specs.Failures.{explains_nothing}

-- Where the scheduler began. One worker gathers nothing. Of several workers so many entries were
-- gathered, of which the first were adopted: at least the share of one worker in the limit, or all
-- of a complete journal. From there on each entry is what the scheduler picks.
pub record BeginsAt (workers limit : ℕ) (net : Network) (trace : List TraceItem) (ran : RunResult) :
    Type 0 where
  pub gathered_few : ran.gathered ≤ limit
  pub adopted_few : ran.adopted ≤ ran.gathered
  pub adopted_first : ran.adopted ≤ length ran.journal
  pub alone : workers ≡ 1 → ran.gathered ≡ 0
  pub enough : 1 < workers → (limit / workers ≤ ran.adopted)
      ⊎ ((length ran.journal ≡ ran.adopted) × Complete net trace ran.journal)
  pub follows : Follows net trace ran.journal ran.adopted

-- What is so of each journal that is run within a limit: it is legal, and this is whether it is
-- complete; where it isn't it has as many entries as the limit.
pub record IsWithin (limit : ℕ) (net : Network) (trace : List TraceItem) (journal : List Entry)
    (complete : Bool) : Type 0 where
  pub within : length journal ≤ limit
  pub legal : Legal net trace journal
  pub ends : IsTrue complete ↔ Complete net trace journal
  pub limited : complete ≡ false → length journal ≡ limit

-- what was run within a limit, and where the scheduler began
pub record IsRan (workers limit : ℕ) (net : Network) (trace : List TraceItem) (ran : RunResult) :
    Type 0 where
  pub is : IsWithin limit net trace ran.journal ran.complete
  pub begins : BeginsAt workers limit net trace ran

-- What one worker runs is the scheduler's journal.
abbrev pub AloneIsScheduled : Type 0
AloneIsScheduled = (limit : ℕ) (net : Network) (trace : List TraceItem) (ran : RunResult)
    → IsRan 1 limit net trace ran → IsSchedule net trace limit ran.journal

-- the text of a journal with its least stamps, and whether it is complete
abbrev pub saved_journal : Network → List Entry → Bool → List ℕ
saved_journal net journal complete =
    stamped_journal_text net journal (least net journal) complete

abbrev pub journal_of : Network → RunResult → List ℕ
journal_of net ran = saved_journal net ran.journal ran.complete

-- the code that a run executes: that of machines which were compiled, or that of an image
pub data Tasks : Type 0 where
  Compiled : List Part → Tasks
  Given : List (List Instr) → Tasks

-- Where the run names no image the machines were compiled rightly. Else the file of that name holds
-- an image of this code, which gives each machine's transition.
abbrev pub RunsTasks : Option (List ℕ) → Files → Network → Tasks → Type 0
RunsTasks None files net (Compiled parts) = AreRightParts net parts
RunsTasks None files net (Given code) = ⊥
RunsTasks (Some name) files net (Compiled parts) = ⊥
RunsTasks (Some name) files net (Given code) =
    (image : List ImageMachine) × HoldsImage files name net image × (code ≡ codes_of image)

-- for each machine how long its code is, how often it was tried, and how many instructions that
-- took; of one that was compiled also how many vertices its graph has
abbrev pub tasks_text : Network → Tasks → RunResult → List ℕ
tasks_text net (Compiled parts) ran = tries_text net parts ran.journal
tasks_text net (Given code) ran = code_tries_text net code ran.journal

-- the listing of machines that were compiled; an image has none
abbrev pub listing_of : Network → Tasks → Option (List ℕ)
listing_of net (Compiled parts) = Some (ListingText net parts)
listing_of net (Given code) = None

-- what is shown of a run: its summary, and a line for each machine
abbrev pub run_text : Network → Tasks → RunResult → List ℕ
run_text net tasks ran =
    summary_text net ran.journal ran.complete ran.gathered ran.adopted ++ tasks_text net tasks ran

-- how a call ends with a journal that is complete, or with one that isn't
abbrev pub end_of : Bool → End
end_of true = ends.Done
end_of false = ends.Limit

-- the listing, where there is one
abbrev pub listing_saves : RunWords → Option (List ℕ) → List Save
listing_saves run None = []
listing_saves run (Some listing) = record { name = listing_name run; text = listing } ∷ []

-- the product saves the outputs, the journal, and the listing where there is one, and shows the run
abbrev pub run_product : RunWords → Network → RunResult → Tasks → Product
run_product run net ran tasks = record {
  saves = record { name = out_name run; text = output_text net ran.journal }
      ∷ record { name = journal_name run; text = journal_of net ran }
      ∷ listing_saves run (listing_of net tasks);
  shown = run_text net tasks ran;
  end = end_of ran.complete;
}

-- The files hold a network and a trace that are accepted, and the image where the run names one;
-- this was run of them, by these tasks, and the product is that of the run.
pub record MakesRun (run : RunWords) (files : Files) (product : Product) : Type 0 where
  pub net : Network
  pub trace : List TraceItem
  pub holds_net : HoldsNet files run.net net
  pub holds_trace : HoldsTrace files run.trace net trace
  pub ran : RunResult
  pub is_ran : IsRan run.workers run.limit net trace ran
  pub tasks : Tasks
  pub are_tasks : RunsTasks run.image files net tasks
  pub made : product ≡ run_product run net ran tasks

-- the image is held, within its limit, and accepted, where one is named
abbrev pub AcceptsImage : Option (List ℕ) → Files → Network → Type 0
AcceptsImage None files net = ⊤
AcceptsImage (Some name) files net =
    (image : List ImageMachine) × HoldsImage files name net image

-- each file is held, within its limit, and accepted
pub record AcceptsRun (run : RunWords) (files : Files) : Type 0 where
  pub net : Network
  pub trace : List TraceItem
  pub holds_net : HoldsNet files run.net net
  pub holds_trace : HoldsTrace files run.trace net trace
  pub image : AcceptsImage run.image files net

-- the image is named so and fails, the network and the trace being accepted
pub record ImageOfRunFails (run : RunWords) (files : Files) (name : List ℕ) (cause : Cause) :
    Type 0 where
  pub named : run.image ≡ Some name
  pub net : Network
  pub trace : List TraceItem
  pub holds_net : HoldsNet files run.net net
  pub holds_trace : HoldsTrace files run.trace net trace
  pub fails : (other : Network) → HoldsNet files run.net other
      → ImageFails files other name cause

-- Why a file of a run fails: the network or the trace does, or both are accepted and the image does.
abbrev pub FailsRun : RunWords → Files → List ℕ → Cause → Type 0
FailsRun run files name cause =
    InputsFail files run.net run.trace name cause ⊎ ImageOfRunFails run files name cause

-- the statuses of a run whose files are accepted
abbrev pub ends_run : Status → Bool
ends_run Done = true
ends_run Limit = true
ends_run other = false

abbrev pub run_meaning : RunWords → Meaning
run_meaning run = record {
  makes = MakesRun run;
  accepts = AcceptsRun run;
  finds = finds_nothing;
  fails = FailsRun run;
  explains = explains_nothing;
  ends = ends_run;
  reads = true;
}

-- Two products of runs of one network that save the same texts are of one journal, with the same
-- last word, and, where they name no image, of the same compiled machines.
abbrev pub SavesDetermineRun : Type 0
SavesDetermineRun =
    (run : RunWords) (before now : Files) (p q : Product) (a : MakesRun run before p)
    (b : MakesRun run now q) → a.net ≡ b.net → run.limit ≤ ENTRIES_MAX → p.saves ≡ q.saves
    → (a.ran.journal ≡ b.ran.journal) × (a.ran.complete ≡ b.ran.complete)
    × (run.image ≡ None → a.tasks ≡ b.tasks)
