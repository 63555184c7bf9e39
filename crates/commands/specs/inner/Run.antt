-- What is run and made, step by step.
use Rattle.std.specs.Prelude.{◌≡◌, ◌⊎◌, ◌↔◌, ℕ, ◌≤◌, List, [], ◌∷◌, ◌++◌, length, Option, Some, None, IfSome, IsTrue, ⊤, codes}
use Rattle.polis_base.specs.Host.{Files}
use Rattle.polis_base.specs.Lists.{Begins}
use Rattle.transition_table.specs.declared.network.Network.{Network}
use Rattle.transition_table.specs.Transitions.{AreDeterministic}
use Rattle.journals.specs.declared.entry.Entry.{Entry}
use Rattle.journals.specs.declared.entry.TraceItem.{TraceItem}
use Rattle.journals.specs.declared.entry.Pick.TheVariants.{Stop}
use Rattle.journals.specs.Journals.{IsTrace}
use Rattle.journals.specs.Legality.{Legal, Complete}
use Rattle.journals.specs.Schedules.{Follows, pick}
use Rattle.journal_text.specs.Texts.{output_text}
use Rattle.task_code.specs.declared.instr.Instr.{Instr}
use Rattle.machine_compiler.specs.declared.compiled.Compiled.{Compiled as CompiledMachine}
use Rattle.machine_compiler.specs.Parts.{AreRightParts, parts_of, codes_in}
use Rattle.task_machine.specs.Tasks.{AreTasks as AreCodes}
use Rattle.task_image.specs.declared.image.ImageMachine.{ImageMachine}
use Rattle.task_image.specs.Images.{codes_of}
use Rattle.polis_words.specs.declared.cause.Cause.{Cause}
use Rattle.polis_words.specs.Run.{RunWords}
use Rattle.output_files.specs.declared.product.Product.{Product}
use Rattle.commands.specs.declared.run_result.RunResult.{RunResult}
use Rattle.commands.specs.declared.texts.OtherTexts.{OtherTexts}
use Rattle.commands.specs.declared.run_inputs.RunInputs.{RunInputs}
use Rattle.commands.specs.declared.tasks.Tasks.{Tasks as RunTasks}
use Rattle.commands.specs.ImageFiles.{HoldsImage, ImageFails}
use Rattle.input_files.specs.Inputs.{HoldsNet, HoldsTrace}
use Rattle.output_files.specs.Saves.{Save}
use Rattle.commands.specs.Run.{IsRan, Tasks, Compiled, Given, listing_of, run_text, run_product}

-- a journal that goes on from another one by what the scheduler picks, to its end or to the limit
pub record CarriesOn (net : Network) (trace : List TraceItem) (limit : ℕ) (start : List Entry)
    (merged : ℕ) (ran : RunResult) : Type 0 where
  pub gathered : ran.gathered ≡ merged
  pub adopted : ran.adopted ≡ length start
  pub begins : Begins start ran.journal
  pub follows : Follows net trace ran.journal (length start)
  pub legal : Legal net trace ran.journal
  pub within : length ran.journal ≤ limit
  pub stops : (pick net trace ran.journal ≡ Stop) ⊎ (length ran.journal ≡ limit)
  pub ends : IsTrue ran.complete ↔ Complete net trace ran.journal

-- the code that is executed, by what was compiled and by the code of the reactor
abbrev pub executed_of : Option (List CompiledMachine) → List (List Instr) → Tasks
executed_of None code = Given code
executed_of (Some compiled) code = Compiled (parts_of compiled)

-- what these tasks execute
abbrev pub executed : RunTasks → Tasks
executed tasks = executed_of tasks.compiled tasks.reactor.codes

-- the tasks are of the network; where its machines were compiled, that was done rightly, and the
-- code is that of the compiled machines
pub record TasksFit (net : Network) (tasks : RunTasks) : Type 0 where
  pub meaning : tasks.reactor.net.now ≡ net
  pub right : IfSome tasks.compiled (λ compiled. AreRightParts net (parts_of compiled)
      × (tasks.reactor.codes ≡ codes_in (parts_of compiled)))

-- the other texts of a run: the outputs, the listing where there is one, and what is shown
pub record AreOtherTexts (net : Network) (tasks : Tasks) (ran : RunResult) (texts : OtherTexts) :
    Type 0 where
  pub outputs : texts.outputs ≡ output_text net ran.journal
  pub listing : texts.listing ≡ listing_of net tasks
  pub shown : texts.shown ≡ run_text net tasks ran

-- the save of a listing, where there is one
abbrev pub listed_under : List ℕ → Option (List ℕ) → List Save
listed_under stem None = []
listed_under stem (Some listing) = record { name = stem ++ codes ".lst"; text = listing } ∷ []

-- the product is that of a run of the network on the trace by these tasks
pub record IsRunProduct (run : RunWords) (net : Network) (trace : List TraceItem) (tasks : Tasks)
    (product : Product) : Type 0 where
  pub ran : RunResult
  pub is_ran : IsRan run.workers run.limit net trace ran
  pub made : product ≡ run_product run net ran tasks

-- what was loaded for a run: the trace fits the network, whose machines are deterministic, and each
-- code of the image, where there is one, gives its machine's transition
pub record IsLoaded (loaded : RunInputs) : Type 0 where
  pub trace : IsTrace loaded.inputs.net loaded.inputs.trace
  pub deterministic : AreDeterministic loaded.inputs.net
  pub image : IfSome loaded.image (λ image. AreCodes loaded.inputs.net (codes_of image))

-- the image that is named, where one is, is held and fits the network
abbrev pub HoldsImageOf : Option (List ℕ) → Files → Network → Option (List ImageMachine) → Type 0
HoldsImageOf None files net None = ⊤
HoldsImageOf None files net (Some image) = ⊥
HoldsImageOf (Some name) files net None = ⊥
HoldsImageOf (Some name) files net (Some image) = HoldsImage files name net image

-- the image that is named so fails
abbrev pub FailsImageOf : Option (List ℕ) → Network → Files → List ℕ → Cause → Type 0
FailsImageOf named net files name cause = (named ≡ Some name) × ImageFails files net name cause

-- what the files of a run hold
pub record HoldsRun (run : RunWords) (loaded : RunInputs) (files : Files) : Type 0 where
  pub net : HoldsNet files run.net loaded.inputs.net
  pub trace : HoldsTrace files run.trace loaded.inputs.net loaded.inputs.trace
  pub image : HoldsImageOf run.image files loaded.inputs.net loaded.image

-- these are the tasks that a run executes, where the image is this one, or where there is none
abbrev pub RunsLoaded : Option (List ImageMachine) → Network → Tasks → Type 0
RunsLoaded None net (Compiled parts) = AreRightParts net parts
RunsLoaded None net (Given code) = ⊥
RunsLoaded (Some image) net (Compiled parts) = ⊥
RunsLoaded (Some image) net (Given code) = code ≡ codes_of image

-- the product is that of a run of what was loaded
pub record IsProductOf (run : RunWords) (loaded : RunInputs) (product : Product) : Type 0 where
  pub tasks : Tasks
  pub are_tasks : RunsLoaded loaded.image loaded.inputs.net tasks
  pub is_product : IsRunProduct run loaded.inputs.net loaded.inputs.trace tasks product
