-- What `demo` makes.
use Rattle.std.specs.Prelude.{◌≡◌, ℕ, true, false, List, Ok, ⊤}
use Rattle.polis_base.specs.declared.limits.TheConstants.{ENTRIES_MAX}
use Rattle.transition_table.specs.declared.network.Network.{Network}
use Rattle.journals.specs.declared.entry.TraceItem.{TraceItem}
use Rattle.trace_text.specs.Traces.{trace_of}
use Rattle.task_code.specs.Listings.{Part}
use Rattle.machine_compiler.specs.Parts.{AreRightParts}
use Rattle.net_reader.specs.Layout.{network_text}
use Rattle.net_gen.specs.Networks.{network}
use Rattle.net_gen.specs.Traces.{trace_text}
use Rattle.polis_words.specs.Demo.{DemoWords}
use Rattle.output_files.specs.declared.product.Product.{Product}
use Rattle.output_files.specs.Products.{shows_only}
use Rattle.commands.specs.declared.run_result.RunResult.{RunResult}
use Rattle.input_files.specs.Accepted.{Accepted}
use Rattle.commands.specs.Meanings.{Meaning, finds_nothing, ends_done}
use Rattle.input_files.specs.Failures.{explains_nothing}
use Rattle.commands.specs.Run.{IsRan, Compiled, run_text}

-- the network and the trace that are drawn from a seed, by their texts
pub record IsDrawn (seed : ℕ) (net : Network) (trace : List TraceItem) : Type 0 where
  pub accepted : Accepted (network_text (network seed)) net
  pub read : trace_of net (trace_text seed) ≡ Ok trace

-- the product saves nothing, and shows the run
abbrev pub demo_product : Network → RunResult → List Part → Product
demo_product net ran parts = shows_only (run_text net (Compiled parts) ran)

-- What is drawn was run by one worker to its end, each machine was compiled rightly, and the
-- product is that of the run.
pub record MakesDemo (demo : DemoWords) (product : Product) : Type 0 where
  pub net : Network
  pub trace : List TraceItem
  pub drawn : IsDrawn demo.seed net trace
  pub ran : RunResult
  pub is_ran : IsRan 1 ENTRIES_MAX net trace ran
  pub complete : ran.complete ≡ true
  pub parts : List Part
  pub right : AreRightParts net parts
  pub made : product ≡ demo_product net ran parts

abbrev pub demo_meaning : DemoWords → Meaning
demo_meaning demo = record {
  makes = λ files. MakesDemo demo;
  accepts = λ files. ⊤;
  finds = finds_nothing;
  fails = λ files name cause. ⊥;
  explains = explains_nothing;
  ends = ends_done;
  reads = false;
}
