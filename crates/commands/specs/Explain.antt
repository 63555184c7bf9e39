-- What `explain` makes.
use Rattle.std.specs.Prelude.{◌≡◌, List, length}
use Rattle.polis_base.specs.Host.{Files}
use Rattle.transition_table.specs.declared.network.Network.{Network}
use Rattle.journals.specs.declared.entry.TraceItem.{TraceItem}
use Rattle.polis_words.specs.NetTrace.{NetTraceWords}
use Rattle.polis_words.specs.Texts.{items_text}
use Rattle.polis_words.specs.declared.requests.explain.Explain.{Explain}
use Rattle.polis_words.specs.declared.requests.explain.Explain.TheVariants.{Net, Trace, Journal}
use Rattle.output_files.specs.declared.product.Product.{Product}
use Rattle.output_files.specs.Products.{shows_only}
use Rattle.input_files.specs.Inputs.{HoldsNet, HoldsTrace}
use Rattle.input_files.specs.declared.load.Detail.TheVariants as details
use Rattle.commands.specs.Meanings.{Meaning, ends_done, inputs_meaning}
use Rattle.commands.specs.JournalProducts.{replay_meaning}
use Rattle.commands.specs.NetProducts.{on_net_meaning}
use Rattle.polis_words.specs.declared.requests.command.OnNet.TheVariants.{Check}

-- the product saves nothing, and shows how many items the trace has
abbrev pub items_product : List TraceItem → Product
items_product trace = shows_only (items_text (length trace))

-- the files hold a network and a trace that are accepted, and the product is that of the trace
pub record MakesItems (asked : NetTraceWords) (files : Files) (product : Product) : Type 0 where
  pub net : Network
  pub trace : List TraceItem
  pub holds_net : HoldsNet files asked.net net
  pub holds_trace : HoldsTrace files asked.trace net trace
  pub made : product ≡ items_product trace

-- a network and a trace of it are judged
abbrev pub explain_trace_meaning : NetTraceWords → Meaning
explain_trace_meaning asked =
    inputs_meaning details.Explained asked.net asked.trace (MakesItems asked) ends_done

-- as `check` and `replay`, but for what is said of a file that is refused
abbrev pub explain_meaning : Explain → Meaning
explain_meaning (Net check) = on_net_meaning details.Explained Check check
explain_meaning (Trace asked) = explain_trace_meaning asked
explain_meaning (Journal replay) = replay_meaning details.Explained replay
