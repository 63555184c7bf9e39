-- What `explain` means.
use Rattle.std.proofs.Common.{◌≡◌, List, refl, Option}
use Rattle.polis_base.specs.Host.{Files, WhereTold}
use Rattle.transition_table.specs.declared.network.Network.{Network}
use Rattle.journals.specs.declared.entry.TraceItem.{TraceItem}
use Rattle.polis_words.specs.NetTrace.{NetTraceWords}
use Rattle.polis_words.specs.declared.requests.explain.Explain.{Explain}
use Rattle.polis_words.specs.declared.requests.explain.Explain.TheVariants.{Net, Trace, Journal}
use Rattle.output_files.specs.declared.product.Product.{Product}
use Rattle.commands.specs.Meanings.{ends_done}
use Rattle.commands.specs.Explain.{MakesItems, items_product, explain_meaning, explain_trace_meaning}
use Rattle.input_files.specs.Inputs.{HoldsNet, HoldsTrace}
use Rattle.input_files.specs.declared.load.Detail.TheVariants as details
use Rattle.commands.specs.inner.Lawful.{IsLawful}
use Rattle.commands.specs.Made.{IsMadeProduct}
use Rattle.commands.proofs.IsMade.{product_made}
use Rattle.commands.proofs.InputsMeaning.{inputs_lawful}
use Rattle.commands.specs.JournalProducts.{replay_product}
use Rattle.commands.proofs.JournalMeaning.{judging_lawful}
use Rattle.commands.proofs.NetProducts.{on_net_lawful}
use Rattle.polis_words.specs.declared.requests.command.OnNet.TheVariants.{Check}
use Rattle.polis_base.proofs.WhereTold.{told_from}

pub explain_lawful : (explain : Explain) → IsLawful (explain_meaning explain)
explain_lawful (Net check) = on_net_lawful details.Explained Check check
explain_lawful (Trace asked) =
    inputs_lawful details.Explained asked.net asked.trace (MakesItems asked) ends_done
    (λ files product m. (m.net, m.trace, m.holds_net, m.holds_trace))
explain_lawful (Journal replay) = judging_lawful details.Explained replay replay_product

-- the product of two files
pub items_made : (o : Option Files) (asked : NetTraceWords) (net : Network)
    (trace : List TraceItem) (product : Product)
    → WhereTold o (λ files. HoldsNet files asked.net net × HoldsTrace files asked.trace net trace)
    → product ≡ items_product trace → IsMadeProduct (explain_trace_meaning asked) o product
items_made o asked net trace product held made =
    product_made (explain_trace_meaning asked) o product (items_product trace) made tt refl
    (told_from o
    (λ files. HoldsNet files asked.net net × HoldsTrace files asked.trace net trace) _
    (λ files h. record {
      net = net;
      trace = trace;
      holds_net = h.0;
      holds_trace = h.1;
      made = made;
    }) held)
