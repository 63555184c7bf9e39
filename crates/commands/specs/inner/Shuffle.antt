-- What is drawn of what was loaded.
use Rattle.std.specs.Prelude.{◌≡◌, Bool, List}
use Rattle.transition_table.specs.declared.network.Network.{Network}
use Rattle.journals.specs.declared.entry.Entry.{Entry}
use Rattle.journals.specs.declared.entry.TraceItem.{TraceItem}
use Rattle.polis_words.specs.Shuffle.{ShuffleWords}
use Rattle.output_files.specs.declared.product.Product.{Product}
use Rattle.commands.specs.Shuffle.{IsDrawnRun, shuffle_product}

-- the product is that of a drawn run of the network on the trace
pub record IsDrawnProduct (shuffle : ShuffleWords) (net : Network) (trace : List TraceItem)
    (product : Product) : Type 0 where
  pub journal : List Entry
  pub complete : Bool
  pub drawn : IsDrawnRun shuffle net trace journal complete
  pub made : product ≡ shuffle_product shuffle net journal complete
