-- What `watch` makes of a journal and a monitor that were read.
use Rattle.std.specs.Prelude.{◌≡◌, ℕ, List, Option}
use Rattle.polis_base.specs.Host.{Files, WhereTold}
use Rattle.transition_table.specs.declared.network.Network.{Network}
use Rattle.journals.specs.declared.entry.Entry.{Entry}
use Rattle.run_watch.specs.declared.answer.Watched.{Watched}
use Rattle.run_watch.specs.Watches.{IsAnswer}
use Rattle.output_files.specs.declared.product.Product.{Product}
use Rattle.commands.specs.Monitors.{HoldsMonitor}
use Rattle.commands.specs.Watch.{watch_product}

-- the product is that of what the monitor says of the journal
pub record IsWatchProduct (net monitor : Network) (journal : List Entry) (product : Product) :
    Type 0 where
  pub said : Watched
  pub answers : IsAnswer net monitor journal said
  pub made : product ≡ watch_product monitor said

-- a monitor of the network is held under the name, where the files are told, and the product is that
-- of what it says of the journal
pub record IsWatchedByFile (told : Option Files) (name : List ℕ) (net : Network)
    (journal : List Entry) (product : Product) : Type 0 where
  pub monitor : Network
  pub held : WhereTold told (λ files. HoldsMonitor files name net monitor)
  pub is : IsWatchProduct net monitor journal product
