-- What `shuffle` makes.
use Rattle.std.specs.Prelude.{◌≡◌, Bool, List, [], ◌∷◌}
use Rattle.polis_base.specs.Host.{Files}
use Rattle.transition_table.specs.declared.network.Network.{Network}
use Rattle.journals.specs.declared.entry.Entry.{Entry}
use Rattle.journals.specs.declared.entry.TraceItem.{TraceItem}
use Rattle.journal_text.specs.Texts.{output_text}
use Rattle.run_shuffle.specs.declared.order.Order.{Order}
use Rattle.run_shuffle.specs.declared.order.Order.TheVariants.{Mixed, Free, Settled, Scheduled}
use Rattle.run_shuffle.specs.Shuffles.{IsShuffled}
use Rattle.polis_words.specs.declared.requests.order.GivenOrder.{GivenOrder}
use Rattle.polis_words.specs.declared.requests.order.GivenOrder.TheVariants as given
use Rattle.polis_words.specs.Shuffle.{ShuffleWords, out_name, journal_name}
use Rattle.polis_words.specs.Texts.{drawn_text}
use Rattle.output_files.specs.declared.product.Product.{Product}
use Rattle.input_files.specs.Inputs.{HoldsNet, HoldsTrace}
use Rattle.input_files.specs.declared.load.Detail.TheVariants as details
use Rattle.commands.specs.Meanings.{Meaning, inputs_meaning}
use Rattle.commands.specs.Run.{IsWithin, end_of, ends_run, saved_journal}

-- the order that is asked for
abbrev pub order_of : GivenOrder → Order
order_of given.Mixed = Mixed
order_of given.Free = Free
order_of given.Settled = Settled
order_of given.Scheduled = Scheduled

-- the journal is the one that is drawn, and this is whether it is complete
pub record IsDrawnRun (shuffle : ShuffleWords) (net : Network) (trace : List TraceItem)
    (journal : List Entry) (complete : Bool) : Type 0 where
  pub shuffled : IsShuffled net trace shuffle.seed (order_of shuffle.order) shuffle.limit journal
  pub is : IsWithin shuffle.limit net trace journal complete

-- the product saves the outputs and the journal, and shows how long it is and what was lost in it
abbrev pub shuffle_product : ShuffleWords → Network → List Entry → Bool → Product
shuffle_product shuffle net journal complete = record {
  saves = record { name = out_name shuffle; text = output_text net journal }
      ∷ record { name = journal_name shuffle; text = saved_journal net journal complete } ∷ [];
  shown = drawn_text net journal complete;
  end = end_of complete;
}

-- the files hold a network and a trace that are accepted, this run was drawn of them, and the
-- product is that of it
pub record MakesShuffle (shuffle : ShuffleWords) (files : Files) (product : Product) :
    Type 0 where
  pub net : Network
  pub trace : List TraceItem
  pub holds_net : HoldsNet files shuffle.net net
  pub holds_trace : HoldsTrace files shuffle.trace net trace
  pub journal : List Entry
  pub complete : Bool
  pub drawn : IsDrawnRun shuffle net trace journal complete
  pub made : product ≡ shuffle_product shuffle net journal complete

-- it ends as a run does
abbrev pub shuffle_meaning : ShuffleWords → Meaning
shuffle_meaning shuffle =
    inputs_meaning details.Cause shuffle.net shuffle.trace (MakesShuffle shuffle) ends_run
