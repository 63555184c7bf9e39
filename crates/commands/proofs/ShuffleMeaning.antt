-- What `shuffle` means.
use Rattle.std.proofs.Common.{◌≡◌, ◌⊎◌, ◌↔◌, ◌≤◌, ◌<◌, inl, inr, ℕ, Bool, false, List, [], ◌∷◌, ◌++◌, length, sym, ◌∙◌, IsTrue, lit<, codes, arith, Option, None}
use Rattle.polis_base.specs.Host.{Files, WhereTold}
use Rattle.transition_table.specs.declared.network.Network.{Network}
use Rattle.journals.specs.declared.entry.Entry.{Entry}
use Rattle.journals.specs.declared.entry.TraceItem.{TraceItem}
use Rattle.journals.specs.Journals.{IsTrace}
use Rattle.journals.specs.Legality.{Legal, Complete}
use Rattle.journal_text.specs.Texts.{output_text}
use Rattle.run_shuffle.specs.declared.order.Order.{Order}
use Rattle.run_shuffle.specs.Laws.{FewerIsComplete}
use Rattle.run_shuffle.specs.Orders.{offered}
use Rattle.run_shuffle.specs.Shuffles.{IsShuffled, run_order}
use Rattle.polis_words.specs.Shuffle.{ShuffleWords}
use Rattle.polis_words.specs.Texts.{drawn_text}
use Rattle.output_files.specs.declared.product.End.{End}
use Rattle.output_files.specs.declared.product.Product.{Product}
use Rattle.output_files.specs.Saves.{Save, AreApart}
use Rattle.input_files.specs.declared.load.Detail.TheVariants as details
use Rattle.input_files.specs.Inputs.{HoldsNet, HoldsTrace}
use Rattle.commands.specs.Run.{end_of, ends_run, saved_journal}
use Rattle.commands.specs.Shuffle.{IsDrawnRun, MakesShuffle, order_of, shuffle_meaning, shuffle_product}
use Rattle.commands.specs.inner.Lawful.{IsLawful}
use Rattle.commands.specs.Made.{IsMadeProduct}
use Rattle.commands.specs.inner.Run.{listed_under}
use Rattle.commands.specs.inner.Shuffle.{IsDrawnProduct}
use Rattle.polis_base.proofs.WhereTold.{told_from}
use Rattle.commands.proofs.InputsMeaning.{inputs_lawful}
use Rattle.commands.proofs.IsMade.{product_made}
use Rattle.commands.proofs.RunMeaning.{endings_differ, run_ends}

pub shuffle_lawful : (shuffle : ShuffleWords) → IsLawful (shuffle_meaning shuffle)
shuffle_lawful shuffle =
    inputs_lawful details.Cause shuffle.net shuffle.trace (MakesShuffle shuffle) ends_run
    (λ files product m. (m.net, m.trace, m.holds_net, m.holds_trace))

-- ---- what was drawn
-- a journal with as many entries as the limit, or with fewer after which nothing is offered
few_drawn : (net : Network) (trace : List TraceItem) (seed : ℕ) (order : Order) (limit : ℕ)
    (journal : List Entry) → IsShuffled net trace seed order limit journal
    → (length journal ≡ limit) ⊎ (length journal < limit)
few_drawn net trace seed order limit journal s = by_case s.whole
  where
    by_case : ((length journal ≡ limit) ⊎ ((length journal < limit)
        × (offered (run_order order seed) net trace journal ≡ [])))
        → (length journal ≡ limit) ⊎ (length journal < limit)
    by_case (inl full) = inl full
    by_case (inr less) = inr less.0

pub drawn_run : FewerIsComplete → (shuffle : ShuffleWords) (net : Network)
    (trace : List TraceItem) (journal : List Entry) (complete : Bool) → IsTrace net trace
    → IsShuffled net trace shuffle.seed (order_of shuffle.order) shuffle.limit journal
    → Legal net trace journal → IsTrue complete ↔ Complete net trace journal
    → IsDrawnRun shuffle net trace journal complete
drawn_run whole shuffle net trace journal complete fits s legal ends = record {
  shuffled = s;
  is = record {
    within = within few;
    legal = legal;
    ends = ends;
    limited = λ none. limited few none;
  };
}
  where
    few : (length journal ≡ shuffle.limit) ⊎ (length journal < shuffle.limit)
    few = few_drawn net trace shuffle.seed (order_of shuffle.order) shuffle.limit journal s

    within : (length journal ≡ shuffle.limit) ⊎ (length journal < shuffle.limit)
        → length journal ≤ shuffle.limit
    within (inl full) = omega arith
    within (inr less) = omega arith

    limited : (length journal ≡ shuffle.limit) ⊎ (length journal < shuffle.limit)
        → complete ≡ false → length journal ≡ shuffle.limit
    limited (inl full) none = full
    limited (inr less) none =
        let all = ends.1 (whole net trace shuffle.seed (order_of shuffle.order) shuffle.limit
        journal fits s less) in cc

-- ---- the product
-- its parts
pub shuffle_is : (shuffle : ShuffleWords) (net : Network) (journal : List Entry)
    (complete : Bool) (stem outputs text shown : List ℕ) (saves : List Save) (end : End)
    → saves ≡ record { name = stem ++ codes ".out"; text = outputs }
    ∷ record { name = stem ++ codes ".jnl"; text = text } ∷ listed_under stem None
    → stem ≡ shuffle.stem → outputs ≡ output_text net journal
    → text ≡ saved_journal net journal complete → shown ≡ drawn_text net journal complete
    → end ≡ end_of complete
    → ◌≡◌ {A = Product} (record { saves = saves; shown = shown; end = end })
    (shuffle_product shuffle net journal complete)
shuffle_is shuffle net journal complete stem outputs text shown saves end e st ou te sh en =
    let all = e ∙ (λ i. record { name = st i ++ codes ".out"; text = ou i }
    ∷ record { name = st i ++ codes ".jnl"; text = te i } ∷ []) in
    λ i. record { saves = all i; shown = sh i; end = en i }

-- its two saves have two names
shuffle_apart : (shuffle : ShuffleWords) (net : Network) (journal : List Entry) (complete : Bool)
    → AreApart (shuffle_product shuffle net journal complete).saves
shuffle_apart shuffle net journal complete = (
  (λ e. endings_differ shuffle.stem (codes ".jnl") (codes ".out") (lit< tt) (sym e), tt),
  (tt, tt),
)

pub shuffle_made : (o : Option Files) (shuffle : ShuffleWords) (net : Network)
    (trace : List TraceItem) (product : Product)
    → WhereTold o (λ files. HoldsNet files shuffle.net net
    × HoldsTrace files shuffle.trace net trace)
    → IsDrawnProduct shuffle net trace product → IsMadeProduct (shuffle_meaning shuffle) o product
shuffle_made o shuffle net trace product held p =
    product_made (shuffle_meaning shuffle) o product
    (shuffle_product shuffle net p.journal p.complete) p.made
    (shuffle_apart shuffle net p.journal p.complete) (run_ends p.complete)
    (told_from o
    (λ files. HoldsNet files shuffle.net net × HoldsTrace files shuffle.trace net trace) _
    (λ files h. record {
      net = net;
      trace = trace;
      holds_net = h.0;
      holds_trace = h.1;
      journal = p.journal;
      complete = p.complete;
      drawn = p.drawn;
      made = p.made;
    }) held)
