use Rattle.run_shuffle.proofs.EntriesOfMoves.{all_moves_law}
use Rattle.run_shuffle.proofs.OffersUntilComplete.{scheduled_offers_settled, settled_offers_free, stops_where_complete}
use Rattle.run_shuffle.proofs.OneShuffle.{fewer_begin_more, one_shuffle, some_shuffle}
use Rattle.run_shuffle.proofs.Shuffles.{fewer_is_complete, offered_may_come, shuffled_is_legal}
use Rattle.run_shuffle.proofs.law.laws.Goals as goal

pub returns : goal.returns
returns c = record {
  all_moves = all_moves_law c.laws.ensures.steps c.sending_laws.ensures.next;
  scheduled_is_settled = scheduled_offers_settled c.laws.ensures c.sending_laws.ensures;
  settled_is_free = settled_offers_free;
  until_complete = stops_where_complete c.laws.ensures c.sending_laws.ensures;
  may_come =
      offered_may_come c.laws.ensures c.sending_laws.ensures c.laws-2.ensures.transition_fits;
  legal = shuffled_is_legal c.laws.ensures c.sending_laws.ensures c.laws-2.ensures.transition_fits;
  complete =
      fewer_is_complete c.laws.ensures c.sending_laws.ensures c.laws-2.ensures.transition_fits;
  one =
      one_shuffle c.laws-2.ensures.one_outcome c.laws.ensures c.sending_laws.ensures
      c.laws-2.ensures.transition_fits;
  some =
      some_shuffle c.laws.ensures c.sending_laws.ensures c.laws-2.ensures.transition_fits;
  begin =
      fewer_begin_more c.laws-2.ensures.one_outcome c.laws.ensures c.sending_laws.ensures
      c.laws-2.ensures.transition_fits;
}
