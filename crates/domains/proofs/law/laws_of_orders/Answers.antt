use Rattle.domains.proofs.Places.{have_places, one_place}
use Rattle.domains.proofs.law.laws_of_orders.Goals as goal

pub returns : goal.returns
returns c = record { have_places = have_places; one_place = one_place }
