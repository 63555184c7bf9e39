use Rattle.event_buffer.proofs.CellSteps.{freezing_is_react, given_is_in_hand, landing_is_land, freeing_is_free, feeding_is_feed}
use Rattle.event_buffer.proofs.law.cell_laws.Goals as goal

pub returns-clause-freezes : goal.returns-clause-freezes
returns-clause-freezes c = freezing_is_react

pub returns-clause-gives : goal.returns-clause-gives
returns-clause-gives c = given_is_in_hand

pub returns-clause-lands : goal.returns-clause-lands
returns-clause-lands c = landing_is_land

pub returns-clause-frees : goal.returns-clause-frees
returns-clause-frees c = freeing_is_free

pub returns-clause-feeds : goal.returns-clause-feeds
returns-clause-feeds c = feeding_is_feed
