use Rattle.journals.proofs.Legal.{prefixes_are_legal, goes_on_by_steps}
use Rattle.journals.proofs.AllLeast.{least_by_places as by_places_lem, stamps_by_own as stamps_by_own_lem, merged_are_least as merged_are_least_lem}
use Rattle.journals.proofs.Origins.{origin_is_before as origin_is_before_lem}
use Rattle.journals.proofs.OriginPlaces.{origin_is_firing as origin_is_firing_lem}
use Rattle.journals.proofs.LeastStamps.{least_is_rising, none_is_smaller as none_is_smaller_lem, least_are_as_many, least_are_within, prefixes_rise as prefixes_rise_lem, least_goes_on as least_goes_on_lem}
use Rattle.journals.proofs.StampSteps.{as_many_sent, least_by_steps, rising_by_steps, rising_are_as_many, stands_above as stands_above_lem}
use Rattle.journals.proofs.law.stamp_laws.Goals as goal

pub returns : goal.returns
returns c = record {
  least_rises = least_is_rising;
  none_is_smaller = none_is_smaller_lem;
  least_many = least_are_as_many;
  least_within = least_are_within;
  rising_many = rising_are_as_many;
  prefixes_rise = prefixes_rise_lem;
  least_goes_on = least_goes_on_lem;
  least_steps = least_by_steps;
  rising_steps = rising_by_steps;
  stands_above = stands_above_lem;
  sent_many = as_many_sent;
  origin_is_before = origin_is_before_lem prefixes_are_legal goes_on_by_steps;
  origin_is_firing = origin_is_firing_lem prefixes_are_legal goes_on_by_steps;
  least_by_places = by_places_lem;
  stamps_by_own = stamps_by_own_lem;
  merged_are_least = merged_are_least_lem;
}
