use Rattle.journals.proofs.RefusedEntries.{doubled as doubled_lem, event_of_another as event_of_another_lem, other_value as other_value_lem, before_delivery as before_delivery_lem, second_reaction as second_reaction_lem, stale_snapshot as stale_snapshot_lem, idle_outcome as idle_outcome_lem, dropped_emission as dropped_emission_lem}
use Rattle.journals.proofs.worked.refused_rows.Goals as goal

pub returns-clause-doubled : goal.returns-clause-doubled
returns-clause-doubled c = doubled_lem

pub returns-clause-event_of_another : goal.returns-clause-event_of_another
returns-clause-event_of_another c = event_of_another_lem

pub returns-clause-other_value : goal.returns-clause-other_value
returns-clause-other_value c = other_value_lem

pub returns-clause-before_delivery : goal.returns-clause-before_delivery
returns-clause-before_delivery c = before_delivery_lem

pub returns-clause-second_reaction : goal.returns-clause-second_reaction
returns-clause-second_reaction c = second_reaction_lem

pub returns-clause-stale_snapshot : goal.returns-clause-stale_snapshot
returns-clause-stale_snapshot c = stale_snapshot_lem

pub returns-clause-idle_outcome : goal.returns-clause-idle_outcome
returns-clause-idle_outcome c = idle_outcome_lem

pub returns-clause-dropped_emission : goal.returns-clause-dropped_emission
returns-clause-dropped_emission c = dropped_emission_lem
