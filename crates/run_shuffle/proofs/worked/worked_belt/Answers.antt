use Rattle.std.proofs.Common.{refl}
use Rattle.run_shuffle.proofs.BeltRuns.{belt_alarmed_is, belt_cut_short_is, belt_drowned_is, belt_settled_is}
use Rattle.run_shuffle.proofs.worked.worked_belt.Goals as goal

pub returns-clause-drowned : goal.returns-clause-drowned
returns-clause-drowned c = belt_drowned_is

pub returns-clause-drowned_many : goal.returns-clause-drowned_many
returns-clause-drowned_many c = refl

pub returns-clause-drowned_gives : goal.returns-clause-drowned_gives
returns-clause-drowned_gives c = refl

pub returns-clause-drowned_loses : goal.returns-clause-drowned_loses
returns-clause-drowned_loses c = refl

pub returns-clause-alarmed : goal.returns-clause-alarmed
returns-clause-alarmed c = belt_alarmed_is

pub returns-clause-alarmed_many : goal.returns-clause-alarmed_many
returns-clause-alarmed_many c = refl

pub returns-clause-alarmed_gives : goal.returns-clause-alarmed_gives
returns-clause-alarmed_gives c = refl

pub returns-clause-alarmed_loses : goal.returns-clause-alarmed_loses
returns-clause-alarmed_loses c = refl

pub returns-clause-cut_short : goal.returns-clause-cut_short
returns-clause-cut_short c = belt_cut_short_is

pub returns-clause-cut_short_many : goal.returns-clause-cut_short_many
returns-clause-cut_short_many c = refl

pub returns-clause-cut_short_gives : goal.returns-clause-cut_short_gives
returns-clause-cut_short_gives c = refl

pub returns-clause-cut_short_loses : goal.returns-clause-cut_short_loses
returns-clause-cut_short_loses c = refl

pub returns-clause-settled : goal.returns-clause-settled
returns-clause-settled c = belt_settled_is

pub returns-clause-settled_many : goal.returns-clause-settled_many
returns-clause-settled_many c = refl

pub returns-clause-settled_gives : goal.returns-clause-settled_gives
returns-clause-settled_gives c = refl

pub returns-clause-settled_loses : goal.returns-clause-settled_loses
returns-clause-settled_loses c = refl
