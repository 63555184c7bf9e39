use Rattle.std.proofs.Common.{Option, subst}
use Rattle.run_survey.specs.declared.told.Survey.{Survey}
use Rattle.run_survey.specs.inner.Workers.{CanFollow, Follows}
use Rattle.run_survey.proofs.workers.add_survey.Goals.{In-Some}
use Rattle.run_survey.proofs.workers.add_survey.Goals as goal

here : (c : In-Some) → Follows c.in-Some.survey c.args.next
here c = subst (λ (o : Option Survey). CanFollow o c.args.next) c.in-Some.is c.requires

pub join-requires-clause-told : goal.join-requires-clause-told
join-requires-clause-told c = (here (goal.at.join-requires-clause-told c).In-Some).told

pub join-requires-clause-next_told : goal.join-requires-clause-next_told
join-requires-clause-next_told c =
    (here (goal.at.join-requires-clause-next_told c).In-Some).next_told

pub join-requires-clause-alike : goal.join-requires-clause-alike
join-requires-clause-alike c = (here (goal.at.join-requires-clause-alike c).In-Some).alike

pub join-requires-clause-neighbours : goal.join-requires-clause-neighbours
join-requires-clause-neighbours c =
    (here (goal.at.join-requires-clause-neighbours c).In-Some).neighbours

pub join-requires-clause-no_others : goal.join-requires-clause-no_others
join-requires-clause-no_others c =
    (here (goal.at.join-requires-clause-no_others c).In-Some).no_others

pub join-requires-clause-room : goal.join-requires-clause-room
join-requires-clause-room c = (here (goal.at.join-requires-clause-room c).In-Some).room
