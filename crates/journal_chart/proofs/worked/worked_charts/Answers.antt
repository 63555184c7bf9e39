use Rattle.std.proofs.Common.{refl}
use Rattle.std.specs.Fmt.{digits}
use Rattle.journal_chart.proofs.worked.worked_charts.Goals as goal

pub returns-clause-lamp : goal.returns-clause-lamp
unfolding digits
returns-clause-lamp c = refl

pub returns-clause-lamp_later : goal.returns-clause-lamp_later
unfolding digits
returns-clause-lamp_later c = refl

pub returns-clause-lamp_none : goal.returns-clause-lamp_none
unfolding digits
returns-clause-lamp_none c = refl

pub returns-clause-loss : goal.returns-clause-loss
unfolding digits
returns-clause-loss c = refl

pub returns-clause-loss_before : goal.returns-clause-loss_before
unfolding digits
returns-clause-loss_before c = refl

pub returns-clause-left : goal.returns-clause-left
unfolding digits
returns-clause-left c = refl

pub returns-clause-itself : goal.returns-clause-itself
unfolding digits
returns-clause-itself c = refl

pub returns-clause-jammed : goal.returns-clause-jammed
unfolding digits
returns-clause-jammed c = refl
