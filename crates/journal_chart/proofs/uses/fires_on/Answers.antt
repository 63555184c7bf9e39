use Rattle.journal_chart.proofs.InputsAlone.{fires_of}
use Rattle.journal_chart.proofs.uses.fires_on.Goals as goal

pub returns : goal.returns
returns c = fires_of c.args.machine.now c.args.s.now.codes c.in_ok-o.o c.in_ok-o.ensures
