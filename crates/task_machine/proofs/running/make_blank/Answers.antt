use Rattle.std.proofs.Common.{length, refl}
use Rattle.sgraph.specs.Walks.{width_of}
use Rattle.sgraph.proofs.Outcomes.{zeros}
use Rattle.task_machine.proofs.running.make_blank.Goals as goal

pub returns-clause-blank : goal.returns-clause-blank
returns-clause-blank c =
    zeros (length c.args.o.now.next) (length c.args.o.now.outs) (width_of c.args.o.now)
    c.clear.new.codes c.clear-2.new.codes c.clear.ensures c.clear-2.ensures refl
