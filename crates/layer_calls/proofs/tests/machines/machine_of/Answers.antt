use Rattle.layer_calls.proofs.tests.machines.machine_of.Goals as goal

pub returns-then-k-len : goal.returns-then-k-len
returns-then-k-len c = c.requires c.args.k c.get.result.now c.get.ensures
