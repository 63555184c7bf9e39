use Rattle.std.specs.Prelude.{◌*◌}
use Rattle.polis_base.specs.Draws.{after}
use Rattle.net_gen.specs.Networks.{count}
use Rattle.net_gen.proofs.EnabledRows.{deterministic}
use Rattle.net_gen.proofs.IsDemoMachine.{seeds_have_machines}
use Rattle.net_gen.proofs.law.machine_laws.Goals as goal

pub returns-clause-machines : goal.returns-clause-machines
returns-clause-machines c = seeds_have_machines

pub returns-clause-deterministic : goal.returns-clause-deterministic
returns-clause-deterministic c seed net is i machine at =
    deterministic (count seed) i (after (after seed 1) (25 * i)) machine
    (seeds_have_machines seed net i machine is at)
