-- What is looked up of a monitor and a network.
use Rattle.std.specs.Prelude.{◌≡◌, length, map}
use Rattle.polis_base.specs.Lists.{upto}
use Rattle.scheduler_gen.specs.Plans.{IsPlanOf}
use Rattle.transition_table.specs.declared.network.Network.{Network}
use Rattle.run_watch.specs.Monitors.{watched}
use Rattle.run_watch.specs.declared.hearing.Hearing.{Hearing}

-- the order of the monitor's machines, and for each event of the network the one it is heard as
pub record IsHearing (net monitor : Network) (hearing : Hearing) : Type 0 where
  pub plan : IsPlanOf monitor hearing.plan
  pub events : hearing.events ≡ map (watched net monitor) (upto (length net.events))
