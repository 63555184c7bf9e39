-- What the file of a monitor holds, and why it fails.
use Rattle.std.specs.Prelude.{◌⊎◌, ℕ, List}
use Rattle.polis_base.specs.Host.{Files}
use Rattle.transition_table.specs.declared.network.Network.{Network}
use Rattle.run_watch.specs.Monitors.{IsMonitor}
use Rattle.polis_words.specs.declared.cause.Cause.{Cause}
use Rattle.polis_words.specs.declared.cause.Cause.TheVariants.{OtherShape}
use Rattle.input_files.specs.Inputs.{HoldsNet, NetFails}

-- a network that is a monitor of this one is held under the name
pub record HoldsMonitor (files : Files) (name : List ℕ) (net monitor : Network) : Type 0 where
  pub holds : HoldsNet files name monitor
  pub is_monitor : IsMonitor net monitor

-- why a network that is accepted isn't taken as a monitor
abbrev pub IsMonitorFault : Network → Network → Cause → Type 0
IsMonitorFault net monitor OtherShape = ¬ IsMonitor net monitor
IsMonitorFault net monitor cause = ⊥

-- why the monitor's file fails: it isn't loaded or isn't accepted, or its network is no monitor of
-- this one
abbrev pub MonitorFails : Files → Network → List ℕ → Cause → Type 0
MonitorFails files net name cause =
    NetFails files name cause
    ⊎ ((monitor : Network) × HoldsNet files name monitor × IsMonitorFault net monitor cause)
