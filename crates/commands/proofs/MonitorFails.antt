-- Where the file of a monitor fails it holds none of the network, and nothing is found of it.
use Rattle.std.proofs.Common.{◌≡◌, inl, inr, ℕ, List, Option, IsTrue, refl, subst}
use Rattle.polis_base.specs.Host.{Files, WhereTold}
use Rattle.transition_table.specs.declared.network.Network.{Network}
use Rattle.run_watch.specs.Monitors.{IsMonitor}
use Rattle.polis_words.specs.declared.cause.Cause.{Cause}
use Rattle.polis_words.specs.declared.cause.Cause.TheVariants.{OtherShape}
use Rattle.polis_words.specs.declared.status.Status.TheVariants.{Refused}
use Rattle.polis_words.specs.Lines.{cause_status}
use Rattle.input_files.specs.Failures.{is_finding}
use Rattle.input_files.specs.Inputs.{HoldsNet}
use Rattle.input_files.proofs.InputsFail.{net_refused, net_unfound}
use Rattle.polis_base.proofs.WhereTold.{told_from}
use Rattle.commands.specs.Monitors.{HoldsMonitor, IsMonitorFault, MonitorFails}
use Rattle.commands.proofs.OneNet.{one_held_net}

-- a network that is found to be no monitor is none
fault_refused : (net monitor : Network) (cause : Cause) → IsMonitorFault net monitor cause
    → ¬ IsMonitor net monitor
fault_refused net monitor OtherShape h = h
fault_refused net monitor cause h = absurd h

-- where the monitor's file fails it holds no monitor
pub monitor_refused : (files : Files) (name : List ℕ) (net monitor : Network) (cause : Cause)
    → cause_status cause ≡ Refused → MonitorFails files net name cause
    → ¬ HoldsMonitor files name net monitor
monitor_refused files name net monitor cause s (inl h) all =
    net_refused files name cause monitor s h all.holds
monitor_refused files name net monitor cause s (inr (other, held, fault)) all =
    fault_refused net other cause fault
    (subst (λ (n : Network). IsMonitor net n)
    (one_held_net files files name name monitor other refl all.holds held) all.is_monitor)

-- a monitor's file isn't a finding
pub monitor_unfound : (files : Files) (name : List ℕ) (net : Network) (cause : Cause)
    → IsTrue (is_finding (cause_status cause)) → ¬ MonitorFails files net name cause
monitor_unfound files name net cause f (inl h) = net_unfound files name cause f h
monitor_unfound files name net cause f (inr (monitor, held, fault)) = of_fault cause f fault
  where
    of_fault : (cause : Cause) → IsTrue (is_finding (cause_status cause))
        → ¬ IsMonitorFault net monitor cause
    of_fault OtherShape f h = cc
    of_fault cause f h = absurd h

-- ---- what is held
-- a network that is a monitor is held as one
pub monitor_held : (o : Option Files) (net : Network) (name : List ℕ) (monitor : Network)
    → WhereTold o (λ files. HoldsNet files name monitor) → IsMonitor net monitor
    → WhereTold o (λ files. HoldsMonitor files name net monitor)
monitor_held o net name monitor held is =
    told_from o (λ files. HoldsNet files name monitor) _
    (λ files h. record { holds = h; is_monitor = is }) held

-- one that isn't is at fault
pub monitor_faulty : (o : Option Files) (net : Network) (name : List ℕ) (monitor : Network)
    → WhereTold o (λ files. HoldsNet files name monitor) → ¬ IsMonitor net monitor
    → WhereTold o (λ files. MonitorFails files net name OtherShape)
monitor_faulty o net name monitor held none =
    told_from o (λ files. HoldsNet files name monitor)
    (λ files. MonitorFails files net name OtherShape) (λ files h. inr (monitor, h, none)) held
