-- What the core's code keeps.
use Rattle.std.specs.Prelude.{◌≡◌, ℕ, Bool, false, List, map, drop, length, Option, Some, None, option_map}
use Rattle.polis_base.specs.Lists.{last_of, head_of}
use Rattle.transition_table.specs.declared.network.Network.{Network}
use Rattle.journals.specs.declared.entry.Owed.{Owed}
use Rattle.journals.specs.declared.stamped.Stamped.{Stamped}
use Rattle.journals.specs.Moved.{is_dep}
use Rattle.worker_core.specs.declared.parts.Parts.{Parts}
use Rattle.worker_core.specs.declared.state.Hand.{Hand}
use Rattle.worker_core.specs.Parts.{own_moments}

-- the last entry is a delivery
abbrev pub ends_in_delivery : List Stamped → Bool
ends_in_delivery log = last_of false (map (λ x. is_dep x.entry) log)

-- the first delivery in hand, with the stamp of the firing
abbrev pub first_held : Option Hand → Option (Owed × ℕ)
first_held None = None
first_held (Some hand) = option_map (λ d. (d, hand.stamp)) (head_of hand.deliveries)

-- the hand without its first delivery
abbrev pub passed : Option Hand → Option Hand
passed None = None
passed (Some hand) = Some (record { stamp = hand.stamp; deliveries = drop 1 hand.deliveries })

-- a log for each machine, and the snapshot of each after its own log
pub record HasMoments (net : Network) (p : Parts) : Type 0 where
  pub logs : length p.logs ≡ length net.machines
  pub moments_are : p.moments ≡ own_moments net p.logs
