-- The events of the network of a ring.
use Rattle.std.specs.Prelude.{◌≡◌, ℕ, ◌+◌, ◌-◌, ◌*◌, ◌%◌, ◌<◌, true, false, [], ◌∷◌, length, slice_get, Some, None}
use Rattle.transition_table.specs.NetworkFacts.{values_of}
use Rattle.transition_table.specs.declared.decl.Party.TheVariants.{Env, Machine as Sender}
use Rattle.transition_table.specs.declared.decl.EventDecl.{EventDecl}
use Rattle.transition_table.specs.declared.network.Network.{Network}
use Rattle.journals.specs.Journals.{inputs_of, outputs_of}
use Rattle.net_rules.specs.Networks.{IsNetworkOf}
use Rattle.net_gen.specs.Networks.{tick, valued, output, count, network}

-- the machine after machine i of n in a ring, and the one before it
abbrev pub next_machine : ℕ → ℕ → ℕ
next_machine n i = (i + 1) % n

abbrev pub machine_before : ℕ → ℕ → ℕ
machine_before n i = (i + (n - 1)) % n

-- the environment sends machine i its tick
abbrev pub tick_event : ℕ → EventDecl
tick_event i = record {
  name = (tick i).name;
  domain = None;
  sender = Env;
  to_env = false;
  receivers = i ∷ [];
}

-- the machine before sends it a value
abbrev pub valued_event : ℕ → ℕ → EventDecl
valued_event n i = record {
  name = (valued i).name;
  domain = Some 0;
  sender = Sender (machine_before n i);
  to_env = false;
  receivers = i ∷ [];
}

-- and it tells the environment alone
abbrev pub output_event : ℕ → EventDecl
output_event i = record {
  name = (output i).name;
  domain = None;
  sender = Sender i;
  to_env = true;
  receivers = [];
}

-- Each of n machines has three events in a row. It reads its tick and the value from the machine
-- before, and sends a value to the next machine and its output.
pub record HasDemoEvents (n : ℕ) (net : Network) : Type 0 where
  pub machines : length net.machines ≡ n
  pub events : length net.events ≡ 3 * n
  pub values : values_of net.domains (Some 0) ≡ 8
  pub tick_is : (i : ℕ) → i < n → slice_get net.events (3 * i) ≡ Some (tick_event i)
  pub valued_is : (i : ℕ) → i < n → slice_get net.events (3 * i + 1) ≡ Some (valued_event n i)
  pub output_is : (i : ℕ) → i < n → slice_get net.events (3 * i + 2) ≡ Some (output_event i)
  pub reads : (i : ℕ) → i < n → inputs_of net i ≡ (3 * i) ∷ (3 * i + 1) ∷ []
  pub sends : (i : ℕ) → i < n
      → outputs_of net i ≡ (3 * next_machine n i + 1) ∷ (3 * i + 2) ∷ []

-- the network of each seed has these
abbrev pub SeedsHaveEvents : Type 0
SeedsHaveEvents =
    (seed : ℕ) (net : Network) → IsNetworkOf (network seed) net → HasDemoEvents (count seed) net
