-- What a run keeps beside its configuration: which deliveries may come next, which machines are
-- woken, the blocks of the trace's places, and which have begun.
use Rattle.std.specs.Prelude.{◌≡◌, ℕ, suc, ◌<◌, Bool, ◌&&◌, ◌==◌, nat_lt, List, map, length, take, get_or, Option, Some}
use Rattle.std.specs.List.{Contains, list_any, sum_by}
use Rattle.std.specs.Int.{bit_at}
use Rattle.polis_base.specs.Lists.{upto}
use Rattle.transition_table.specs.declared.decl.Party.TheVariants.{Machine as Sender}
use Rattle.transition_table.specs.declared.network.Network.{Network}
use Rattle.journals.specs.declared.entry.Entry.{Entry}
use Rattle.journals.specs.declared.entry.Pick.{Pick}
use Rattle.journals.specs.declared.entry.TraceItem.{TraceItem}
use Rattle.journals.specs.Cursors.{cursor}
use Rattle.journals.specs.Journals.{is_woken}
use Rattle.journals.specs.Schedules.{is_way, owed_by_machines}
use Rattle.net_core.specs.Moments.{Moment}
use Rattle.scheduler_gen.specs.Plans.{IsPlanOf}
use Rattle.polis_base.specs.Sets.{members}
use Rattle.run_shuffle.specs.declared.ways.Ways.{Ways}
use Rattle.run_shuffle.specs.Blocks.{block_to, has_begun}
use Rattle.run_shuffle.specs.Orders.{same_block}
use Rattle.run_shuffle.specs.inner.Blocks.{settles}

-- how many members a set has
abbrev pub how_many : ℕ → ℕ
how_many set = length (members set)

-- machine s owes a delivery to m
abbrev pub owes : Network → List Entry → ℕ → ℕ → Bool
owes net journal s m = list_any (is_way (Sender s) m) (owed_by_machines net journal)

-- the environment owes one to m
abbrev pub env_owes : Network → List TraceItem → List Entry → ℕ → Bool
env_owes net trace journal m = nat_lt (cursor net trace journal m) (length trace)

-- the first that it owes to m is of the block
abbrev pub is_of_block : Network → List TraceItem → List Entry → Option ℕ → ℕ → Bool
is_of_block net trace journal block m = same_block (block_to net trace journal m) block

-- the set has the numbers below n that pass, and nothing else
abbrev pub IsSetOf : ℕ → (ℕ → Bool) → ℕ → Type 0
IsSetOf n p set = (m : ℕ) → m < 64 → (bit_at set m == 1) ≡ (nat_lt m n && p m)

-- the block of each place of the trace
abbrev pub blocks_table : List TraceItem → List ℕ
blocks_table trace = map (λ i. settles (take i trace)) (upto (length trace))

-- which blocks have begun
abbrev pub begun_table : Network → List TraceItem → List Entry → List Bool
begun_table net trace journal = map (has_begun net trace journal) (upto (suc (settles trace)))

-- what is kept is what the journal gives
pub record AreWays (now : Moment) (ways : Ways) : Type 0 where
  pub plan_is : IsPlanOf now.net ways.plan
  pub long : length ways.sends ≡ length now.net.machines
  pub sends_are : (s : ℕ) → s < length now.net.machines
      → IsSetOf (length now.net.machines) (owes now.net now.journal s) (get_or ways.sends s 0)
  pub owed_is : ways.owed ≡ sum_by how_many ways.sends
  pub env_is :
      IsSetOf (length now.net.machines) (env_owes now.net now.trace now.journal) ways.env
  pub woken_is : IsSetOf (length now.net.machines) (is_woken now.journal) ways.woken
  pub blocks_are : ways.blocks ≡ blocks_table now.trace
  pub begun_are : ways.begun ≡ begun_table now.net now.trace now.journal
  pub of_block_is :
      IsSetOf (length now.net.machines) (is_of_block now.net now.trace now.journal ways.block)
      ways.of_block

-- The members of the set are machines, and the function gives a move of each: these, in order.
pub record Gives (net : Network) (f : ℕ → Option Pick) (set : ℕ) (moves : List Pick) : Type 0 where
  pub below : (m : ℕ) → Contains (members set) m → m < length net.machines
  pub gives : map f (members set) ≡ map Some moves
