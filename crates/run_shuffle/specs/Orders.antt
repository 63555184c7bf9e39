-- What each order offers after a journal.
use Rattle.std.specs.Prelude.{ℕ, Bool, false, cond, ◌==◌, List, [], ◌∷◌, ◌++◌, map, filter, filter_map, take, Option, Some, None}
use Rattle.polis_base.specs.Lists.{head_of}
use Rattle.transition_table.specs.declared.decl.Party.TheVariants.{Env}
use Rattle.transition_table.specs.declared.network.Network.{Network}
use Rattle.journals.specs.declared.entry.Entry.{Entry}
use Rattle.journals.specs.declared.entry.Owed.{Owed}
use Rattle.journals.specs.declared.entry.Pick.{Pick}
use Rattle.journals.specs.declared.entry.Pick.TheVariants.{Deliver, React, Stop}
use Rattle.journals.specs.declared.entry.TraceItem.{TraceItem}
use Rattle.journals.specs.Schedules.{deliver, first_pick, first_woken, owed_by_env, owed_by_machines}
use Rattle.run_shuffle.specs.declared.order.RunOrder.{RunOrder}
use Rattle.run_shuffle.specs.declared.order.RunOrder.TheVariants.{Free, Settled, Scheduled}
use Rattle.run_shuffle.specs.Blocks.{block_to, current_block, is_open}
use Rattle.run_shuffle.specs.Moves.{env_moves, machines_of, network_moves, next_delivery}

abbrev pub same_block : Option ℕ → Option ℕ → Bool
same_block (Some a) (Some b) = a == b
same_block None b = false
same_block (Some a) None = false

-- the environment's moves of the block of the first delivery that it owes
abbrev pub moves_of_block : Network → List TraceItem → List Entry → List Pick
moves_of_block net trace journal =
    filter_map (next_delivery net trace journal Env)
    (filter
    (λ m. same_block (block_to net trace journal m) (current_block net trace journal))
    (machines_of net))

-- the first delivery that the environment owes, if it owes any
abbrev pub first_move : Network → List TraceItem → List Entry → List Pick
first_move net trace journal =
    map (λ (p : Owed × Bool). deliver p.0) (take 1 (owed_by_env net trace journal))

-- the move that was picked, if any was
abbrev pub picked_move : Pick → List Pick
picked_move Stop = []
picked_move (Deliver s m e c) = Deliver s m e c ∷ []
picked_move (React m) = React m ∷ []

-- the first delivery that machines owe, or else the reaction of the first woken machine, if there
-- is any
abbrev pub scheduled_move : Network → List Entry → List Pick
scheduled_move net journal =
    picked_move (first_pick (head_of (owed_by_machines net journal)) None (first_woken net journal))

-- of the environment's moves
abbrev pub env_offered : RunOrder → Network → List TraceItem → List Entry → List Pick
env_offered Free net trace journal = env_moves net trace journal
env_offered Settled net trace journal =
    cond (is_open net trace journal) (moves_of_block net trace journal) []
env_offered Scheduled net trace journal =
    cond (is_open net trace journal) (first_move net trace journal) []

-- of the network's moves
abbrev pub network_offered : RunOrder → Network → List TraceItem → List Entry → List Pick
network_offered Free net trace journal = network_moves net trace journal
network_offered Settled net trace journal = network_moves net trace journal
network_offered Scheduled net trace journal = scheduled_move net journal

abbrev pub offered : RunOrder → Network → List TraceItem → List Entry → List Pick
offered order net trace journal =
    env_offered order net trace journal ++ network_offered order net trace journal
