-- The blocks of a trace, and when the environment is open.
use Rattle.std.specs.Prelude.{ℕ, ◌+◌, Bool, false, ◌||◌, ◌==◌, List, [], ◌∷◌, ◌++◌, filter, map, take, length, Option, Some, None, option_map, find}
use Rattle.std.specs.List.{list_any}
use Rattle.polis_base.specs.Lists.{head_of}
use Rattle.transition_table.specs.NetworkFacts.{has}
use Rattle.transition_table.specs.declared.decl.Party.TheVariants.{Env}
use Rattle.transition_table.specs.declared.network.Network.{Network}
use Rattle.journals.specs.declared.entry.Entry.{Entry}
use Rattle.journals.specs.declared.entry.Owed.{Owed}
use Rattle.journals.specs.declared.entry.TraceItem.{TraceItem}
use Rattle.journals.specs.declared.entry.TraceItem.TheVariants.{Event, Settle}
use Rattle.journals.specs.Journals.{delivered}
use Rattle.journals.specs.Schedules.{deliveries_of, is_way, unmade}
use Rattle.run_shuffle.specs.Moves.{machines_of, network_moves}

-- the environment's deliveries by item and then by receiver, each with its block: how many `settle`
-- items stand before its item, b of them before the first
abbrev pub block_deliveries : Network → ℕ → List TraceItem → List (Owed × ℕ)
block_deliveries net b [] = []
block_deliveries net b (Settle ∷ items) = block_deliveries net (b + 1) items
block_deliveries net b (Event e code ∷ items) =
    map (λ d. (d, b)) (deliveries_of net Env (e, code)) ++ block_deliveries net b items

-- those that are owed
abbrev pub owed_in_blocks : Network → List TraceItem → List Entry → List (Owed × ℕ)
owed_in_blocks net trace journal = unmade (λ p. p.0) journal [] (block_deliveries net 0 trace)

-- the blocks of the deliveries to m, in order
abbrev pub blocks_to : Network → List TraceItem → ℕ → List ℕ
blocks_to net trace m =
    map (λ (p : Owed × ℕ). p.1)
    (filter (λ (p : Owed × ℕ). is_way Env m p.0) (block_deliveries net 0 trace))

-- Some delivery of the block isn't owed: it is one of the first of its receiver, as many as the
-- journal has.
abbrev pub has_begun : Network → List TraceItem → List Entry → ℕ → Bool
has_begun net trace journal b =
    list_any (λ m. has (take (length (delivered Env m journal)) (blocks_to net trace m)) b)
    (machines_of net)

-- the block of the first delivery that the environment owes, if it owes any
abbrev pub current_block : Network → List TraceItem → List Entry → Option ℕ
current_block net trace journal =
    option_map (λ (p : Owed × ℕ). p.1) (head_of (owed_in_blocks net trace journal))

-- and of the first that it owes to m
abbrev pub block_to : Network → List TraceItem → List Entry → ℕ → Option ℕ
block_to net trace journal m =
    option_map (λ (p : Owed × ℕ). p.1)
    (find (λ (p : Owed × ℕ). is_way Env m p.0) (owed_in_blocks net trace journal))

-- a delivery of this block may come now: it is the first block, or has begun, or the network has no
-- move
abbrev pub may_come : Network → List TraceItem → List Entry → Option ℕ → Bool
may_come net trace journal None = false
may_come net trace journal (Some b) =
    b == 0 || has_begun net trace journal b || length (network_moves net trace journal) == 0

-- the environment owes a delivery, and those of the first one's block may come now
abbrev pub is_open : Network → List TraceItem → List Entry → Bool
is_open net trace journal = may_come net trace journal (current_block net trace journal)
