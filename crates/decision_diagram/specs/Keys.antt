-- Inner nodes as keys.
use Rattle.std.specs.Prelude.{◌≡◌, ℕ, ◌<◌, ◌^◌, List, length, map, drop, Some, slice_get, slice_index}
use Rattle.std.specs.declared.alloc.Global.{Global}
use Rattle.std.specs.declared.vec.Vec.{Vec}
use Rattle.decision_diagram.specs.Diagrams.{Node}

-- a node's key: its variable, and its children after it
abbrev pub Key : Type 0
Key = Vec ℕ Global

-- numbers that are a node's key: there is a variable, and its number is one of 32 bits
pub record IsKey (key : List ℕ) : Type 0 where
  pub some : 0 < length key
  pub narrow : slice_index key 0 < 2 ^ 32

-- each of them is a node's key
abbrev pub AreKeys : List Key → Type 0
AreKeys keys = (i : ℕ) (key : Key) → slice_get keys i ≡ Some key → IsKey key.items

-- the node of a key
abbrev pub node_of : List ℕ → Node
node_of key = record { var = slice_index key 0; kids = drop 1 key }

-- the nodes of keys
abbrev pub nodes_of : List Key → List Node
nodes_of keys = map (λ (key : Key). node_of key.items) keys
