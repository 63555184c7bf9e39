-- Nodes that codes lead to, from a root on.
use Rattle.std.specs.Prelude.{◌≡◌, ◌≢◌, ℕ, ◌<◌, true, List, length, take, slice_index}
use Rattle.domains.specs.Tables.{fits}
use Rattle.domains.specs.Orders.{place}
use Rattle.decision_diagram.specs.Diagrams.{Diagrams, follow, level_of, value_of}

-- where the first i variables lead to from n
abbrev pub led : Diagrams → ℕ → List ℕ → ℕ → ℕ
led s i codes n = follow s.nodes (take i s.order) codes n

-- Reading the variables before its own, the codes lead from the root to n.
abbrev pub LeadTo : Diagrams → ℕ → List ℕ → ℕ → Type 0
LeadTo s root codes n = led s (level_of s n) codes root ≡ n

-- it is true on some codes
abbrev pub TrueSomewhere : Diagrams → ℕ → Type 0
TrueSomewhere s n = (codes : List ℕ) × (fits s.sizes codes ≡ true) × (value_of s n codes ≡ true)

-- The code of a variable is decided by those before it, wherever the root is true.
abbrev pub Decided : Diagrams → ℕ → ℕ → Type 0
Decided s root w = (one other : List ℕ) → fits s.sizes one ≡ true → fits s.sizes other ≡ true
    → value_of s root one ≡ true → value_of s root other ≡ true
    → ((j : ℕ) → j < place s.order w → slice_index one (slice_index s.order j)
    ≡ slice_index other (slice_index s.order j)) → slice_index one w ≡ slice_index other w

-- of these children exactly one isn't False
abbrev pub OneCode : List ℕ → Type 0
OneCode kids = (c : ℕ) × (c < length kids) × (slice_index kids c ≢ 0)
    × ((d : ℕ) → d < length kids → slice_index kids d ≢ 0 → c ≡ d)
