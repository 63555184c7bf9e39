-- The graphs of the machines that are compiled so far.
use Rattle.std.proofs.Common.{◌≡◌, ℕ, ◌+◌, List, [], ◌∷◌, ◌++◌, length, slice_get, Some}
use Rattle.polis_base.specs.Lines.{line}
use Rattle.transition_table.specs.declared.machine.Machine.{Machine}
use Rattle.transition_table.specs.declared.network.Network.{Network}
use Rattle.sgraph.specs.declared.vertex.Vertex.{Vertex}
use Rattle.task_code.specs.Listings.{Part}
use Rattle.machine_compiler.specs.Parts.{IsRightPart, graphs_in}
use Rattle.machine_compiler.specs.Lines.{lengths, lengths_line, side_by_side}
use Rattle.machine_compiler.specs.Kept.{AreGraphs}
use Rattle.machine_compiler.proofs.AreTexts.{no_length, one_length}
use Rattle.machine_compiler.proofs.PartsSoFar.{PartsSoFar, no_part, one_part, all_parts, one_item}

-- these are the graphs of the parts and the lines of their lengths
abbrev pub AreKept : Network → List (List Vertex) → List ℕ → List Part → Type 0
AreKept net graphs sizes parts =
    (graphs ≡ graphs_in parts) × (sizes ≡ side_by_side lengths_line 0 net.machines parts)

pub nothing_kept : (net : Network) (graphs : List (List Vertex)) (sizes : List ℕ) → graphs ≡ []
    → sizes ≡ [] → PartsSoFar net 0 (AreKept net graphs sizes)
nothing_kept net graphs sizes empty none =
    no_part net (AreKept net graphs sizes) (empty, no_length net sizes none)

pub one_kept : (net : Network) (k : ℕ) (graphs graphs' : List (List Vertex)) (sizes sizes' : List ℕ)
    (m : Machine) (q : Part)
    → PartsSoFar net k (AreKept net graphs sizes)
    → slice_get net.machines k ≡ Some m
    → IsRightPart m q
    → graphs' ≡ graphs ++ q.graph ∷ []
    → sizes' ≡ sizes ++ line (lengths m q)
    → PartsSoFar net (k + 1) (AreKept net graphs' sizes')
one_kept net k graphs graphs' sizes sizes' m q so_far at right longer wider =
    one_part net k (AreKept net graphs sizes) (AreKept net graphs' sizes') m q so_far at right
    (λ qs here kept. (
      one_item (λ (q : Part). q.graph) qs q graphs graphs' kept.0 longer,
      one_length net m qs q sizes sizes' here kept.1 wider,
    ))

pub all_kept : (net : Network) (k : ℕ) (graphs : List (List Vertex)) (sizes : List ℕ)
    → PartsSoFar net k (AreKept net graphs sizes)
    → k ≡ length net.machines
    → AreGraphs net (record { graphs = graphs; lengths = sizes })
all_kept net k graphs sizes so_far all =
    record {
      parts = so_far.parts;
      right = all_parts net k (AreKept net graphs sizes) so_far all;
      graphs_are = so_far.kept.0;
      lengths_are = so_far.kept.1;
    }
