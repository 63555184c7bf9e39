-- One more graph of a network's.
use Rattle.std.proofs.Common.{◌≡◌, ℕ, suc, ◌+◌, List, ◌∷◌, ◌++◌, drop, slice_get, Some, ap, sym, ◌∙◌, arith, append_assoc}
use Rattle.transition_table.specs.declared.machine.Machine.{Machine}
use Rattle.transition_table.specs.declared.network.Network.{Network}
use Rattle.sgraph.specs.declared.vertex.Vertex.{Vertex}
use Rattle.graph_drawing.specs.Drawings.{graph_text, graphs_text}
use Rattle.polis_base.proofs.Places.{drop_one}

pub more_graphs : (net : Network) (ms : List Machine) (gs : List (List Vertex)) (k : ℕ)
    (m : Machine) (g : List Vertex) (out new whole : List ℕ)
    → out ++ graphs_text net (drop k ms) (drop k gs) ≡ whole
    → slice_get ms k ≡ Some m → slice_get gs k ≡ Some g → new ≡ out ++ graph_text net m g
    → new ++ graphs_text net (drop (k + 1) ms) (drop (k + 1) gs) ≡ whole
more_graphs net ms gs k m g out new whole is is_m is_g e =
    let f : k + 1 ≡ suc k = omega arith in
    ap (λ (n : ℕ). new ++ graphs_text net (drop n ms) (drop n gs)) f
    ∙ ap (λ (ys : List ℕ). ys ++ graphs_text net (drop (suc k) ms) (drop (suc k) gs)) e
    ∙ append_assoc out (graph_text net m g) (graphs_text net (drop (suc k) ms) (drop (suc k) gs))
    ∙ ap (λ (xs : List Machine). out ++ graphs_text net xs (g ∷ drop (suc k) gs))
    (sym (drop_one ms k m is_m))
    ∙ ap (λ (xs : List (List Vertex)). out ++ graphs_text net (drop k ms) xs)
    (sym (drop_one gs k g is_g))
    ∙ is
