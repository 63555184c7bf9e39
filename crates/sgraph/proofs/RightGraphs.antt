-- The laws, put together.
use Rattle.std.proofs.Common.{◌≡◌, ◌∙◌, ℕ, suc, ◌-◌, List, [], ◌∷◌, length, slice_get, slice_index, Some, ap, sym, subst, arith}
use Rattle.polis_base.specs.Lists.{upto}
use Rattle.sgraph.specs.declared.vertex.Vertex.{Vertex}
use Rattle.sgraph.specs.declared.vertex.Vertex.TheVariants.{Begin}
use Rattle.sgraph.specs.Building.{graph_of, nodes_left, number_in}
use Rattle.sgraph.specs.Graphs.{kids_in, kids_at, each, left_after}
use Rattle.sgraph.specs.Laws.{BuiltIsRight, GraphIsBuilt, GraphIsRight, NumberedGoesOn}
use Rattle.sgraph.proofs.ByRows.{by_rows}
use Rattle.sgraph.proofs.BuiltReduced.{built_rises, built_reduced, built_fits}
use Rattle.sgraph.proofs.Edges.{edges_order, edges_once}
use Rattle.sgraph.proofs.BuiltEvaluates.{built_evaluates}
use Rattle.sgraph.proofs.IsGraph.{is_graph}
use Rattle.sgraph.proofs.Below.{Below}
use Rattle.decision_diagram.proofs.ByVariable.{index_upto}
use Rattle.sgraph.proofs.NumberedGraph.{built, goes_on, numbered}
use Rattle.sgraph.proofs.HasResults.{has_results}

pub built_is_right : Below → BuiltIsRight
built_is_right below m s root g number exact made =
    let d = by_rows below.char_test m s root exact in
    let has = has_results m below in (
      built_evaluates m s root g number d made has,
      built_rises m s root g number d made has,
      built_reduced m s root g number d made has,
      built_fits m s root g number d made has,
    )

pub graph_is_built : Below → GraphIsBuilt
graph_is_built below m s root exact =
    let d = by_rows below.char_test m s root exact in
    let has = has_results m below in
    (built m s root d has, goes_on m s root d has, numbered m s root d has)

pub graph_is_right : Below → GraphIsRight
graph_is_right below m s root d =
    let g = graph_of m s root in
    let n = length m.vars in
    let made = graph_is_built below m s root d in
    let right = built_is_right below m s root g (number_in (nodes_left s n root)) d made.0 in
    let ordered = edges_order n s.order g right.1 in
    record {
      graph = is_graph m s root s.order d.reduced made.1 ordered right.2;
      rises = right.1;
      of_machine = record {
        fits_machine = right.3;
        evaluates = right.0;
        ordered = ordered;
        once = edges_once n s.order g right.1;
        reduced = right.2;
        numbered = made.2;
      };
    }

-- a walk that leaves all vertices in order goes on to vertex 1 first
pub second : (g : List Vertex) (next more : ℕ) → slice_get g 0 ≡ Some (Begin next)
    → left_after (suc (suc more)) (kids_at g) [] 0 ≡ upto (suc (suc more)) → next ≡ 1
second g next more is numbered =
    let one : kids_at g 0 ≡ next ∷ [] = ap kids_in is in
    let first : left_after (suc (suc more)) (kids_at g) [] 0
    ≡ 0 ∷ next ∷ each (left_after more (kids_at g)) [] (kids_at g next) =
    ap (λ (ks : List ℕ). 0 ∷ each (left_after (suc more) (kids_at g)) [] ks) one in
    ap (λ (xs : List ℕ). slice_index xs 1) (sym first ∙ numbered)
    ∙ index_upto (suc (suc more)) 1 (omega arith)

pub numbered_goes_on : NumberedGoesOn
numbered_goes_on g ok numbered =
    let first = ok.above 0 (Begin ok.begin.0) 0 ok.begin.1 (omega arith) in
    let within = ok.within 0 (Begin ok.begin.0) 0 ok.begin.1 (omega arith) in
    let more : ℕ = length g - 2 in
    let e : length g ≡ suc (suc more) = omega arith in
    let to : ok.begin.0 ≡ 1 =
    second g ok.begin.0 more ok.begin.1
    (subst (λ (n : ℕ). left_after n (kids_at g) [] 0 ≡ upto n) e numbered) in
    record {
      begin = subst (λ (n : ℕ). slice_get g 0 ≡ Some (Begin n)) to ok.begin.1;
      only = ok.only_begin;
      above = ok.above;
      within = ok.within;
    }
