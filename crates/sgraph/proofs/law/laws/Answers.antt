use Rattle.sgraph.proofs.Edges.{edges_order, edges_once}
use Rattle.sgraph.proofs.Below.{Below}
use Rattle.sgraph.proofs.EdgesMakeGraph.{edges_make_graph, fits_by_test}
use Rattle.sgraph.proofs.RightGraphs.{built_is_right, graph_is_built, graph_is_right, numbered_goes_on}
use Rattle.sgraph.proofs.law.laws.Goals as goal

pub returns : goal.returns
returns c =
    let below : Below = record {
      widths = c.laws.ensures.have_widths;
      by_rows = c.laws_of_computing.ensures.outcome_by_rows;
      fit = c.laws_of_computing.ensures.results_fit;
      char_test = c.laws_of_computing.ensures.char_by_test;
      by_test = c.laws_of_computing.ensures.support_by_test;
      on_support = c.laws_of_computing.ensures.same_on_support;
      somewhere = c.laws-2.ensures.somewhere_true;
      led = c.laws-2.ensures.reached_led;
      one_child = c.laws-2.ensures.one_child;
    } in
    record {
      edges_order = edges_order;
      edges_once = edges_once;
      edges_make_graph = edges_make_graph;
      built_is_right = built_is_right below;
      graph_is_built = graph_is_built below;
      graph_is_right = graph_is_right below;
      numbered_goes_on = numbered_goes_on;
      fits_by_test = fits_by_test;
    }
