use Rattle.std.proofs.Common.{◌≡◌, ◌∙◌}
use Rattle.transition_table.specs.Orders.{sizes_of}
use Rattle.char_function.proofs.GroupNodes.{means_char, means_size}
use Rattle.char_function.proofs.root.diagram_over.Goals as goal

pub returns : goal.returns
returns c =
    let m = c.args.m.now in
    let new = c.root_of.new.store in
    let n = c.in_ok-node.node in
    let kept = c.in_ok-node.ensures.kept in
    let means = c.in_ok-node.ensures.value in
    let sizes : new.sizes ≡ sizes_of m =
    kept.sizes ∙ c.in_ok-store.ensures.sizes ∙ c.requires.all_sizes in
    let order : new.order ≡ c.args.order.now = kept.order ∙ c.in_ok-store.ensures.order in
    let exact = means_char c.laws_of_computing.ensures.char_by_test m c.requires.sure new n sizes
    means in
    record {
      sizes = sizes;
      order = order;
      node = means.node;
      exact = exact;
      size = means_size c.laws.ensures.count_is_size m c.args.order.now new n sizes order
          c.same_value_same_node.ensures.reduced means.node exact;
    }
