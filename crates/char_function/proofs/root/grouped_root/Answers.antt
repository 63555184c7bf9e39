use Rattle.std.proofs.Common.{◌≡◌, ◌∙◌, ℕ, List, length, ap}
use Rattle.polis_base.specs.Lists.{upto}
use Rattle.transition_table.specs.Orders.{sizes_of}
use Rattle.char_function.specs.inner.Groups.{is_group}
use Rattle.char_function.specs.inner.Points.{points}
use Rattle.char_function.proofs.GroupNodes.{all_group, root_means}
use Rattle.char_function.proofs.IsTableOf.{numbers_long}
use Rattle.char_function.proofs.root.grouped_root.Goals as goal

pub build-requires-clause-group : goal.build-requires-clause-group
build-requires-clause-group c =
    let m = c.args.m.now in
    let n = numbers_long m c.args.table.now c.requires.table in
    ap (is_group (points m)) (c.as_slice.ensures ∙ c.in_ok-group.ensures)
    ∙ all_group (points m) c.len.result (c.len.ensures ∙ n)

pub returns-clause-value : goal.returns-clause-value
returns-clause-value c =
    let m = c.args.m.now in
    let old = c.args.store.now in
    let new = c.build.new.store in
    let sizes : new.sizes ≡ sizes_of m =
    c.in_ok-node.ensures.kept.sizes ∙ c.requires.store.sizes ∙ c.requires.all_sizes in
    let long : length old.order ≡ length (sizes_of m) =
    ap (λ (xs : List ℕ). length xs) c.requires.store.order ∙ c.requires.long in
    let group = c.as_slice.ensures ∙ c.in_ok-group.ensures
    ∙ ap upto (c.len.ensures ∙ numbers_long m c.args.table.now c.requires.table) in
    root_means c.laws_of_computing.ensures.results_fit m c.as_slice.result.now old new
    c.in_ok-node.node c.same_value_same_node.ensures.reduced sizes long group
    c.in_ok-node.ensures.value
