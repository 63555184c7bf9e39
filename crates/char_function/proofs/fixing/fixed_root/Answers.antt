use Rattle.std.proofs.Common.{◌∙◌, ℕ, None, replicate, ap, subst}
use Rattle.char_function.specs.inner.Rising.{IsRising}
use Rattle.char_function.proofs.FixedKids.{first_of_all, left_none, root_left}
use Rattle.char_function.proofs.fixing.fixed_root.Goals as goal

pub rising_root-requires-clause-fixing : goal.rising_root-requires-clause-fixing
rising_root-requires-clause-fixing c = record {
  table = c.requires.table;
  ordered = c.requires.ordered;
  all_sizes = c.requires.all_sizes;
  apart = c.in_ok-strides.ensures;
  results = c.after_variables-start.ensures.results;
  within = c.after_variables-start.ensures.within;
}

pub rising_root-requires-clause-rising : goal.rising_root-requires-clause-rising
rising_root-requires-clause-rising c =
    subst (λ (n : ℕ). IsRising n c.args.order.now) c.len-2.ensures.len
    (c.is_rising.ensures c.if-is_rising.true)

pub rising_root-requires-clause-known : goal.rising_root-requires-clause-known
rising_root-requires-clause-known c =
    let t = c.args.table.now in
    left_none c.args.m.now t c.args.store.now c.after_variables-start.result c.in_ok-known.known
    (c.in_ok-known.ensures ∙ ap (λ (n : ℕ). replicate n None) c.len.ensures)

pub returns-then-is_rising-clause-value : goal.returns-then-is_rising-clause-value
returns-then-is_rising-clause-value c =
    root_left c.args.m.now c.args.order.now c.requires.ordered c.rising_root.new.store
    c.in_ok-node.node c.in_ok-node.ensures.value

pub fixed_node-requires-clause-fixing : goal.fixed_node-requires-clause-fixing
fixed_node-requires-clause-fixing c = record {
  table = c.requires.table;
  ordered = c.requires.ordered;
  all_sizes = c.requires.all_sizes;
  apart = c.in_ok-strides.ensures;
  results = c.after_variables-start.ensures.results;
  within = c.after_variables-start.ensures.within;
}

pub fixed_node-requires-clause-store : goal.fixed_node-requires-clause-store
fixed_node-requires-clause-store c =
    let t = c.args.table.now in
    record {
      order = c.requires.store.order;
      sizes = c.requires.store.sizes;
      known = left_none c.args.m.now t c.args.store.now c.after_variables-start.result
          c.in_ok-known.known
          (c.in_ok-known.ensures ∙ ap (λ (n : ℕ). replicate n None) c.len.ensures);
    }

pub fixed_node-requires-clause-first : goal.fixed_node-requires-clause-first
fixed_node-requires-clause-first c =
    let first = first_of_all c.args.m.now c.args.order.now c.var_count.ensures.sizes in
    record { snapshot = first.0; first = first.1 }

pub returns-clause-value : goal.returns-clause-value
returns-clause-value c =
    root_left c.args.m.now c.args.order.now c.requires.ordered c.fixed_node.new.store
    c.in_ok-node-2.node c.in_ok-node-2.ensures.value
