use Rattle.std.proofs.Common.{◌≡◌, ◌∙◌, ◌+◌, ℕ, List, sym, subst, arith}
use Rattle.char_function.proofs.Blocks.{AreFirstLeft, first_next, first_none, last_done}
use Rattle.decision_diagram.proofs.Growth.{keeps_trans, keeps_same}
use Rattle.char_function.proofs.IsTableOf.{numbers_long}
use Rattle.char_function.proofs.levels.last_level.Goals as goal

pub loop-i-init : goal.loop-i-init
loop-i-init c = record {
  kept = keeps_same c.args.store.now;
  known = c.requires.known;
  made = subst (λ (xs : List ℕ). AreFirstLeft c.args.fixing.now.machine.now
      c.args.fixing.now.order.now c.args.store.now c.args.fixing.now.start xs 0)
      (sym c.in_ok-nodes.ensures.items) (first_none c.args.fixing.now.machine.now
      c.args.fixing.now.order.now c.args.store.now c.args.fixing.now.start);
}

pub known_outcome-requires-clause-order : goal.known_outcome-requires-clause-order
known_outcome-requires-clause-order c = c.loop-i.invariant.kept.order ∙ c.requires.store.order

pub known_outcome-requires-clause-known : goal.known_outcome-requires-clause-known
known_outcome-requires-clause-known c = c.loop-i.invariant.known

pub known_outcome-requires-clause-snapshot : goal.known_outcome-requires-clause-snapshot
known_outcome-requires-clause-snapshot c =
    let a = numbers_long c.args.fixing.now.machine.now c.args.fixing.now.table.now
    c.requires.fixing.table in
    let b = c.loop-i-test.true in
    let d = c.len-count.ensures in
    omega arith

pub make_outcome-requires-clause-store : goal.make_outcome-requires-clause-store
make_outcome-requires-clause-store c = record {
  order = c.loop-i.invariant.kept.order ∙ c.requires.store.order;
  sizes = c.loop-i.invariant.kept.sizes ∙ c.requires.store.sizes;
  known = c.loop-i.invariant.known;
}

pub make_outcome-requires-clause-snapshot : goal.make_outcome-requires-clause-snapshot
make_outcome-requires-clause-snapshot c =
    let a = numbers_long c.args.fixing.now.machine.now c.args.fixing.now.table.now
    c.requires.fixing.table in
    let b = c.loop-i-test.true in
    let d = c.len-count.ensures in
    omega arith

pub returns-in_err-node-clause-kept : goal.returns-in_err-node-clause-kept
returns-in_err-node-clause-kept c =
    keeps_trans c.args.store.now c.loop-i.store c.make_outcome.new.store c.loop-i.invariant.kept
    c.make_outcome.ensures.kept

pub returns-in_err-push-2-clause-kept : goal.returns-in_err-push-2-clause-kept
returns-in_err-push-2-clause-kept c =
    keeps_trans c.args.store.now c.loop-i.store c.make_outcome.new.store c.loop-i.invariant.kept
    c.make_outcome.ensures.kept

pub loop-i-preserved-in-Some : goal.loop-i-preserved-in-Some
loop-i-preserved-in-Some c =
    let m = c.args.fixing.now.machine.now in
    let order = c.args.fixing.now.order.now in
    let start = c.args.fixing.now.start in
    let s = c.loop-i.store in
    let a = numbers_long m c.args.fixing.now.table.now c.requires.fixing.table in
    let b = c.loop-i-test.true in
    let d = c.len-count.ensures in
    record {
      kept = c.loop-i.invariant.kept;
      known = c.loop-i.invariant.known;
      made = subst (λ (xs : List ℕ). AreFirstLeft m order s start xs (c.loop-i.i + 1))
          (sym c.in_ok-push.ensures.items)
          (first_next m order s s start c.loop-i.nodes.items c.loop-i.i c.in-Some.node
          c.loop-i.invariant.made (keeps_same s) (omega arith) c.in-Some.ensures.value
          c.in-Some.ensures.level);
    }

pub loop-i-preserved : goal.loop-i-preserved
loop-i-preserved c =
    let m = c.args.fixing.now.machine.now in
    let order = c.args.fixing.now.order.now in
    let start = c.args.fixing.now.start in
    let new = c.make_outcome.new.store in
    let a = numbers_long m c.args.fixing.now.table.now c.requires.fixing.table in
    let b = c.loop-i-test.true in
    let d = c.len-count.ensures in
    record {
      kept = keeps_trans c.args.store.now c.loop-i.store new c.loop-i.invariant.kept
          c.make_outcome.ensures.kept;
      known = c.in_ok-node.ensures.known;
      made = subst (λ (xs : List ℕ). AreFirstLeft m order new start xs (c.loop-i.i + 1))
          (sym c.in_ok-push-2.ensures.items)
          (first_next m order c.loop-i.store new start c.loop-i.nodes.items c.loop-i.i
          c.in_ok-node.node c.loop-i.invariant.made c.make_outcome.ensures.kept (omega arith)
          c.in_ok-node.ensures.value c.in_ok-node.ensures.level);
    }

pub returns-clause-kept : goal.returns-clause-kept
returns-clause-kept c = c.loop-i.invariant.kept

pub returns-clause-level : goal.returns-clause-level
returns-clause-level c =
    let m = c.args.fixing.now.machine.now in
    let order = c.args.fixing.now.order.now in
    let f = c.requires.fixing in
    let a = numbers_long m c.args.fixing.now.table.now f.table in
    let d = c.len-count.ensures in
    let done : c.loop-i.i ≡ c.len-count.result = let x = c.loop-i-test.false in
    let y = c.loop-i.auto.i-end in omega arith in
    last_done m order f.ordered c.loop-i.store c.args.fixing.now.start f.results c.loop-i.nodes.items
    c.loop-i.i (omega arith) c.loop-i.invariant.made
