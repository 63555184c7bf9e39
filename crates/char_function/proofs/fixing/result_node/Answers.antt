use Rattle.std.proofs.Common.{◌≡◌, ◌∙◌, ◌<◌, ◌==◌, ℕ, List, length, slice_index, ap, sym, subst, arith}
use Rattle.domains.specs.Orders.{place}
use Rattle.decision_diagram.specs.Diagrams.{IsNode, level_of, value_of}
use Rattle.decision_diagram.proofs.Fits.{fits_at}
use Rattle.char_function.proofs.FixedKids.{kid_here, kid_or, kid_value, one_kid}
use Rattle.char_function.proofs.ListItems.{below_within}
use Rattle.char_function.proofs.fixing.result_node.Goals as goal
use Rattle.domains.proofs.Places.{place_below}

-- an item with a code is there
item_there : (sizes : List ℕ) (item size code : ℕ) → size ≡ slice_index sizes item → code < size
    → item < length sizes
item_there sizes item size code sized below =
    below_within sizes item code (subst (λ (k : ℕ). code < k) sized below)

pub node-requires-clause-var : goal.node-requires-clause-var
node-requires-clause-var c =
    item_there c.args.store.now.sizes c.args.item c.args.size c.args.code c.requires.size
    c.requires.code

pub node-requires-clause-nodes : goal.node-requires-clause-nodes
node-requires-clause-nodes c code low =
    let s = c.args.store.now in
    let f = c.constant-none.result in
    let k = one_kid c.same_kids-kids.result f c.args.kid c.args.size c.args.code c.from-2.result
    c.from.result code c.same_kids-kids.ensures c.from-2.ensures c.from.ensures c.requires.few
    c.requires.code low in
    subst (IsNode s) (sym k.1)
    (kid_or (IsNode s) (code == c.args.code) c.args.kid f c.requires.kid
    c.constant-none.ensures.node)

pub node-requires-clause-later : goal.node-requires-clause-later
node-requires-clause-later c code low =
    let s = c.args.store.now in
    let f = c.constant-none.result in
    let k = one_kid c.same_kids-kids.result f c.args.kid c.args.size c.args.code c.from-2.result
    c.from.result code c.same_kids-kids.ensures c.from-2.ensures c.from.ensures c.requires.few
    c.requires.code low in
    let reduced = c.same_value_same_node.ensures.reduced in
    let lengths = reduced.lengths in
    let item = item_there s.sizes c.args.item c.args.size c.args.code c.requires.size
    c.requires.code in
    let within = place_below s.order reduced.order c.args.item (omega arith) in
    let last : place s.order c.args.item < level_of s f = let e = c.constant-none.ensures.level in
    omega arith in
    subst (λ (n : ℕ). place s.order c.args.item < level_of s n) (sym k.1)
    (kid_or (λ (n : ℕ). place s.order c.args.item < level_of s n) (code == c.args.code) c.args.kid f
    c.requires.later last)

pub returns-clause-value : goal.returns-clause-value
returns-clause-value c = record {
  node = c.in_ok-node.ensures.value.node;
  value = λ codes fit.
      let s = c.args.store.now in
      let f = c.constant-none.result in
      let kept = c.in_ok-node.ensures.kept in
      let there = item_there s.sizes c.args.item c.args.size c.args.code c.requires.size
      c.requires.code in
      let below = fits_at s.sizes codes (rw kept.sizes at fit) c.args.item there in
      let code = slice_index codes c.args.item in
      let long = c.same_kids-kids.ensures in
      let k = kid_here c.same_kids-kids.result f c.args.kid c.args.size c.args.code c.from-2.result
      c.from.result code long c.from-2.ensures c.from.ensures c.requires.few c.requires.code
      (omega arith) in
      c.in_ok-node.ensures.value.value codes fit
      ∙ ap (λ (n : ℕ). value_of s n codes) k
      ∙ kid_value s (code == c.args.code) c.args.kid f codes (c.constant-none.ensures.value codes);
}
