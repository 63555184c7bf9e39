use Rattle.std.proofs.Common.{⊎_elim, ◌≡◌, ◌∙◌, ◌+◌, ◌-◌, ◌*◌, ◌/◌, ◌<◌, ◌≤◌, ℕ, List, false, not, length, take, drop, slice_index, refl, sym, ap, subst, arith}
use Rattle.std.proofs.lemmas.Bool.{cases_lt}
use Rattle.domains.specs.Names.{is_same}
use Rattle.domains.specs.Tables.{product}
use Rattle.char_function.proofs.Blocks.{times_le}
use Rattle.decision_diagram.proofs.ListItems.{read}
use Rattle.char_function.proofs.Varies.{any_found}
use Rattle.char_function.proofs.ColumnBlocks.{AreBlocks, blocks_of, moved, steps, varies_flat}
use Rattle.char_function.proofs.support.changes.Goals.{After-from, In-loop-j}
use Rattle.char_function.proofs.support.changes.Goals as goal
use Rattle.decision_diagram.proofs.Truths.{never_upto}
use Rattle.domains.proofs.FittingCodes.{product_after}

-- how the column lies in blocks
blocks : (c : After-from)
    → AreBlocks c.args.vars.now c.args.v c.from.result c.lists_from-stride.result
    (length c.args.column.now / (c.from.result * c.lists_from-stride.result))
blocks c =
    let vars = c.args.vars.now in
    let v = c.args.v in
    let size = c.from.result in
    let sized : size ≡ slice_index vars v =
    c.from.ensures ∙ sym (read vars v c.get.result.now 0 c.get.ensures) in
    blocks_of vars v size c.lists_from-stride.result (length c.args.column.now)
    c.len-stride.ensures.sizes c.requires.var sized c.lists_from-stride.ensures c.requires.column
    c.requires.few

-- a block of the column
record IsBlock (n j block stride : ℕ) : Type 0 where
  end : j * block + block ≤ n
  apart : stride ≤ block
  few : n ≤ 65536

is_block : (vars : List ℕ) (v size stride n j : ℕ)
    → AreBlocks vars v size stride (n / (size * stride)) → n ≡ product vars
    → j < n / (size * stride) → IsBlock n j (size * stride) stride
is_block vars v size stride n j b long low =
    let block = size * stride in
    let more = times_le (j + 1) (n / block) block (omega arith) in
    let next : (j + 1) * block ≡ j * block + block = omega arith in
    let whole : n / block * block ≡ product vars = b.whole in
    let within = b.within in
    let few = b.few in
    record {
      end = omega arith;
      apart = within;
      few = omega arith;
    }

here : (c : In-loop-j)
    → IsBlock (length c.args.column.now) c.loop-j.j
    (c.from.result * c.lists_from-stride.result) c.lists_from-stride.result
here c =
    is_block c.args.vars.now c.args.v c.from.result c.lists_from-stride.result
    (length c.args.column.now) c.loop-j.j (blocks (goal.at.overflow_mul-start c).After-from)
    c.requires.column c.loop-j-test.true

-- its neighbours as the body reads them
neighbours : (column : List ℕ) (j block stride : ℕ)
    → not (is_same (take (j * block + (block - stride) - j * block) (drop (j * block) column))
    (take (j * block + stride + (block - stride) - (j * block + stride))
    (drop (j * block + stride) column))) ≡ steps column block stride j
neighbours column j block stride =
    moved column (j * block + (block - stride) - j * block) (j * block)
    (j * block + stride + (block - stride) - (j * block + stride)) (j * block + stride)
    (block - stride) (j * block) (block - stride) (j * block + stride) (omega arith) refl
    (omega arith) refl

pub lists_from-stride-requires-clause-few : goal.lists_from-stride-requires-clause-few
lists_from-stride-requires-clause-few c =
    let below = product_after c.args.vars.now (c.args.v + 1) c.len-stride.ensures.sizes in
    let few = c.requires.few in
    omega arith

pub overflow_mul-block : goal.overflow_mul-block
overflow_mul-block c =
    let vars = c.args.vars.now in
    let v = c.args.v in
    let block = (blocks (goal.at.overflow_mul-block c).After-from).block in
    let below = product_after vars v c.len-stride.ensures.sizes in
    let few = c.requires.few in
    omega arith

pub overflow_sub-long : goal.overflow_sub-long
overflow_sub-long c = (blocks (goal.at.overflow_sub-long c).After-from).within

pub nonzero_div-count : goal.nonzero_div-count
nonzero_div-count c =
    let some = (blocks (goal.at.nonzero_div-count c).After-from).some in
    omega arith

pub loop-j-init : goal.loop-j-init
loop-j-init c k low =
    absurd (omega arith)

pub overflow_mul-start : goal.overflow_mul-start
overflow_mul-start c = let h = here c in omega arith

pub overflow_add-next : goal.overflow_add-next
overflow_add-next c = let h = here c in omega arith

pub overflow_add-start : goal.overflow_add-start
overflow_add-start c = let h = here c in omega arith

pub slice_bounds-are_same-count : goal.slice_bounds-are_same-count
slice_bounds-are_same-count c = let h = here c in omega arith

pub slice_bounds-are_same-start : goal.slice_bounds-are_same-start
slice_bounds-are_same-start c = let h = here c in omega arith

pub slice_bounds-are_same-end : goal.slice_bounds-are_same-end
slice_bounds-are_same-end c = let h = here c in omega arith

pub overflow_add-next-in-loop-j : goal.overflow_add-next-in-loop-j
overflow_add-next-in-loop-j c =
    let h = here (goal.at.overflow_add-next-in-loop-j c).In-loop-j in omega arith

pub slice_bounds-are_same-count-in-loop-j : goal.slice_bounds-are_same-count-in-loop-j
slice_bounds-are_same-count-in-loop-j c =
    let h = here (goal.at.slice_bounds-are_same-count-in-loop-j c).In-loop-j in omega arith

pub slice_bounds-are_same-start-in-loop-j : goal.slice_bounds-are_same-start-in-loop-j
slice_bounds-are_same-start-in-loop-j c =
    let h = here (goal.at.slice_bounds-are_same-start-in-loop-j c).In-loop-j in omega arith

pub slice_bounds-are_same-end-in-loop-j : goal.slice_bounds-are_same-end-in-loop-j
slice_bounds-are_same-end-in-loop-j c =
    let h = here (goal.at.slice_bounds-are_same-end-in-loop-j c).In-loop-j in omega arith

pub returns-then-not-are_same : goal.returns-then-not-are_same
returns-then-not-are_same c =
    let vars = c.args.vars.now in
    let v = c.args.v in
    let column = c.args.column.now in
    let stride = c.lists_from-stride.result in
    let block = c.from.result * stride in
    let b = blocks (goal.at.returns-then-not-are_same c).After-from in
    let flat = varies_flat vars v column block stride c.len-stride.ensures.sizes c.requires.var
    c.requires.column c.lists_from-stride.ensures b.block b.within in
    let low = c.loop-j-test.true in
    let count = b.count_is in
    sym (flat ∙ any_found (steps column block stride) (product (take v vars)) c.loop-j.j
    (omega arith) (sym (neighbours column c.loop-j.j block stride)
    ∙ ap not (sym c.are_same.ensures) ∙ ap not c.if-not-are_same.true))

pub loop-j-preserved : goal.loop-j-preserved
loop-j-preserved c k k_low =
    let column = c.args.column.now in
    let stride = c.lists_from-stride.result in
    let block = c.from.result * stride in
    let j = c.loop-j.j in
    ⊎_elim
    (λ less. c.loop-j.invariant k less)
    (λ over.
    let is : j ≡ k = omega arith in
    subst (λ (i : ℕ). steps column block stride i ≡ false) is
    (sym (neighbours column j block stride) ∙ ap not (sym c.are_same.ensures)
    ∙ ap not c.if-not-are_same.false))
    (cases_lt k j)

pub returns : goal.returns
returns c =
    let vars = c.args.vars.now in
    let v = c.args.v in
    let column = c.args.column.now in
    let stride = c.lists_from-stride.result in
    let block = c.from.result * stride in
    let b = blocks (goal.at.returns c).After-from in
    let flat = varies_flat vars v column block stride c.len-stride.ensures.sizes c.requires.var
    c.requires.column c.lists_from-stride.ensures b.block b.within in
    let count = b.count_is in
    let test = c.loop-j-test.false in
    sym (flat ∙ never_upto (steps column block stride) (product (take v vars))
    (λ k low. c.loop-j.invariant k (omega arith)))
