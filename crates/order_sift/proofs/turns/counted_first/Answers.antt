use Rattle.std.proofs.Common.{◌≡◌, ◌∙◌, slice_index, ap, sym, arith}
use Rattle.std.proofs.lemmas.Option.{get_or_from_slice_get}
use Rattle.transition_table.specs.Computed.{char}
use Rattle.transition_table.specs.Orders.{sizes_of}
use Rattle.char_function.specs.Sizes.{Size}
use Rattle.order_sift.proofs.ChainSteps.{chain_whole}
use Rattle.order_sift.proofs.turns.counted_first.Goals as goal

pub get-count-requires : goal.get-count-requires
get-count-requires c =
    let l = c.len.ensures.len in
    let b = c.in_ok-chain.ensures.chain.long_backs in
    omega arith

pub returns-clause-at : goal.returns-clause-at
returns-clause-at c =
    let m = c.args.sifting.now.machine.now in
    let sure = c.requires.sifting.sure in
    let o = c.in_ok-order.order in
    let allowed = c.in_ok-order.ensures.allowed in
    let chain = c.in_ok-chain.chain in
    let laws = c.laws_of_levels.ensures.laws in
    let count : c.get-count.result.now ≡ Size m o =
    sym (get_or_from_slice_get chain.backs c.len.result c.get-count.result.now 0 c.get-count.ensures)
    ∙ ap (slice_index chain.backs) c.len.ensures.len
    ∙ chain_whole m o laws sure allowed chain.classes chain.backs
    c.in_ok-chain.ensures.chain
    ∙ laws.size_by_sets (char m) (sizes_of m) o allowed.permutation
    allowed.long c.laws_of_levels.ensures.sizes in
    record {
      known = c.in_ok-chain.ensures.known;
      counted = record { allowed = allowed; counted = count };
      chain = c.in_ok-chain.ensures.chain;
    }
