use Rattle.std.proofs.Common.{◌≡◌, ◌<◌, ◌&&◌, ◌==◌, length, slice_index, ◌≢◌, true≢false, arith, sym, ap, ◌∙◌}
use Rattle.std.specs.Int.{bit_at}
use Rattle.std.proofs.lemmas.List.{length-set}
use Rattle.std.proofs.lemmas.Bool.{eqb-true}
use Rattle.polis_base.proofs.SmallSets.{no_bits}
use Rattle.transition_table.proofs.Bits.{alike, bits_at}
use Rattle.determinism.proofs.LeastCodes.{written}
use Rattle.determinism.proofs.overlap.common.Goals as goal

pub returns-then-is_empty-clause-none : goal.returns-then-is_empty-clause-none
returns-then-is_empty-clause-none c = λ h.
    let k = c.loop-k.k in
    let x = c.get.result.now in
    let y = c.get-in-loop-k.result.now in
    let set = c.both-codes.result in
    let end = c.len-k-end.ensures in
    let below = c.loop-k-test.true in (
      k,
      omega arith,
      λ code.
          sym (bits_at c.args.first.now c.args.second.now k x y set code c.get.ensures
          c.get-in-loop-k.ensures (c.both-codes.ensures code))
          ∙ no_bits set code (eqb-true set 0 (sym c.is_empty.ensures ∙ c.if-is_empty.true)),
    )

pub loop-k-preserved : goal.loop-k-preserved
loop-k-preserved c =
    let k = c.loop-k.k in
    let x = c.get.result.now in
    let y = c.get-in-loop-k.result.now in
    let set = c.both-codes.result in
    let sets = c.loop-k.sets in
    let end = c.len-k-end.ensures in
    let below = c.loop-k-test.true in
    let same = c.loop-k.invariant.same in
    let long = c.requires.long in
    let some : set ≢ 0 = λ none.
    true≢false (sym (alike set 0 none) ∙ sym c.is_empty.ensures ∙ c.if-is_empty.false) in
    let there : k < length sets = omega arith in
    record {
      same = ap length c.set.ensures ∙ length-set sets k set ∙ same;
      some = rw c.set.ensures
          (written sets k set (λ j n. 0 < n) there c.loop-k.invariant.some (omega (arith, some)));
      both = λ j code within.
          rw c.set.ensures
          (written sets k set (λ j n.
          (bit_at n code == 1)
          ≡ (bit_at (slice_index c.args.first.now j) code == 1
          && bit_at (slice_index c.args.second.now j) code == 1)) there
          (λ j w. c.loop-k.invariant.both j code w)
          (bits_at c.args.first.now c.args.second.now k x y set code c.get.ensures
          c.get-in-loop-k.ensures (c.both-codes.ensures code)) j within);
    }
