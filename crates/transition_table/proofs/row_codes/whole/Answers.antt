use Rattle.std.proofs.Common.{◌≡◌, ◌<◌, ◌==◌, ℕ, nat_lt, length, slice_index, sym, ap, ◌∙◌, arith}
use Rattle.std.specs.Int.{bit_at}
use Rattle.std.proofs.lemmas.Option.{get_or_from_slice_get}
use Rattle.transition_table.proofs.CodeSets.{size_of_var}
use Rattle.transition_table.proofs.Pushed.{long_pushed, each_pushed}
use Rattle.transition_table.proofs.row_codes.whole.Goals as goal

pub first-requires : goal.first-requires
first-requires c =
    let below : c.loop-var.var < length c.args.machine.now.vars =
    rw c.len-var-end.ensures.len at c.loop-var-test.true in
    let small = size_of_var c.args.machine.now c.loop-var.var c.get.result.now c.get.ensures below
    in
    let same = c.from.ensures in
    omega arith

pub loop-var-preserved : goal.loop-var-preserved
loop-var-preserved c =
    let var = c.loop-var.var in
    let sets = c.loop-var.sets in
    let new = c.push.new.self in
    let all = c.first.result in
    let is = c.in_ok-push.ensures.ok in
    let vars = c.args.machine.now.vars in
    let size = get_or_from_slice_get vars var c.get.result.now 0 c.get.ensures in
    record {
      long = long_pushed sets new all var is c.loop-var.invariant.long;
      each = each_pushed
          (λ (k set : ℕ). (code : ℕ) → (bit_at set code == 1) ≡ nat_lt code (slice_index vars k))
          0 sets new all var is c.loop-var.invariant.long c.loop-var.invariant.each
          (λ code. c.first.ensures code ∙ ap (nat_lt code) (c.from.ensures ∙ sym size));
    }

pub returns : goal.returns
returns c =
    let end = c.len-var-end.ensures.len in
    let test = c.loop-var-test.false in
    record {
      long =
          let long = c.loop-var.invariant.long in
          let most = c.loop-var.auto.var-end in omega arith;
      each = λ var below. c.loop-var.invariant.each var (omega arith);
    }
