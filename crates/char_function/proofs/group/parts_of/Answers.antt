use Rattle.std.proofs.Common.{◌∙◌, get_or, refl, arith}
use Rattle.std.proofs.lemmas.List.{length-set}
use Rattle.char_function.specs.inner.Points.{points}
use Rattle.char_function.proofs.GroupNodes.{parts_more}
use Rattle.char_function.proofs.group.parts_of.Goals as goal

pub loop-i-preserved : goal.loop-i-preserved
loop-i-preserved c =
    let m = c.args.m.now in
    let parts = c.loop-i.parts.items in
    let k = c.loop-i.i-index in
    let group = c.args.group.now in
    let long = c.loop-i.invariant.long in
    let own = c.from.ensures in
    let below = c.code_at-code.ensures.below in
    let size = c.requires.size in
    record {
      long = length-set parts c.from.result c.push.new.self ∙ long;
      parts = parts_more (points m) c.args.item c.args.size group parts k (get_or group k 0) 0
          c.from.result c.push.new.self c.index_mut.result.now c.index_mut.result.now long
          c.loop-i.invariant.parts c.loop-i-test.true refl (own ∙ c.code_at-code.ensures.code)
          (omega arith) c.index_mut.ensures.value c.in_ok-push.ensures.ok;
    }
