use Rattle.std.proofs.Common.{◌<◌, nat_lt, ap, arith, sym, ◌∙◌}
use Rattle.polis_base.proofs.SmallSets.{first_bits, ones_below}
use Rattle.polis_base.proofs.sets.SmallSet.first.Goals as goal

pub returns-then-count-eq64 : goal.returns-then-count-eq64
returns-then-count-eq64 c k = ones_below 64 k ∙ ap (nat_lt k) (sym c.if-count-eq64.true)

pub returns : goal.returns
returns c k =
    let most = c.requires in
    let other = c.if-count-eq64.false in
    let few : c.args.count < 64 = omega (arith, other) in
    first_bits c.args.count k few
