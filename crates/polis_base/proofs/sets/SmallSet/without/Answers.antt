use Rattle.std.proofs.Common.{◌<◌, ◌^◌, ◌&&◌, ◌==◌, not, rules, ap, ◌∙◌}
use Rattle.std.specs.Int.{bit_at}
use Rattle.polis_base.proofs.SmallSets.{without_bit}
use Rattle.polis_base.proofs.sets.SmallSet.without.Goals as goal

pub returns : goal.returns
returns c j =
    let fits : c.self.inside.bits < 2 ^ 64 = search rules in
    without_bit c.self.inside.bits c.args.k j c.requires fits
    ∙ ap (λ n. not (j == c.args.k) && bit_at n j == 1) c.self.view_is
