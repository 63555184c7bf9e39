use Rattle.std.proofs.Common.{◌||◌, ◌==◌, ap, ◌∙◌}
use Rattle.std.specs.Int.{bit_at}
use Rattle.polis_base.proofs.SmallSets.{with_bit}
use Rattle.polis_base.proofs.sets.SmallSet.with.Goals as goal

pub returns : goal.returns
returns c j = with_bit c.self.inside.bits c.args.k j c.requires
    ∙ ap (λ n. j == c.args.k || bit_at n j == 1) c.self.view_is
