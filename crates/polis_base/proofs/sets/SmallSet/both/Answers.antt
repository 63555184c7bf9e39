use Rattle.std.proofs.Common.{◌&&◌, ◌==◌, ap, ◌∙◌}
use Rattle.std.specs.Int.{bit_at}
use Rattle.polis_base.proofs.SmallSets.{both_bits}
use Rattle.polis_base.proofs.sets.SmallSet.both.Goals as goal

pub returns : goal.returns
returns c j = both_bits c.self.inside.bits c.other.inside.bits j
    ∙ ap (λ n. bit_at n j == 1 && bit_at c.other.inside.bits j == 1) c.self.view_is
    ∙ ap (λ n. bit_at c.args.self j == 1 && bit_at n j == 1) c.other.view_is
