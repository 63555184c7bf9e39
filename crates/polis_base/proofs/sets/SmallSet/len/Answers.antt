use Rattle.std.proofs.Common.{◌<◌, ◌^◌, ◌∙◌, ap, length, rules}
use Rattle.polis_base.specs.Sets.{members}
use Rattle.polis_base.proofs.SmallSets.{ones_are}
use Rattle.polis_base.proofs.sets.SmallSet.len.Goals as goal

pub returns-clause-members : goal.returns-clause-members
returns-clause-members c =
    let fits : c.self.inside.bits < 2 ^ 64 = search rules in
    c.from.ensures ∙ ones_are c.self.inside.bits fits ∙ ap (λ n. length (members n)) c.self.view_is
