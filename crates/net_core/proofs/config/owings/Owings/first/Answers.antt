use Rattle.std.proofs.Common.{◌≡◌, ◌<◌, Some, length, ap, sym, subst, ◌∙◌, arith}
use Rattle.std.proofs.lemmas.List.{get_or_default}
use Rattle.polis_base.specs.Lists.{head_of}
use Rattle.net_core.specs.declared.config.emissions.Emission.{Emission}
use Rattle.net_core.specs.Emissions.{no_emission, owed_to}
use Rattle.polis_base.specs.Sets.{members}
use Rattle.net_core.proofs.OwedByEmissions.{first_is}
use Rattle.net_core.proofs.config.owings.Owings.first.Goals as goal

pub returns-then-self-len : goal.returns-then-self-len
returns-then-self-len c =
    let records = c.self.inside.records.items in
    let front = c.self.inside.front in
    let m = c.least.result in
    let within : front < length records = omega arith in
    let is = c.index.ensures ∙ get_or_default records front c.index.result.now no_emission within in
    let lowest = subst (λ (r : Emission). head_of (members r.left) ≡ Some m) is
    c.least.ensures.first in
    ap Some (c.delivery.ensures ∙ ap (λ (r : Emission). owed_to r m) is)
    ∙ sym (first_is records front m within lowest) ∙ ap head_of c.self.view_is
