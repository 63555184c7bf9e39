use Rattle.std.proofs.Common.{◌∙◌, sym, arith}
use Rattle.net_reader.specs.declared.raw.RawDomain.{RawDomain}
use Rattle.net_names.proofs.NumberIn.{number_within}
use Rattle.net_names.proofs.scope.Scope.number_of.Goals as goal

pub overflow_cast-result : goal.overflow_cast-result
overflow_cast-result c =
    let below = number_within (λ (x : RawDomain). x.name) c.args.name
    c.args.self.now.raw.now.domains c.in-Some.number
    (sym (c.number.ensures ∙ c.args.self.now.domain_numbers c.args.name) ∙ c.in-Some.is) in
    omega (arith, below, c.requires)
