use Rattle.std.proofs.Common.{◌∙◌, ap, sym}
use Rattle.std.specs.Option.{option_map}
use Rattle.net_reader.specs.declared.raw.RawDomain.{RawDomain}
use Rattle.net_names.proofs.NumberIn.{number_within, found_at, found_nowhere}
use Rattle.net_names.proofs.scope.Scope.shape_of.Goals as goal

pub get-requires : goal.get-requires
get-requires c =
    number_within (λ (x : RawDomain). x.name) c.args.name c.args.self.now.raw.now.domains
    c.in-Some.number (sym (c.number.ensures ∙ c.args.self.now.domain_numbers c.args.name)
    ∙ c.in-Some.is)

pub returns-in-Some : goal.returns-in-Some
returns-in-Some c =
    sym (ap (option_map (λ (x : RawDomain). x.shape))
    (found_at (λ (x : RawDomain). x.name) c.args.name c.args.self.now.raw.now.domains
    c.number.result c.in-Some.number c.get.result.now
    (c.number.ensures ∙ c.args.self.now.domain_numbers c.args.name) c.in-Some.is c.get.ensures))

pub returns-in-None : goal.returns-in-None
returns-in-None c =
    sym (ap (option_map (λ (x : RawDomain). x.shape))
    (found_nowhere (λ (x : RawDomain). x.name) c.args.name c.args.self.now.raw.now.domains
    c.number.result (c.number.ensures ∙ c.args.self.now.domain_numbers c.args.name) c.in-None.is))
