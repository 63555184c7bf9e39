use Rattle.std.proofs.Common.{◌∙◌, ap, sym}
use Rattle.std.specs.Option.{option_map}
use Rattle.net_reader.specs.declared.raw.RawState.{RawState}
use Rattle.net_names.proofs.NumberIn.{number_within, found_at, found_nowhere}
use Rattle.net_names.proofs.machine_names.MachineNames.state_domain.Goals as goal

pub get-requires : goal.get-requires
get-requires c =
    number_within (λ (x : RawState). x.name) c.args.name c.args.self.now.machine.now.states
    c.in-Some.number (sym (c.number.ensures ∙ c.args.self.now.state_numbers c.args.name)
    ∙ c.in-Some.is)

pub returns-in-Some : goal.returns-in-Some
returns-in-Some c =
    sym (ap (option_map (λ (x : RawState). x.domain))
    (found_at (λ (x : RawState). x.name) c.args.name c.args.self.now.machine.now.states
    c.number.result c.in-Some.number c.get.result.now
    (c.number.ensures ∙ c.args.self.now.state_numbers c.args.name) c.in-Some.is c.get.ensures))

pub returns-in-None : goal.returns-in-None
returns-in-None c =
    sym (ap (option_map (λ (x : RawState). x.domain))
    (found_nowhere (λ (x : RawState). x.name) c.args.name c.args.self.now.machine.now.states
    c.number.result (c.number.ensures ∙ c.args.self.now.state_numbers c.args.name) c.in-None.is))
