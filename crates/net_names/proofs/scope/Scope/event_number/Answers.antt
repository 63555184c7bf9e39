use Rattle.std.proofs.Common.{◌∙◌, sym, arith}
use Rattle.net_reader.specs.declared.raw.RawEvent.{RawEvent}
use Rattle.net_names.proofs.NumberIn.{number_within}
use Rattle.net_names.proofs.scope.Scope.event_number.Goals as goal

pub overflow_cast-result : goal.overflow_cast-result
overflow_cast-result c =
    let below = number_within (λ (x : RawEvent). x.name) c.args.name c.args.self.now.raw.now.events
    c.in-Some.number (sym (c.number.ensures ∙ c.args.self.now.event_numbers c.args.name)
    ∙ c.in-Some.is) in
    omega (arith, below, c.requires)
