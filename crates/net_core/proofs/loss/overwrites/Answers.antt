use Rattle.std.proofs.Common.{ap, ◌∙◌, ◌==◌}
use Rattle.std.specs.Prelude.{position}
use Rattle.net_core.proofs.Losses.{overwrites_at, overwrites_nowhere}
use Rattle.net_core.proofs.loss.overwrites.Goals as goal

pub returns-in-Some : goal.returns-in-Some
returns-in-Some c =
    let a = c.in-Dep in
    let place = c.place_of.ensures ∙ ap (position (λ input. input == a.event)) c.as_slice.ensures in
    overwrites_at c.args.machine.now c.args.before.now c.args.entry.now a.from a.to a.event a.code
    c.in-Some.place c.get.result.now c.place_of.result a.is place c.in-Some.is c.get.ensures

pub returns-in-None : goal.returns-in-None
returns-in-None c =
    let a = c.in-Dep in
    let place = c.place_of.ensures ∙ ap (position (λ input. input == a.event)) c.as_slice.ensures in
    overwrites_nowhere c.args.machine.now c.args.before.now c.args.entry.now a.from a.to a.event
    a.code c.place_of.result a.is place c.in-None.is
