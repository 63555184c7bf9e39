use Rattle.std.proofs.Common.{◌≡◌, sym, ap, ◌∙◌, take, drop, ◌+◌}
use Rattle.std.proofs.lemmas.List.{drop-drop}
use Rattle.event_buffer.specs.Arrivals.{OutgoingState}
use Rattle.event_buffer.proofs.outgoing.Outgoing.pass.Goals as goal

abbrev passed : OutgoingState → OutgoingState
passed out = record { machine = out.machine; stamp = out.stamp; arrivals = drop 1 out.arrivals }

pub returns-then-self : goal.returns-then-self
returns-then-self c =
    let i = c.self.inside in
    let all = take i.end i.arrivals in
    let rest : drop (i.next + 1) all ≡ drop 1 (drop i.next all) =
    sym (drop-drop 1 i.next all) in
    (λ k. record { machine = i.machine; stamp = i.stamp; arrivals = rest k })
    ∙ ap passed c.self.view_is
