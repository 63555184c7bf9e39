use Rattle.std.proofs.Common.{List, ◌∷◌, ◌++◌, [], filter_map, sym, ap, ◌∙◌, arith}
use Rattle.std.proofs.lemmas.List.{take_all}
use Rattle.run_watch.specs.declared.emission.Emission.{Emission}
use Rattle.run_watch.specs.Monitors.{heard_by}
use Rattle.run_watch.specs.inner.Hearings.{looked_up}
use Rattle.run_watch.proofs.Hears.{heard_more}
use Rattle.run_watch.proofs.hearing.heard_of.Goals as goal

pub loop-k-preserved : goal.loop-k-preserved
loop-k-preserved c =
    let events = c.args.events.now in
    let x = c.get-output.result.now in
    c.in_ok-push_heard.ensures
    ∙ ap (λ (l : List Emission). l ++ filter_map (heard_by (looked_up events)) (x ∷ [])) c.loop-k.invariant
    ∙ sym (heard_more events c.args.outputs.now c.loop-k.k x c.get-output.ensures)

pub returns : goal.returns
returns c =
    let end = c.len-k-end.ensures in
    let off = c.loop-k-test.false in
    c.loop-k.invariant
    ∙ ap (filter_map (heard_by (looked_up c.args.events.now)))
    (take_all c.loop-k.k c.args.outputs.now (omega arith))
