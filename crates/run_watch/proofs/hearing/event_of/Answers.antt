use Rattle.std.proofs.Common.{length, below_more, sym, ◌∙◌, arith}
use Rattle.polis_base.proofs.Found.{find_none, find_only}
use Rattle.std.proofs.lemmas.Option.{slice_get_within}
use Rattle.run_watch.specs.Monitors.{hears_at}
use Rattle.run_watch.proofs.Hears.{hears_by}
use Rattle.run_watch.proofs.hearing.event_of.Goals as goal

pub returns-then-has_name : goal.returns-then-has_name
returns-then-has_name c =
    let monitor = c.args.monitor.now in
    let name = c.args.name.now in
    let w = c.loop-w.w in
    sym
    (find_only (hears_at monitor name) (length monitor.events) w
    (slice_get_within monitor.events w c.get-event.result.now c.get-event.ensures)
    (hears_by monitor name w c.get-event.result.now c.get-event.ensures
    ∙ sym c.has_name.ensures ∙ c.if-has_name.true)
    c.loop-w.invariant)

pub loop-w-preserved : goal.loop-w-preserved
loop-w-preserved c =
    let monitor = c.args.monitor.now in
    let name = c.args.name.now in
    let w = c.loop-w.w in
    below_more _ _ c.loop-w.invariant
    (hears_by monitor name w c.get-event.result.now c.get-event.ensures
    ∙ sym c.has_name.ensures ∙ c.if-has_name.false)

pub returns : goal.returns
returns c =
    let monitor = c.args.monitor.now in
    sym
    (find_none (hears_at monitor c.args.name.now) (length monitor.events)
    (λ k low. c.loop-w.invariant k
    (let end = c.len-w-end.ensures in
    let off = c.loop-w-test.false in
    omega arith)))
