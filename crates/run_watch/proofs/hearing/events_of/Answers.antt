use Rattle.std.proofs.Common.{◌≡◌, ℕ, List, ◌∷◌, ◌++◌, [], Option, length, map, sym, ap, ◌∙◌, arith}
use Rattle.polis_base.specs.Lists.{upto}
use Rattle.run_watch.specs.Monitors.{watched}
use Rattle.run_watch.proofs.Hears.{watched_by}
use Rattle.run_watch.proofs.hearing.events_of.Goals as goal
use Rattle.polis_base.proofs.UptoPlaces.{map_upto}

pub loop-e-preserved : goal.loop-e-preserved
loop-e-preserved c =
    let net = c.args.net.now in
    let monitor = c.args.monitor.now in
    let e = c.loop-e.e in
    c.in_ok-push.ensures.ok
    ∙ ap (λ (l : List (Option ℕ)). l ++ c.event_of-heard_as.result ∷ []) c.loop-e.invariant
    ∙ ap (λ (o : Option ℕ). map (watched net monitor) (upto e) ++ o ∷ [])
    (c.event_of-heard_as.ensures
    ∙ watched_by net monitor e c.get-event.result.now c.get-event.ensures)
    ∙ sym (map_upto (watched net monitor) e)

pub returns : goal.returns
returns c =
    let end = c.len-e-end.ensures in
    let off = c.loop-e-test.false in
    let all : c.loop-e.e ≡ length c.args.net.now.events = omega arith in
    c.loop-e.invariant
    ∙ ap (λ (n : ℕ). map (watched c.args.net.now c.args.monitor.now) (upto n)) all
