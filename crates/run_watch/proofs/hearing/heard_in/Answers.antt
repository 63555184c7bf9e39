use Rattle.std.proofs.Common.{List, filter_map, ap, ◌∙◌}
use Rattle.run_watch.specs.Monitors.{heard_by}
use Rattle.run_watch.specs.declared.emission.Emission.{Emission}
use Rattle.run_watch.specs.inner.Hearings.{looked_up}
use Rattle.run_watch.proofs.Fitting.{heard_is}
use Rattle.run_watch.proofs.hearing.heard_in.Goals as goal

pub returns : goal.returns
returns c = λ monitor looked.
    heard_is c.args.net.now monitor c.args.hearing.now c.args.journal.now c.in_ok-heard.heard
    looked c.requires
    (c.in_ok-heard.ensures
    ∙ ap
    (λ (l : List Emission). filter_map (heard_by (looked_up c.args.hearing.now.events)) l)
    c.in_ok-outputs.ensures)
