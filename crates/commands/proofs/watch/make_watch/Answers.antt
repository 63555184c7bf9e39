use Rattle.commands.proofs.WatchMeaning.{monitor_fails, replay_fails, watch_made}
use Rattle.commands.proofs.watch.make_watch.Goals as goal

pub returns-in-Ok-watch_by_file-clause-made : goal.returns-in-Ok-watch_by_file-clause-made
returns-in-Ok-watch_by_file-clause-made g c =
    let judged = c.in-Ok.judged in
    let watched = c.in-Ok-watch_by_file.ensures.made in
    watch_made (g.H.Host.files c.args.host.now) c.args.asked.now judged.inputs.net
    judged.inputs.trace judged.read.journal judged.complete watched.monitor
    c.in-Ok-watch_by_file.product (rw c.replay.ensures at c.in-Ok.ensures.judged)
    (rw (c.in-Ok.ensures.left.files, c.monitor.ensures) at watched.held) watched.is

pub returns-in-Err-clause-made : goal.returns-in-Err-clause-made
returns-in-Err-clause-made g c =
    replay_fails (g.H.Host.files c.args.host.now) c.args.asked.now c.in-Err.failure
    (rw c.replay.ensures at c.in-Err.ensures.failed)

pub returns-clause-made : goal.returns-clause-made
returns-clause-made g c =
    let judged = c.in-Ok.judged in
    monitor_fails (g.H.Host.files c.args.host.now) c.args.asked.now judged.inputs.net
    judged.inputs.trace judged.read.journal judged.complete c.in-Err-watch_by_file.failure
    (rw c.replay.ensures at c.in-Ok.ensures.judged)
    (rw (c.in-Ok.ensures.left.files, c.monitor.ensures) at
    c.in-Err-watch_by_file.ensures.failed)
