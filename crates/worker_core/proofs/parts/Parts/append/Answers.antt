use Rattle.std.proofs.Common.{◌<◌, [], length, get_or, ap, sym, ◌∙◌, arith}
use Rattle.journals.specs.Logs.{entries}
use Rattle.worker_core.specs.Parts.{own_moments}
use Rattle.worker_core.proofs.OwnMoments.{length_own, own_moment, moments_added}
use Rattle.journals.proofs.MomentsAfter.{moment_width}
use Rattle.worker_core.proofs.parts.Parts.append.Goals as goal

pub get-requires-2 : goal.get-requires-2
get-requires-2 c =
    let size =
    ap length c.requires.parts.moments_are ∙ length_own c.args.net.now c.args.self.now.logs in
    let below = c.requires.machine in
    omega arith

pub next_moment-requires-clause-width : goal.next_moment-requires-clause-width
next_moment-requires-clause-width c =
    let net = c.args.net.now in
    let logs = c.args.self.now.logs in
    moment_width net
    (entries (get_or logs c.args.m [])) c.args.m c.get.result.now c.get-2.result.now c.get.ensures
    (own_moment net logs c.args.self.now.moments c.args.m c.get-2.result.now
    c.requires.parts.moments_are
    c.requires.machine c.get-2.ensures)

pub set-requires : goal.set-requires
set-requires c =
    let size =
    ap length c.requires.parts.moments_are ∙ length_own c.args.net.now c.args.self.now.logs in
    let below = c.requires.machine in
    omega arith

pub returns-clause-moments : goal.returns-clause-moments
returns-clause-moments c =
    let net = c.args.net.now in
    let logs = c.args.self.now.logs in
    let below = c.requires.machine in
    let many = c.requires.parts.logs in
    let inside : c.args.m < length logs = omega arith in
    c.set.ensures
    ∙ moments_added net logs c.args.self.now.moments c.args.m c.args.x c.get.result.now
    c.get-2.result.now c.in_ok-moment.moment
    c.moving_laws.ensures.moves_moment below inside c.requires.parts.moments_are c.requires.own
    c.get.ensures
    c.get-2.ensures c.in_ok-moment.ensures
    ∙ sym (ap (own_moments net) c.in_ok-push_at.ensures.ok)
