use Rattle.std.proofs.Common.{◌<◌, ◌≤◌, ℕ, subst}
use Rattle.journal_replay.proofs.WholeIsLegal.{whole_is_legal}
use Rattle.journal_replay.proofs.judge.replay.Goals as goal

pub legal_prefix-requires-clause-trace : goal.legal_prefix-requires-clause-trace
legal_prefix-requires-clause-trace g c = c.requires.trace

pub legal_prefix-requires-clause-fits : goal.legal_prefix-requires-clause-fits
legal_prefix-requires-clause-fits g c = c.requires.fits

pub returns-then-count-len : goal.returns-then-count-len
returns-then-count-len g c =
    let count = c.in_ok-prefix.prefix.count in
    let legal = c.in_ok-prefix.ensures in
    let more = subst (λ (n : ℕ). count < n) c.len.ensures c.if-count-len.true in
    (more, legal.up_to.legal, legal.up_to.longest more, legal.reason more)

pub returns : goal.returns
returns g c =
    let prefix = c.in_ok-prefix.prefix in
    whole_is_legal (g.R.Reactor.meaning c.args.r.now) c.args.trace.now c.args.j.now prefix.count
    prefix.complete prefix.against c.in_ok-prefix.ensures
    (subst (λ (n : ℕ). n ≤ prefix.count) c.len.ensures c.if-count-len.false)
