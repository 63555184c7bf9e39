use Rattle.std.proofs.Common.{◌≡◌, ℕ, ◌+◌, ◌*◌, ◌<◌, Result, IfOk, get_or, length, sym, ap, subst, ◌∙◌, arith}
use Rattle.polis_base.specs.declared.NoMemory.{NoMemory}
use Rattle.run_survey.specs.declared.workers.Job.{Job}
use Rattle.run_survey.specs.declared.workers.Piece.{Piece}
use Rattle.run_survey.specs.inner.Workers.{IsPiece}
use Rattle.run_survey.proofs.WorkersJoined.{pieces_by_place}
use Rattle.run_survey.proofs.workers.pieces_of.Goals as goal

pub returns-clause-pieces : goal.returns-clause-pieces
returns-clause-pieces g c = λ seed size row.
    let net = g.R.Reactor.meaning c.args.r.now in
    let monitor = g.W.Watcher.monitor c.args.w.now in
    let tables = c.args.tables.now in
    let trace = c.args.trace.now in
    let drawing = c.args.drawing in
    let len = c.in_ok-pieces.ensures.len in
    let ok = c.in_ok-pieces.pieces.ok in
    let jobs_ok = c.args.jobs.ok in
    pieces_by_place net monitor tables trace drawing size seed c.in_ok-pieces.pieces.items (λ k d low.
    let inside : k < length c.args.jobs.items = omega (arith, low, len, ok, jobs_ok) in
    let one = (c.in_ok-pieces.ensures.each k d inside).1 in
    let at = row k one.job inside in
    let r : Result Piece NoMemory = get_or c.in_ok-pieces.pieces.items k d in
    let first : one.job.seeds.first ≡ seed + k * size =
    ap (λ (j : Job). j.seeds.first) (sym (one.job_is one.job)) ∙ at.0 in
    let count : one.job.seeds.count ≡ size =
    ap (λ (j : Job). j.seeds.count) (sym (one.job_is one.job)) ∙ at.1 in
    subst (λ (n : ℕ). IfOk r (IsPiece net monitor tables trace drawing n size)) first
    (subst (λ (n : ℕ). IfOk r (IsPiece net monitor tables trace drawing one.job.seeds.first n)) count
    one.call.met))
