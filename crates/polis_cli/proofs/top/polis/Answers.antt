use Rattle.polis_cli.proofs.Promise.{ended_answers, ended_leaves}
use Rattle.polis_cli.proofs.top.polis.Goals as goal

pub returns-clause-answers : goal.returns-clause-answers
returns-clause-answers g c =
    ended_answers g.H.Host _ _ _ c.args.words.now c.in-Some.request c.make_by-made.result
    c.end.result c.in-Some.ensures.asks c.in-Some.ensures.one c.make_by-made.ensures.made
    c.make_by-made.ensures.left c.end.ensures

pub returns-clause-leaves : goal.returns-clause-leaves
returns-clause-leaves g c =
    ended_leaves g.H.Host _ _ _ c.args.words.now c.in-Some.request c.make_by-made.result
    c.end.result c.in-Some.ensures.asks c.make_by-made.ensures.made c.make_by-made.ensures.left
    c.end.ensures
