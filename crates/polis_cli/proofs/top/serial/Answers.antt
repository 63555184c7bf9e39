use Rattle.polis_cli.proofs.Meaning.{one_worker}
use Rattle.polis_cli.proofs.Promise.{ended_answers, ended_leaves, usage_answers, usage_leaves}
use Rattle.polis_cli.proofs.top.serial.Goals as goal

pub make-made-requires : goal.make-made-requires
make-made-requires g c =
    one_worker c.args.words.now c.in-Some.request c.in-Some.ensures.asks c.requires

pub returns-in-Some-clause-answers : goal.returns-in-Some-clause-answers
returns-in-Some-clause-answers g c =
    ended_answers g.H.Host _ _ _ c.args.words.now c.in-Some.request c.make-made.result
    c.end.result c.in-Some.ensures.asks c.in-Some.ensures.one c.make-made.ensures.made
    c.make-made.ensures.left c.end.ensures

pub returns-in-Some-clause-leaves : goal.returns-in-Some-clause-leaves
returns-in-Some-clause-leaves g c =
    ended_leaves g.H.Host _ _ _ c.args.words.now c.in-Some.request c.make-made.result
    c.end.result c.in-Some.ensures.asks c.make-made.ensures.made c.make-made.ensures.left
    c.end.ensures

pub returns-in-None-clause-answers : goal.returns-in-None-clause-answers
returns-in-None-clause-answers g c =
    usage_answers g.H.Host _ _ c.args.words.now c.in-None.ensures.nothing c.show_lines.ensures

pub returns-in-None-clause-leaves : goal.returns-in-None-clause-leaves
returns-in-None-clause-leaves g c =
    usage_leaves g.H.Host _ _ c.args.words.now c.show_lines.ensures
