use Rattle.polis_words.proofs.AsksBound.{no_bound, one_bound, bound_asked}
use Rattle.polis_words.proofs.requests.bound.bound_of.Goals as goal

pub returns-in-Some-clause-asks : goal.returns-in-Some-clause-asks
returns-in-Some-clause-asks c =
    bound_asked c.args.words.now c.get-net.result.now c.in-Some.costs c.requires
    c.get-net.ensures (c.is_file_word.ensures.0 (cc)) c.in-Some.ensures.some

pub returns-in-Some-clause-one : goal.returns-in-Some-clause-one
returns-in-Some-clause-one c =
    one_bound c.args.words.now c.get-net.result.now c.in-Some.costs c.get-net.ensures
    c.in-Some.ensures.one

pub returns-in-None-clause-nothing : goal.returns-in-None-clause-nothing
returns-in-None-clause-nothing c = no_bound c.args.words.now c.in-None.ensures.none
