use Rattle.polis_words.specs.inner.Run.{option_of}
use Rattle.polis_words.proofs.AskOptions.{says_nothing}
use Rattle.polis_words.proofs.requests.options.say_at.Goals as goal

pub returns-in-Some-clause-none : goal.returns-in-Some-clause-none
returns-in-Some-clause-none c =
    says_nothing c.args.words.now c.args.place c.get.result.now c.get-2.result.now
    (option_of c.in-Some.option) c.args.old c.say.result c.get.ensures c.get-2.ensures
    c.in-Some.ensures.some c.say.ensures.none
