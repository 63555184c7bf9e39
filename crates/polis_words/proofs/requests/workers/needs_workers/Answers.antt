use Rattle.std.proofs.lemmas.Bool.Decides.{Decides-ltb}
use Rattle.polis_words.proofs.Workers.{needs, needs_none}
use Rattle.polis_words.proofs.requests.workers.needs_workers.Goals as goal

pub returns-in-Some : goal.returns-in-Some
returns-in-Some c =
    needs c.args.words.now c.in-Some.request c.in-Some.ensures.asks c.in-Some.ensures.one
    c.workers.result c.workers.ensures _ (Decides-ltb 1 c.workers.result)

pub returns-in-None : goal.returns-in-None
returns-in-None c = needs_none c.args.words.now c.in-None.ensures.nothing
