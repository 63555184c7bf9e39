use Rattle.polis_words.proofs.Asks.{four_words}
use Rattle.polis_words.proofs.requests.replay.replay_of.Goals as goal

pub returns-in-Some-clause-asks : goal.returns-in-Some-clause-asks
returns-in-Some-clause-asks c = λ word is.
    let found = c.in-Some.ensures in
    record {
      form = four_words c.args.words.now word c.in-Some.asked.net c.in-Some.asked.trace
          c.in-Some.asked.journal (cc) is found.net found.trace found.journal;
      files = found.files;
    }
