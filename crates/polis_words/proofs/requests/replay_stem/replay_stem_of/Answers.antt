use Rattle.polis_words.proofs.Asks.{five_words}
use Rattle.polis_words.proofs.requests.replay_stem.replay_stem_of.Goals as goal

pub returns-in-Some-clause-asks : goal.returns-in-Some-clause-asks
returns-in-Some-clause-asks c = λ word is.
    let found = c.in-Some.ensures in
    record {
      form = five_words c.args.words.now word c.in-Some.replay.net c.in-Some.replay.trace
          c.in-Some.replay.journal c.get-stem.result.now (cc) is found.net found.trace found.journal
          c.get-stem.ensures;
      files = found.files;
      stem = c.is_file_word.ensures.0 (cc);
    }
