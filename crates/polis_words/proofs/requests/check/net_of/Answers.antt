use Rattle.polis_words.proofs.Asks.{two_words}
use Rattle.polis_words.proofs.requests.check.net_of.Goals as goal

pub returns-then-is_file_word-clause-asks : goal.returns-then-is_file_word-clause-asks
returns-then-is_file_word-clause-asks c = λ word is.
    record {
      form = two_words c.args.words.now word c.get-net.result.now (cc) is c.get-net.ensures;
      net = c.is_file_word.ensures.0 (cc);
    }
