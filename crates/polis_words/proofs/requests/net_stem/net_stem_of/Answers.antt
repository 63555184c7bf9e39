use Rattle.polis_words.proofs.Asks.{three_words}
use Rattle.polis_words.proofs.requests.net_stem.net_stem_of.Goals as goal

pub returns-then-is_file_word-2-clause-asks : goal.returns-then-is_file_word-2-clause-asks
returns-then-is_file_word-2-clause-asks c = λ word is.
    record {
      form = three_words c.args.words.now word c.get-net.result.now c.get-stem.result.now (cc) is
          c.get-net.ensures c.get-stem.ensures;
      net = c.is_file_word.ensures.0 (cc);
      stem = c.is_file_word-then-is_file_word.ensures.0 (cc);
    }
