use Rattle.std.proofs.Common.{codes}
use Rattle.polis_words.proofs.Asks.{three_words}
use Rattle.polis_words.proofs.requests.equiv.equiv_of.Goals as goal

pub returns-then-is_file_word-2-clause-asks : goal.returns-then-is_file_word-2-clause-asks
returns-then-is_file_word-2-clause-asks c =
    record {
      form = three_words c.args.words.now (codes "equiv") c.get-net.result.now
          c.get-other.result.now (cc) c.requires c.get-net.ensures
          c.get-other.ensures;
      net = c.is_file_word.ensures.0 (cc);
      other = c.is_file_word-then-is_file_word.ensures.0 (cc);
    }
