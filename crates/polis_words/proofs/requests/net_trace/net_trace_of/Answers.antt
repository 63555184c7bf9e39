use Rattle.polis_words.proofs.Asks.{three_words}
use Rattle.polis_words.proofs.requests.net_trace.net_trace_of.Goals as goal

pub returns-then-is_file_word-2-clause-asks : goal.returns-then-is_file_word-2-clause-asks
returns-then-is_file_word-2-clause-asks c = λ word is.
    record {
      form = three_words c.args.words.now word c.get-net.result.now c.get-trace.result.now (cc) is
          c.get-net.ensures c.get-trace.ensures;
      net = c.is_file_word.ensures.0 (cc);
      trace = c.is_file_word-then-is_file_word.ensures.0 (cc);
    }
