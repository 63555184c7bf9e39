use Rattle.polis_words.proofs.AsksShuffle.{one_shuffle, settings_asked, shuffle_asked}
use Rattle.polis_words.proofs.requests.shuffle.shuffle_of.Goals as goal

pub returns-in-None-clause-nothing : goal.returns-in-None-clause-nothing
returns-in-None-clause-nothing c = λ shuffle asks.
    c.in-None.ensures.none shuffle.order shuffle.limit
    (settings_asked c.args.words.now shuffle asks)

pub returns-then-is_file_word-3-clause-one : goal.returns-then-is_file_word-3-clause-one
returns-then-is_file_word-3-clause-one c = λ other asks.
    one_shuffle c.args.words.now other _ asks (shuffle_asked c.args.words.now (record {
      net = c.get-net.result.now;
      trace = c.get-trace.result.now;
      stem = c.get-stem.result.now;
      seed = c.in-Some-read_seed.seed;
      order = c.in-Some.settings.order;
      limit = c.in-Some.settings.limit;
    }) c.requires c.get-net.ensures c.get-trace.ensures c.get-stem.ensures
    (rw c.in-Some-read_seed.ensures.some.0 at c.get.ensures)
    (c.is_file_word.ensures.0 (cc)) (c.is_file_word-then-is_file_word.ensures.0 (cc))
    (c.is_file_word-then-is_file_word-2.ensures.0 (cc)) c.in-Some-read_seed.ensures.some.1
    c.in-Some.ensures.some)
