use Rattle.net_names.proofs.NameNumbers.{number_step}
use Rattle.net_names.proofs.table.number_each.Goals as goal

pub loop-number-preserved : goal.loop-number-preserved
loop-number-preserved c =
    number_step c.args.words.now c.loop-number.number c.index-words-number.result
    c.loop-number.table c.note.new.self c.loop-number-test.true c.index-words-number.is
    c.in_ok-note.ensures.noted c.loop-number.invariant
