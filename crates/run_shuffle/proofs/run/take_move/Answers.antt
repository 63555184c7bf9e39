use Rattle.run_shuffle.proofs.run.take_move.Goals as goal

pub take-requires-clause-fits : goal.take-requires-clause-fits
take-requires-clause-fits c =
    let now = c.args.config.now in
    (c.laws.ensures.may_come now.net now.trace now.journal c.args.order c.args.entry
    c.trace-trace.ensures.fits c.journal-journal.ensures.legal c.requires.offered).0

pub take-requires-clause-follows : goal.take-requires-clause-follows
take-requires-clause-follows c =
    let now = c.args.config.now in
    (c.laws.ensures.may_come now.net now.trace now.journal c.args.order c.args.entry
    c.trace-trace.ensures.fits c.journal-journal.ensures.legal c.requires.offered).1
