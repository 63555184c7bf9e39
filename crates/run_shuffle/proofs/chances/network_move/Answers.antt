use Rattle.std.proofs.Common.{◌∙◌, arith}
use Rattle.run_shuffle.proofs.WaysGive.{move_of_sends, reaction_left, reaction_of, sends_counted}
use Rattle.run_shuffle.proofs.chances.network_move.Goals as goal

pub send-requires-clause-number : goal.send-requires-clause-number
send-requires-clause-number c =
    let many =
    sends_counted c.sending_laws.ensures c.args.config.now c.args.ways.now
    c.journal-journal.ensures.legal c.requires.ways in
    let below = c.if-number-ways.true in
    omega (arith, many, below)

pub returns-then-number-ways : goal.returns-then-number-ways
returns-then-number-ways c =
    c.send.ensures
    ∙ move_of_sends c.sending_laws.ensures c.args.config.now c.args.ways.now c.args.number
    c.journal-journal.ensures.legal c.requires.ways c.if-number-ways.true

pub member-requires : goal.member-requires
member-requires c =
    reaction_left c.sending_laws.ensures c.args.config.now c.args.ways.now c.args.number
    c.journal-journal.ensures.legal c.requires.ways c.if-number-ways.false c.requires.number

pub returns : goal.returns
returns c =
    reaction_of c.sending_laws.ensures c.args.config.now c.args.ways.now c.args.number
    c.member.result c.journal-journal.ensures.legal c.requires.ways c.if-number-ways.false
    c.member.ensures
