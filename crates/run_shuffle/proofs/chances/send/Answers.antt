use Rattle.std.proofs.Common.{ap, ◌∙◌, unwrap_or, Option, arith}
use Rattle.transition_table.specs.declared.decl.Party.TheVariants.{Machine as Sender}
use Rattle.journals.specs.declared.entry.Pick.{Pick}
use Rattle.journals.specs.declared.entry.Pick.TheVariants.{Stop}
use Rattle.run_shuffle.specs.Moves.{next_deliveries, next_delivery}
use Rattle.run_shuffle.proofs.GivenMoves.{given_below}
use Rattle.run_shuffle.proofs.WaysGive.{move_of_row, move_past_row, none_past_rows, row_gives}
use Rattle.run_shuffle.proofs.chances.send.Goals as goal

pub next_between-requires-clause-to : goal.next_between-requires-clause-to
next_between-requires-clause-to c =
    let now = c.args.config.now in
    let s = c.loop-s.s in
    let row = c.get-owed.result.now in
    given_below now.net (next_delivery now.net now.trace now.journal (Sender s)) row
    (next_deliveries now.net now.trace now.journal (Sender s)) c.loop-s.left c.member.result
    (row_gives c.sending_laws.ensures now c.args.ways.now s row c.journal-journal.ensures.legal
    c.requires.ways c.get-owed.ensures) c.member.ensures

pub returns-then-left-many : goal.returns-then-left-many
returns-then-left-many c =
    let now = c.args.config.now in
    let test = c.if-left-many.true in
    let count = c.len-many.ensures.members in
    c.move_or_stop.ensures
    ∙ ap (λ (o : Option Pick). unwrap_or o Stop) c.next_between.ensures
    ∙ move_of_row c.sending_laws.ensures now c.args.ways.now c.loop-s.s c.get-owed.result.now
    c.args.number c.loop-s.left c.member.result c.journal-journal.ensures.legal c.requires.ways
    c.get-owed.ensures c.loop-s.invariant.same (omega (arith, test, count)) c.member.ensures

pub loop-s-preserved : goal.loop-s-preserved
loop-s-preserved c =
    let (below, same) =
    move_past_row c.sending_laws.ensures c.args.config.now c.args.ways.now c.loop-s.s
    c.get-owed.result.now c.args.number c.loop-s.left c.len-many.result
    c.journal-journal.ensures.legal c.requires.ways c.get-owed.ensures c.loop-s.invariant.same
    c.loop-s.invariant.below c.len-many.ensures.members c.if-left-many.false in
    record { below = below; same = same }

pub unreachable-requires : goal.unreachable-requires
unreachable-requires c =
    let past = c.loop-s-test.false in
    let long = c.len-s-end.ensures in
    none_past_rows c.args.config.now c.args.ways.now c.loop-s.s c.loop-s.left c.requires.ways
    (omega (arith, past, long)) c.loop-s.invariant.below
