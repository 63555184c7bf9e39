use Rattle.std.proofs.Common.{sym, ◌∙◌, ◌<◌, arith}
use Rattle.domains.specs.Tables.{product}
use Rattle.task_image.proofs.IsWalk.{number_low, table_long, table_gives, right_here, wrong_here, walk_next, walk_done, walk_stops}
use Rattle.task_image.proofs.verifying.is_wrong.Goals as goal

pub get-codes-requires : goal.get-codes-requires
get-codes-requires c =
    number_low c.args.m.now c.args.table.now c.loop-i.i c.get-number.result.now
    c.requires.table c.get-number.ensures

pub returns-then-not-has_codes-clause-wrong : goal.returns-then-not-has_codes-clause-wrong
returns-then-not-has_codes-clause-wrong c = λ _.
    let laws = c.laws_of_walks.ensures in
    let m = c.args.m.now in
    let s = c.loop-i.s in
    let long = table_long laws m c.args.table.now c.requires.table in
    let end = c.len-i-end.ensures in
    let test = c.loop-i-test.true in
    let low : c.loop-i.i < product m.vars = omega (arith, long, end, test) in
    let walk = c.loop-i.invariant in
    let gives = table_gives laws m c.args.table.now s.codes c.loop-i.i c.get-number.result.now
    c.get-codes.result.now c.requires.table walk.snapshot (walk.next low)
    c.get-number.ensures c.get-codes.ensures in
    walk_stops m c.args.code.now s c.loop-i.o c.loop-i.i walk low
    (wrong_here laws m c.args.code.now s.codes c.run.new.o (c.run.ensures.outcome m walk.widths)
    (c.run.ensures.widths m walk.widths) c.get-codes.result.now gives c.requires.deterministic
    walk.snapshot (sym c.has_codes.ensures ∙ c.if-not-has_codes.true))

pub loop-i-preserved : goal.loop-i-preserved
loop-i-preserved c =
    let laws = c.laws_of_walks.ensures in
    let m = c.args.m.now in
    let s = c.loop-i.s in
    let long = table_long laws m c.args.table.now c.requires.table in
    let end = c.len-i-end.ensures in
    let test = c.loop-i-test.true in
    let low : c.loop-i.i < product m.vars = omega (arith, long, end, test) in
    let walk = c.loop-i.invariant in
    let gives = table_gives laws m c.args.table.now s.codes c.loop-i.i c.get-number.result.now
    c.get-codes.result.now c.requires.table walk.snapshot (walk.next low)
    c.get-number.ensures c.get-codes.ensures in
    let widths = c.run.ensures.widths m walk.widths in
    walk_next laws m c.args.code.now s c.loop-i.o c.loop-i.i _ c.run.new.o c.next_codes.result walk
    low
    (right_here laws m c.args.code.now s.codes c.run.new.o (c.run.ensures.outcome m walk.widths)
    widths c.get-codes.result.now gives (sym c.has_codes.ensures ∙ c.if-not-has_codes.false))
    widths c.next_codes.ensures.fits c.next_codes.ensures.next c.next_codes.ensures.last

pub returns-clause-right : goal.returns-clause-right
returns-clause-right c = λ _.
    let laws = c.laws_of_walks.ensures in
    let m = c.args.m.now in
    let long = table_long laws m c.args.table.now c.requires.table in
    let end = c.len-i-end.ensures in
    let test = c.loop-i-test.false in
    walk_done laws m c.args.code.now c.loop-i.s c.loop-i.o c.loop-i.i c.loop-i.invariant
    (omega (arith, long, end, test))
