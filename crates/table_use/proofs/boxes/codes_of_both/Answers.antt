use Rattle.std.proofs.Common.{◌&&◌, ◌==◌, ◌∙◌, ap}
use Rattle.std.specs.Int.{bit_at}
use Rattle.table_use.specs.inner.Boxes.{allowed}
use Rattle.table_use.proofs.BoxCounts.{row_low, set_at, set_low}
use Rattle.table_use.proofs.boxes.codes_of_both.Goals as goal

pub of_row-requires : goal.of_row-requires
of_row-requires c =
    row_low c.args.machine.now c.args.codes.now c.from.result c.args.r c.requires.codes
    c.from.ensures c.requires.row

pub get-one-requires : goal.get-one-requires
get-one-requires c =
    set_low c.args.machine.now c.args.codes.now c.from.result c.args.r c.args.var
    c.of_row.result.now c.requires.codes c.from.ensures c.requires.row c.of_row.ensures
    c.requires.var

pub of_row-requires-2 : goal.of_row-requires-2
of_row-requires-2 c =
    row_low c.args.machine.now c.args.codes.now c.from-2.result c.args.k c.requires.codes
    c.from-2.ensures c.requires.other

pub get-other-requires : goal.get-other-requires
get-other-requires c =
    set_low c.args.machine.now c.args.codes.now c.from-2.result c.args.k c.args.var
    c.of_row-2.result.now c.requires.codes c.from-2.ensures c.requires.other c.of_row-2.ensures
    c.requires.var

pub returns : goal.returns
returns c = λ code.
    let m = c.args.machine.now in
    c.both.ensures code
    ∙ ap (λ b. b && (bit_at c.get-other.result.now code == 1))
    (set_at m c.args.codes.now c.from.result c.args.r c.args.var c.get-one.result.now
    c.of_row.result.now c.requires.codes c.from.ensures c.requires.row c.requires.var
    c.of_row.ensures c.get-one.ensures code)
    ∙ ap (λ b. allowed m c.args.r c.args.var code && b)
    (set_at m c.args.codes.now c.from-2.result c.args.k c.args.var c.get-other.result.now
    c.of_row-2.result.now c.requires.codes c.from-2.ensures c.requires.other c.requires.var
    c.of_row-2.ensures c.get-other.ensures code)
