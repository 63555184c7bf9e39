use Rattle.std.proofs.Common.{length, sym, ◌∙◌, arith}
use Rattle.std.specs.Cmp.Derive.{both_true}
use Rattle.domains.proofs.Ranks.{ranks_below}
use Rattle.outcome_table.proofs.Columns.{product_some}
use Rattle.table_use.specs.Use.{can_fire, fires_alone}
use Rattle.table_use.proofs.Tests.{not_from}
use Rattle.journals.proofs.Upto.{any_found, none_more}
use Rattle.table_use.proofs.lookup.jammed_at.Goals as goal

pub fires_at-requires : goal.fires_at-requires
fires_at-requires c =
    let below = ranks_below c.args.lookup.now.machine.now.vars c.args.codes.now c.requires.fits in
    let number = c.requires.number in
    omega arith

pub loop-i-preserved : goal.loop-i-preserved
loop-i-preserved c =
    none_more (fires_alone c.args.lookup.now.machine.now c.args.codes.now) c.loop-i.i
    c.loop-i.invariant (sym c.fires_alone_at.ensures ∙ c.if-fires_alone_at.false)

pub nonzero_rem-state : goal.nonzero_rem-state
nonzero_rem-state c =
    let lookup = c.args.lookup.now in
    let m = lookup.machine.now in
    let some = product_some m.vars (length m.inputs) c.var_count.ensures.sizes in
    let idle = lookup.are_idle in
    omega arith

pub returns-then-fires_alone_at : goal.returns-then-fires_alone_at
returns-then-fires_alone_at c =
    let m = c.args.lookup.now.machine.now in
    let s = c.args.codes.now in
    let end = c.len-i-end.ensures in
    sym (both_true
    (not_from (can_fire m s)
    (sym (c.fires_at.ensures s c.requires.fits c.requires.number) ∙ c.if-fires_at.false))
    (any_found (fires_alone m s) (length m.inputs) c.loop-i.i (omega arith)
    (sym c.fires_alone_at.ensures ∙ c.if-fires_alone_at.true)))
