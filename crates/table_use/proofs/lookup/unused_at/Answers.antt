use Rattle.std.proofs.Common.{true, false, refl, sym, ◌∙◌, arith}
use Rattle.domains.proofs.Ranks.{length_fits, ranks_below}
use Rattle.table_use.proofs.Judged.{unused_is}
use Rattle.table_use.proofs.Present.{absent, present}
use Rattle.table_use.proofs.lookup.unused_at.Goals as goal

pub get-requires : goal.get-requires
get-requires c =
    let vars = c.args.lookup.now.machine.now.vars in
    let long = length_fits vars c.args.codes.now c.requires.fits in
    let parts = c.var_count.ensures.inputs in
    let low = c.requires.input in
    omega arith

pub returns-then-get-eq0 : goal.returns-then-get-eq0
returns-then-get-eq0 c =
    let m = c.args.lookup.now.machine.now in
    let s = c.args.codes.now in
    sym (unused_is m c.args.i s false _ _ _ c.requires.input
    (absent s c.args.i c.get.result.now c.get.ensures c.if-get-eq0.true) refl refl refl)

pub fires_at-requires : goal.fires_at-requires
fires_at-requires c =
    let below = ranks_below c.args.lookup.now.machine.now.vars c.args.codes.now c.requires.fits in
    let number = c.requires.number in
    omega arith

pub returns-then-not-fires_at : goal.returns-then-not-fires_at
returns-then-not-fires_at c =
    let m = c.args.lookup.now.machine.now in
    let s = c.args.codes.now in
    sym (unused_is m c.args.i s true false _ _ c.requires.input
    (present s c.args.i c.get.result.now c.get.ensures c.if-get-eq0.false)
    (sym (c.fires_at.ensures s c.requires.fits c.requires.number) ∙ c.if-not-fires_at.true)
    refl refl)

pub class_at-requires : goal.class_at-requires
class_at-requires c =
    let below = ranks_below c.args.lookup.now.machine.now.vars c.args.codes.now c.requires.fits in
    let number = c.requires.number in
    omega arith

pub idles_at-requires-clause-fires : goal.idles_at-requires-clause-fires
idles_at-requires-clause-fires c =
    sym (c.fires_at.ensures c.args.codes.now c.requires.fits c.requires.number)
    ∙ c.if-not-fires_at.false

pub idles_at-requires-clause-present : goal.idles_at-requires-clause-present
idles_at-requires-clause-present c =
    present c.args.codes.now c.args.i c.get.result.now c.get.ensures c.if-get-eq0.false
