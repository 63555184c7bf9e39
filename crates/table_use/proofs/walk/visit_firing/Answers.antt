use Rattle.std.proofs.Common.{refl, sym, ◌∙◌, arith}
use Rattle.domains.proofs.Ranks.{length_fits}
use Rattle.table_use.proofs.MetInputs.{met_absent, met_counting}
use Rattle.table_use.proofs.Present.{absent, present}
use Rattle.table_use.proofs.walk.visit_firing.Goals as goal

pub get-requires : goal.get-requires
get-requires c =
    let vars = c.args.lookup.now.machine.now.vars in
    let long = length_fits vars c.args.codes.now c.requires.fits in
    let parts = c.var_count.ensures.inputs in
    let low = c.requires.input in
    omega arith

pub returns-then-get-eq0 : goal.returns-then-get-eq0
returns-then-get-eq0 c =
    let m = c.args.lookup.now.machine.now in
    let s = c.args.codes.now in
    met_absent m s c.args.i c.args.input.now c.requires.input
    (absent s c.args.i c.get.result.now c.get.ensures c.if-get-eq0.true)

pub idles_at-requires-clause-present : goal.idles_at-requires-clause-present
idles_at-requires-clause-present c =
    present c.args.codes.now c.args.i c.get.result.now c.get.ensures c.if-get-eq0.false

pub returns : goal.returns
returns c =
    let m = c.args.lookup.now.machine.now in
    let s = c.args.codes.now in
    met_counting m s c.args.i c.args.input.now _
    (present s c.args.i c.get.result.now c.get.ensures c.if-get-eq0.false)
    c.requires.fires (sym c.idles_at.ensures ∙ c.if-idles_at.false) refl refl
