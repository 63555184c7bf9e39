use Rattle.std.proofs.Common.{◌<◌, ℕ, true, false, refl, sym, ◌∙◌, subst, arith}
use Rattle.domains.proofs.Ranks.{length_fits, ranks_below}
use Rattle.domains.specs.Tables.{product}
use Rattle.table_use.specs.Use.{without}
use Rattle.table_use.proofs.Judged.{counts_is, unused_is}
use Rattle.table_use.proofs.Present.{absent, present}
use Rattle.table_use.proofs.Tests.{fits_without}
use Rattle.table_use.proofs.lookup.stops_at.Goals as goal

pub get-requires : goal.get-requires
get-requires c =
    let vars = c.args.lookup.now.machine.now.vars in
    let long = length_fits vars c.args.codes.now c.requires.fits in
    let parts = c.var_count.ensures.inputs in
    let low = c.requires.input in
    omega arith

pub returns-then-get-eq0 : goal.returns-then-get-eq0
returns-then-get-eq0 c =
    let m = c.args.lookup.now.machine.now in
    let s = c.args.codes.now in
    sym (counts_is m c.args.i s false _ _ _ _
    (absent s c.args.i c.get.result.now c.get.ensures c.if-get-eq0.true) refl refl refl refl)

pub returns-then-not-sees_at : goal.returns-then-not-sees_at
returns-then-not-sees_at c =
    let m = c.args.lookup.now.machine.now in
    let s = c.args.codes.now in
    let t = without s c.args.i in
    let there = present s c.args.i c.get.result.now c.get.ensures c.if-get-eq0.false in
    sym (counts_is m c.args.i s true false false false _ there
    (unused_is m c.args.i s true false _ _ c.requires.input there c.requires.idle refl refl)
    c.requires.idle
    (sym (c.sees_at.ensures t (fits_without m.vars s c.args.i c.requires.fits)
    (sym c.number_without-other.ensures)) ∙ c.if-not-sees_at.true) refl)

pub fires_at-requires : goal.fires_at-requires
fires_at-requires c =
    let vars = c.args.lookup.now.machine.now.vars in
    subst (λ (n : ℕ). n < product vars) (sym c.number_without-other.ensures)
    (ranks_below vars (without c.args.codes.now c.args.i)
    (fits_without vars c.args.codes.now c.args.i c.requires.fits))

pub returns : goal.returns
returns c =
    let m = c.args.lookup.now.machine.now in
    let s = c.args.codes.now in
    let t = without s c.args.i in
    let fit = fits_without m.vars s c.args.i c.requires.fits in
    let there = present s c.args.i c.get.result.now c.get.ensures c.if-get-eq0.false in
    c.fires_at.ensures t fit (sym c.number_without-other.ensures)
    ∙ sym (counts_is m c.args.i s true false false true _ there
    (unused_is m c.args.i s true false _ _ c.requires.input there c.requires.idle refl refl)
    c.requires.idle
    (sym (c.sees_at.ensures t fit (sym c.number_without-other.ensures))
    ∙ c.if-not-sees_at.false) refl)
