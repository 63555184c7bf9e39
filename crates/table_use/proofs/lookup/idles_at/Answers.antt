use Rattle.std.proofs.Common.{◌<◌, ℕ, true, false, refl, sym, ap, ◌∙◌, subst}
use Rattle.domains.proofs.Ranks.{ranks_below}
use Rattle.domains.specs.Tables.{product}
use Rattle.table_use.specs.Use.{without}
use Rattle.table_use.specs.inner.Looking.{class_of}
use Rattle.table_use.proofs.Judged.{unused_is}
use Rattle.table_use.proofs.Tests.{fits_without}
use Rattle.table_use.proofs.lookup.idles_at.Goals as goal

pub returns-then-not-sees_at : goal.returns-then-not-sees_at
returns-then-not-sees_at c =
    let m = c.args.lookup.now.machine.now in
    let s = c.args.codes.now in
    sym (unused_is m c.args.i s true true false _ c.requires.input c.requires.present
    c.requires.fires
    (sym (c.sees_at.ensures (without s c.args.i) (fits_without m.vars s c.args.i c.requires.fits)
    (sym c.number_without-other.ensures)) ∙ c.if-not-sees_at.true)
    refl)

pub stays_at-requires : goal.stays_at-requires
stays_at-requires c =
    let vars = c.args.lookup.now.machine.now.vars in
    subst (λ (n : ℕ). n < product vars) (sym c.number_without-other.ensures)
    (ranks_below vars (without c.args.codes.now c.args.i)
    (fits_without vars c.args.codes.now c.args.i c.requires.fits))

pub returns : goal.returns
returns c =
    let lookup = c.args.lookup.now in
    let m = lookup.machine.now in
    let s = c.args.codes.now in
    let t = without s c.args.i in
    let fit = fits_without m.vars s c.args.i c.requires.fits in
    c.stays_at.ensures s t c.requires.fits fit
    (c.requires.class
    ∙ ap (class_of lookup.results.now lookup.keys.now) (sym c.requires.number))
    (sym c.number_without-other.ensures)
    ∙ sym (unused_is m c.args.i s true true true _ c.requires.input c.requires.present
    c.requires.fires
    (sym (c.sees_at.ensures t fit (sym c.number_without-other.ensures)) ∙ c.if-not-sees_at.false)
    refl)
