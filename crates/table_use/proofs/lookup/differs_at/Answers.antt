use Rattle.std.proofs.Common.{◌<◌, ℕ, not, sym, ap, subst, ◌∙◌}
use Rattle.domains.proofs.Ranks.{ranks_below}
use Rattle.domains.specs.Tables.{product}
use Rattle.table_use.specs.Use.{without}
use Rattle.table_use.specs.inner.Looking.{class_of}
use Rattle.table_use.proofs.Tests.{fits_without}
use Rattle.table_use.proofs.lookup.differs_at.Goals as goal

pub stays_at-requires : goal.stays_at-requires
stays_at-requires c =
    let vars = c.args.lookup.now.machine.now.vars in
    subst (λ (n : ℕ). n < product vars) (sym c.number_without.ensures)
    (ranks_below vars (without c.args.codes.now c.args.v)
    (fits_without vars c.args.codes.now c.args.v c.requires.fits))

pub returns : goal.returns
returns c =
    let lookup = c.args.lookup.now in
    let m = lookup.machine.now in
    let s = c.args.codes.now in
    ap not (c.stays_at.ensures s (without s c.args.v) c.requires.fits
    (fits_without m.vars s c.args.v c.requires.fits)
    (c.requires.class
    ∙ ap (class_of lookup.results.now lookup.keys.now) (sym c.requires.number))
    (sym c.number_without.ensures))
