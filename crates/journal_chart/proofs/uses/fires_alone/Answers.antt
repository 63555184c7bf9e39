use Rattle.std.proofs.Common.{◌≡◌, true, false, List, ℕ, refl, sym, ap, ◌∙◌, subst, arith}
use Rattle.domains.proofs.Ranks.{length_fits}
use Rattle.domains.specs.Tables.{fits}
use Rattle.table_use.specs.Use.{can_fire}
use Rattle.journal_chart.proofs.InputsAlone.{absent, alone_is, fits_alone, present}
use Rattle.journal_chart.proofs.uses.fires_alone.Goals as goal

pub get-requires : goal.get-requires
get-requires c =
    let long = length_fits c.args.machine.now.vars c.args.s.now.codes c.requires.snapshot in
    let parts = c.var_count.ensures.inputs in
    let low = c.requires.input in
    omega arith

pub returns-then-get-eq0 : goal.returns-then-get-eq0
returns-then-get-eq0 c =
    let s = c.args.s.now.codes in
    sym (alone_is c.args.machine.now s c.args.i false _
    (absent s c.args.i c.get.result.now c.get.ensures c.if-get-eq0.true) refl)

pub alone-requires-clause-many : goal.alone-requires-clause-many
alone-requires-clause-many c =
    let long = length_fits c.args.machine.now.vars c.args.s.now.codes c.requires.snapshot in
    let parts = c.var_count.ensures.inputs in
    omega arith

pub fires_on-requires : goal.fires_on-requires
fires_on-requires c =
    let m = c.args.machine.now in
    subst (λ (l : List ℕ). fits m.vars l ≡ true) (sym c.in_ok-other.ensures)
    (fits_alone m c.args.s.now.codes c.args.i c.requires.snapshot c.requires.input)

pub returns : goal.returns
returns c =
    let m = c.args.machine.now in
    let s = c.args.s.now.codes in
    c.in_ok-fires.ensures
    ∙ ap (can_fire m) c.in_ok-other.ensures
    ∙ sym (alone_is m s c.args.i true _
    (present s c.args.i c.get.result.now c.get.ensures c.if-get-eq0.false) refl)
