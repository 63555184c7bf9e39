use Rattle.std.proofs.Common.{◌≡◌, true, ◌&&◌, List, ℕ, length, sym, ap, ◌∙◌, subst, arith}
use Rattle.std.proofs.lemmas.List.{length-set}
use Rattle.domains.proofs.Ranks.{length_fits}
use Rattle.domains.specs.Names.{is_same}
use Rattle.domains.specs.Tables.{fits}
use Rattle.transition_table.specs.Computed.{result_codes}
use Rattle.journals.specs.Seen.{is_seen}
use Rattle.table_use.specs.Use.{can_fire}
use Rattle.journal_chart.proofs.InputsAlone.{absent, fits_without, present, unused_unless_present, unused_unless_seen, unused_where_seen}
use Rattle.journal_chart.proofs.uses.is_unused.Goals as goal

pub get-requires : goal.get-requires
get-requires c =
    let long = length_fits c.args.machine.now.vars c.args.s.now.codes c.requires.snapshot in
    let parts = c.var_count.ensures.inputs in
    let low = c.requires.input in
    omega arith

pub returns-then-get-eq0 : goal.returns-then-get-eq0
returns-then-get-eq0 c =
    let s = c.args.s.now.codes in
    sym (unused_unless_present c.args.machine.now c.args.i s c.requires.input
    (absent s c.args.i c.get.result.now c.get.ensures c.if-get-eq0.true))

pub without-requires : goal.without-requires
without-requires c =
    let long = length_fits c.args.machine.now.vars c.args.s.now.codes c.requires.snapshot in
    let parts = c.var_count.ensures.inputs in
    let low = c.requires.input in
    omega arith

pub is_seen-requires : goal.is_seen-requires
is_seen-requires c =
    let long = length_fits c.args.machine.now.vars c.args.s.now.codes c.requires.snapshot in
    let parts = c.var_count.ensures.inputs in
    let same = ap (λ (l : List ℕ). length l) c.in_ok-other.ensures in
    let set = length-set c.args.s.now.codes c.args.i 0 in
    omega arith

pub returns-then-not-is_seen : goal.returns-then-not-is_seen
returns-then-not-is_seen c =
    let m = c.args.machine.now in
    sym (unused_unless_seen m c.args.i c.args.s.now.codes c.requires.input
    (ap (is_seen m) (sym c.in_ok-other.ensures) ∙ sym c.is_seen.ensures ∙ c.if-not-is_seen.true))

pub gives_same-requires-clause-other : goal.gives_same-requires-clause-other
gives_same-requires-clause-other c =
    let m = c.args.machine.now in
    subst (λ (l : List ℕ). fits m.vars l ≡ true) (sym c.in_ok-other.ensures)
    (fits_without m.vars c.args.s.now.codes c.args.i c.requires.snapshot)

pub returns : goal.returns
returns c =
    let m = c.args.machine.now in
    let i = c.args.i in
    let s = c.args.s.now.codes in
    let other = c.in_ok-other.ensures in
    c.in_ok-same.ensures
    ∙ ap (λ (l : List ℕ). can_fire m s && is_same (result_codes m s) (result_codes m l)) other
    ∙ sym (unused_where_seen m i s c.requires.input
    (present s i c.get.result.now c.get.ensures c.if-get-eq0.false)
    (ap (is_seen m) (sym other) ∙ sym c.is_seen.ensures ∙ c.if-not-is_seen.false))
