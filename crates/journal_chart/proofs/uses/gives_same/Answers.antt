use Rattle.std.proofs.Common.{Bool, ◌&&◌, sym, ap, ◌∙◌}
use Rattle.domains.specs.Names.{is_same}
use Rattle.transition_table.specs.Computed.{result_codes}
use Rattle.journal_chart.proofs.InputsAlone.{fires_of, same_given}
use Rattle.journal_chart.proofs.uses.gives_same.Goals as goal

pub returns-then-not-here : goal.returns-then-not-here
returns-then-not-here c =
    let m = c.args.machine.now in
    let s = c.args.s.now.codes in
    ap (λ (b : Bool). b && is_same (result_codes m s) (result_codes m c.args.other.now.codes))
    (sym c.if-not-here.true ∙ fires_of m s c.in_ok-here.here c.in_ok-here.ensures)

pub returns : goal.returns
returns c =
    let m = c.args.machine.now in
    let s = c.args.s.now.codes in
    let t = c.args.other.now.codes in
    same_given m s t c.in_ok-here.here c.in_ok-there.there c.same_outcome.result
    c.requires.deterministic c.requires.snapshot c.requires.other c.in_ok-here.ensures
    c.in_ok-there.ensures c.same_outcome.ensures
    ∙ ap (λ (b : Bool). b && is_same (result_codes m s) (result_codes m t))
    (sym c.if-not-here.false ∙ fires_of m s c.in_ok-here.here c.in_ok-here.ensures)
