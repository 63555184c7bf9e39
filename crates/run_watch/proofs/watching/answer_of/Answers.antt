use Rattle.std.proofs.Common.{◌≡◌, List, Some, sym, subst, ap, ◌∙◌, arith}
use Rattle.std.proofs.lemmas.Bool.{false≢true}
use Rattle.std.proofs.lemmas.List.{nil_from_length}
use Rattle.polis_base.specs.Lists.{head_of}
use Rattle.run_watch.specs.Emissions.{placed_outputs}
use Rattle.run_watch.specs.Watches.{Says}
use Rattle.run_watch.specs.declared.emission.Emission.{Emission}
use Rattle.run_watch.proofs.Fitting.{first_fits}
use Rattle.run_watch.proofs.Placed.{first_at, first_placed, none_placed, placed_within}
use Rattle.run_watch.proofs.Telling.{some_place}
use Rattle.run_watch.proofs.watching.answer_of.Goals as goal
use Rattle.run_watch.proofs.watching.answer_of.Goals.{After-get-first, then-finished, else-finished}

-- the first complaint is the first output
first : (c : After-get-first)
    → head_of (placed_outputs c.args.monitor.now c.args.finished.now.journal)
    ≡ Some c.get-first.result.now
first c =
    ap (λ (l : List Emission). head_of l) (sym c.in_ok-complaints.ensures)
    ∙ first_at c.in_ok-complaints.complaints ∙ c.get-first.ensures

pub returns-then-len-eq0-clause-says : goal.returns-then-len-eq0-clause-says
returns-then-len-eq0-clause-says c =
    let monitor = c.args.monitor.now in
    let heard = c.args.heard.now in
    let watch = c.args.finished.now.journal in
    let none =
    none_placed monitor watch
    (sym c.in_ok-complaints.ensures
    ∙ nil_from_length c.in_ok-complaints.complaints
    (sym c.len.ensures ∙ c.if-len-eq0.true)) in
    elim c.if-finished.branch [
      | then-finished w ↦
          subst (Says monitor heard watch) (sym w.result-is)
          (none, c.requires.complete.0 w.if-finished.true)
      | else-finished w ↦
          subst (Says monitor heard watch) (sym w.result-is) (
            none,
            λ complete. false≢true (sym w.if-finished.false ∙ c.requires.complete.1 complete),
          )
    ]

pub origin-requires-clause-end : goal.origin-requires-clause-end
origin-requires-clause-end c =
    let within =
    (placed_within c.args.monitor.now 0 c.args.finished.now.journal c.get-first.result.now
    (first c)).1 in
    omega arith

pub origin-requires-clause-told : goal.origin-requires-clause-told
origin-requires-clause-told c =
    some_place c.args.monitor.now c.args.heard.now c.args.finished.now.journal
    c.get-first.result.now c.requires.legal (first c)

pub returns-clause-says : goal.returns-clause-says
returns-clause-says c =
    let here = first (goal.at.returns-clause-says c).After-get-first in (
      first_placed c.args.monitor.now c.args.finished.now.journal c.get-first.result.now here,
      record { first = c.get-first.result.now; is = here; told = c.origin.ensures },
    )

pub returns-clause-shown : goal.returns-clause-shown
returns-clause-shown c =
    first_fits c.args.monitor.now c.args.finished.now.journal c.get-first.result.now
    c.requires.legal.0 (first (goal.at.returns-clause-shown c).After-get-first)
