use Rattle.std.proofs.Common.{List, ℕ, length, sym, ap, ◌∙◌}
use Rattle.domains.specs.AllCodes.{all_codes}
use Rattle.machine_equiv.proofs.IsLeastDifference.{place_is, numbers_long}
use Rattle.machine_equiv.proofs.tables.place_of_difference.Goals as goal

pub first_other-requires-clause-long : goal.first_other-requires-clause-long
first_other-requires-clause-long c =
    numbers_long c.args.a.now c.in_ok-results.results c.in_ok-results.ensures
    ∙ ap (λ (vars : List ℕ). length (all_codes vars)) c.requires.form.vars
    ∙ sym (numbers_long c.args.b.now c.in_ok-others.others c.in_ok-others.ensures)

pub returns : goal.returns
returns c =
    place_is c.args.a.now c.args.b.now c.requires.form c.requires.deterministic c.requires.other
    c.in_ok-results.results c.in_ok-others.others c.in_ok-results.ensures c.in_ok-others.ensures
    c.in_ok-found.found c.in_ok-found.ensures
