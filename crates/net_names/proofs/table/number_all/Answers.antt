use Rattle.std.proofs.Common.{◌∙◌, ap}
use Rattle.net_names.specs.Numbers.{names_of, number_in}
use Rattle.net_names.proofs.NameNumbers.{has_names}
use Rattle.net_names.proofs.table.number_all.Goals as goal

pub returns-clause-names : goal.returns-clause-names
returns-clause-names c =
    has_names c.in_ok-table.table c.args.words.now
    (λ name. c.in_ok-table.ensures name
    ∙ ap (λ words. number_in (names_of words) name) c.as_slice.ensures)
