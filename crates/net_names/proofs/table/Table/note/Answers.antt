use Rattle.std.proofs.Common.{◌∙◌, sym, ap}
use Rattle.indexmap.specs.IndexMap.{insert_entry}
use Rattle.domains.specs.Names.{is_same}
use Rattle.net_names.specs.Tables.{has, number_at}
use Rattle.net_names.proofs.NameNumbers.{insert_noted, number_noted, has_noted}
use Rattle.net_names.proofs.table.Table.note.Goals as goal

pub returns-clause-noted : goal.returns-clause-noted
returns-clause-noted c =
    c.in_ok-insert.ensures.entries
    ∙ ap (λ es. insert_entry is_same es c.args.name c.args.number) c.self.view_is
    ∙ insert_noted c.args.name c.args.number c.args.self.now (sym c.has.ensures ∙ c.if-has.false)

pub returns-clause-names : goal.returns-clause-names
returns-clause-names c =
    λ q. ap (λ es. has es q) (c.in_ok-insert.ensures.entries
    ∙ ap (λ es. insert_entry is_same es c.args.name c.args.number) c.self.view_is
    ∙ insert_noted c.args.name c.args.number c.args.self.now (sym c.has.ensures ∙ c.if-has.false))
    ∙ has_noted c.args.self.now c.args.name c.args.number q

pub returns-clause-number : goal.returns-clause-number
returns-clause-number c =
    λ q. ap (λ es. number_at es q) (c.in_ok-insert.ensures.entries
    ∙ ap (λ es. insert_entry is_same es c.args.name c.args.number) c.self.view_is
    ∙ insert_noted c.args.name c.args.number c.args.self.now (sym c.has.ensures ∙ c.if-has.false))
    ∙ number_noted c.args.self.now c.args.name c.args.number q
