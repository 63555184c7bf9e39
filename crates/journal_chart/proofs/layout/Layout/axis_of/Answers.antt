use Rattle.std.proofs.Common.{◌≡◌, ap, sym, subst, ◌∙◌, true}
use Rattle.transition_table.specs.declared.decl.Party.{Party}
use Rattle.journals.specs.Journals.{is_party}
use Rattle.journal_chart.specs.Labels.{axis_of}
use Rattle.journal_chart.proofs.Columns.{axis_at, axis_there}
use Rattle.journal_chart.proofs.layout.Layout.axis_of.Goals as goal

pub get-requires : goal.get-requires
get-requires c =
    axis_there c.args.net.now c.args.entries.now c.args.self.now.places c.in-Machine.m
    c.requires.layout.places
    (subst (λ (p : Party). is_party c.args.net.now p ≡ true) c.in-Machine.is c.requires.party)

pub returns-in-Machine : goal.returns-in-Machine
returns-in-Machine c =
    axis_at c.args.net.now c.args.entries.now c.args.self.now.places c.in-Machine.m c.get.result.now
    c.requires.layout.places
    (subst (λ (p : Party). is_party c.args.net.now p ≡ true) c.in-Machine.is c.requires.party)
    c.get.ensures
    ∙ ap (axis_of c.args.net.now c.args.entries.now) (sym c.in-Machine.is)
