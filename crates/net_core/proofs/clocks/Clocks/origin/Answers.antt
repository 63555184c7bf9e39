use Rattle.std.proofs.Common.{sym, ap, ◌∙◌}
use Rattle.transition_table.specs.declared.decl.Party.{Party}
use Rattle.journals.specs.declared.entry.Entry.{Entry}
use Rattle.journals.specs.declared.entry.Entry.TheVariants.{Dep}
use Rattle.journals.specs.Stamps.{greatest, origin}
use Rattle.net_core.proofs.clocks.Clocks.origin.Goals as goal

pub returns-in-Machine-clause-stamp : goal.returns-in-Machine-clause-stamp
returns-in-Machine-clause-stamp c = λ done h.
    c.owed.ensures.stamp done h
    ∙ sym (ap (λ (e : Entry). greatest (origin c.args.net.now done e)) c.in-Dep.is
    ∙ ap (λ (s : Party). greatest
    (origin c.args.net.now done (Dep s c.in-Dep.to c.in-Dep.event c.in-Dep.code)))
    c.in-Machine.is)
