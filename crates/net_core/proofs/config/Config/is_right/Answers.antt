use Rattle.std.proofs.Common.{sym, subst, IsTrue}
use Rattle.std.specs.Prelude.{◌↔◌}
use Rattle.transition_table.specs.Transitions.{OfMachine, Transition}
use Rattle.transition_table.specs.declared.network.Network.{Network}
use Rattle.journals.specs.declared.entry.Entry.{Entry}
use Rattle.net_core.specs.inner.Outcomes.{SaysOutcome}
use Rattle.net_core.proofs.config.Config.is_right.Goals as goal

pub returns-in_ok-made-in-Rea : goal.returns-in_ok-made-in-Rea
returns-in_ok-made-in-Rea g c =
    subst (λ (e : Entry). SaysOutcome c.args.self.now.net e c.makes.result) (sym c.in-Rea.is)
    (subst
    (λ (n : Network). IsTrue c.makes.result
    ↔ OfMachine n c.in-Rea.machine
    (λ machine. Transition machine c.in-Rea.snapshot c.in-Rea.outcome)) c.requires.network
    c.makes.ensures.gives)
