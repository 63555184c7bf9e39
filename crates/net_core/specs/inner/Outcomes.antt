-- Outcomes that are made again, and what an entry is answered.
use Rattle.std.specs.Prelude.{◌↔◌, Bool, Option, Some, None, IsTrue, ⊤}
use Rattle.transition_table.specs.Transitions.{OfMachine, Transition}
use Rattle.transition_table.specs.declared.network.Network.{Network}
use Rattle.journals.specs.declared.entry.Entry.{Entry}
use Rattle.journals.specs.declared.entry.Entry.TheVariants.{Dep, Rea}
use Rattle.net_core.specs.declared.answer.Admit.{Admit}
use Rattle.net_core.specs.declared.answer.Admit.TheVariants.{Yes, No}
use Rattle.net_core.specs.declared.answer.Why.{Why}

-- whether the outcome of a reaction is the machine's on the snapshot; of a delivery nothing is said
abbrev pub SaysOutcome : Network → Entry → Bool → Type 0
SaysOutcome net (Dep s m event code) is_right = ⊤
SaysOutcome net (Rea m s o) is_right =
    IsTrue is_right ↔ OfMachine net m (λ machine. Transition machine s o)

-- the answer to an entry by the cause against it, if there is one
abbrev pub answer_of : Option Why → Admit
answer_of None = Yes
answer_of (Some why) = No why
