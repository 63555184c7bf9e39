-- Which domains of a network are used.
use Rattle.std.specs.Prelude.{ℕ, Bool, false, not, ◌||◌, ◌==◌, List, ◌++◌, filter, length, Option, Some, None, codes}
use Rattle.std.specs.List.{list_any}
use Rattle.polis_base.specs.Lines.{line}
use Rattle.polis_base.specs.Lists.{upto}
use Rattle.transition_table.specs.declared.decl.EventDecl.{EventDecl}
use Rattle.transition_table.specs.declared.decl.StateDecl.{StateDecl}
use Rattle.transition_table.specs.declared.machine.Machine.{Machine}
use Rattle.transition_table.specs.declared.network.Network.{Network}

-- this is the domain's number
abbrev pub is_number : ℕ → Option ℕ → Bool
is_number d None = false
is_number d (Some k) = k == d

-- the event, the state variable, or some state variable of the machine has the domain
abbrev pub event_has : ℕ → EventDecl → Bool
event_has d event = is_number d event.domain

abbrev pub state_has : ℕ → StateDecl → Bool
state_has d variable = variable.domain == d

abbrev pub machine_has : ℕ → Machine → Bool
machine_has d machine = list_any (state_has d) machine.states

-- some event or state variable has the domain
abbrev pub is_domain_used : Network → ℕ → Bool
is_domain_used net d = list_any (event_has d) net.events || list_any (machine_has d) net.machines

-- the numbers of the domains that none has
abbrev pub unused_domains : Network → List ℕ
unused_domains net = filter (λ d. not (is_domain_used net d)) (upto (length net.domains))

-- `domain D unused`
abbrev pub unused_domain_line : List ℕ → List ℕ
unused_domain_line name = line (codes "domain " ++ name ++ codes " unused")
