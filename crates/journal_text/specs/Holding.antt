-- What the types of a network keep of its names and domains.
use Rattle.std.specs.Prelude.{◌^◌, Bool, ◌&&◌, nat_lt, nat_le, length}
use Rattle.std.specs.List.{list_all}
use Rattle.polis_base.specs.Names.{is_name}
use Rattle.domains.specs.Names.{are_distinct}
use Rattle.domains.specs.declared.domain.Domain.{Domain}
use Rattle.domains.specs.declared.domain.Domain.TheVariants.{Names, Range}
use Rattle.transition_table.specs.declared.decl.EventDecl.{EventDecl}
use Rattle.transition_table.specs.declared.decl.StateDecl.{StateDecl}
use Rattle.transition_table.specs.declared.machine.Machine.{Machine}
use Rattle.transition_table.specs.declared.network.Network.{Network}

-- 1 to 32 distinct name tokens, or numbers of 32 bits
abbrev pub values_hold : Domain → Bool
values_hold (Names names) = nat_le 1 (length names) && nat_le (length names) 32
    && are_distinct names && list_all is_name names
values_hold (Range span) = nat_lt span.last (2 ^ 32)

-- the name of an event, or of a state variable, is a name token
abbrev pub has_name_token : EventDecl → Bool
has_name_token event = is_name event.name

abbrev pub state_has_name : StateDecl → Bool
state_has_name variable = is_name variable.name

abbrev pub machine_holds : Machine → Bool
machine_holds machine = is_name machine.name && list_all state_has_name machine.states

-- each name of an event, a machine or a state variable is a name token
abbrev pub names_hold : Network → Bool
names_hold net = list_all has_name_token net.events && list_all machine_holds net.machines
    && list_all values_hold net.domains
