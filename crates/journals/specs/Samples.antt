-- Entries of small networks, and those networks.
use Rattle.std.specs.Prelude.{ℕ, true, false, List, ◌∷◌, []}
use Rattle.transition_table.specs.samples.Join.{join as the_join}
use Rattle.transition_table.specs.samples.Lamp.{lamp as the_lamp}
use Rattle.transition_table.specs.samples.Loop.{loop as the_loop}
use Rattle.transition_table.specs.samples.Two.{two as the_two}
use Rattle.transition_table.specs.samples.Value.{value as the_value}
use Rattle.transition_table.specs.declared.decl.Party.{Party}
use Rattle.transition_table.specs.declared.decl.Party.TheVariants.{Env}
use Rattle.transition_table.specs.declared.network.Network.{Network}
use Rattle.journals.specs.declared.entry.Entry.{Entry}
use Rattle.journals.specs.declared.entry.Entry.TheVariants.{Dep, Rea}
use Rattle.journals.specs.declared.entry.TraceItem.{TraceItem}
use Rattle.journals.specs.declared.entry.TraceItem.TheVariants.{Event}

-- a delivery of a pure event
abbrev pub delivers : Party → ℕ → ℕ → Entry
delivers s m e = Dep s m e 1

-- a firing, and a reaction that doesn't fire
abbrev pub fires : ℕ → List ℕ → List ℕ → List ℕ → Entry
fires m codes next outs =
    Rea m (record { codes = codes }) (record { fires = true; next = next; outs = outs })

abbrev pub idles : ℕ → List ℕ → List ℕ → List ℕ → Entry
idles m codes next outs =
    Rea m (record { codes = codes }) (record { fires = false; next = next; outs = outs })

abbrev pub lamp : Network
lamp = the_lamp

abbrev pub join : Network
join = the_join

abbrev pub value : Network
value = the_value

abbrev pub two : ℕ → ℕ → Network
two p q = the_two p q

abbrev pub loop : Network
loop = the_loop

-- one press of the lamp
abbrev pub press : List TraceItem
press = Event 0 1 ∷ []

abbrev pub lamp_run : List Entry
lamp_run = delivers Env 0 0 ∷ fires 0 (1 ∷ 0 ∷ []) (2 ∷ []) (1 ∷ []) ∷ []
