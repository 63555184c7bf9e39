-- What an entry takes away from what machines owe.
use Rattle.std.specs.Prelude.{List}
use Rattle.transition_table.specs.declared.decl.Party.TheVariants.{Env, Machine as Sender}
use Rattle.journals.specs.declared.entry.Entry.{Entry}
use Rattle.journals.specs.declared.entry.Entry.TheVariants.{Dep, Rea}
use Rattle.journals.specs.declared.entry.Owed.{Owed}
use Rattle.journals.specs.Schedules.{is_way, without_first}

-- a delivery of a machine takes the first from its sender to its receiver away
abbrev pub landed : Entry → List Owed → List Owed
landed (Dep Env to event code) owed = owed
landed (Dep (Sender s) to event code) owed = without_first (is_way (Sender s) to) owed
landed (Rea m s o) owed = owed
