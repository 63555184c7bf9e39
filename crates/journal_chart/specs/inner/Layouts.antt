-- Where the columns of a chart stand, as the program keeps it.
use Rattle.std.specs.Prelude.{◌≡◌, ℕ, List, map, length}
use Rattle.polis_base.specs.Lists.{upto}
use Rattle.transition_table.specs.declared.decl.Party.{Party}
use Rattle.transition_table.specs.declared.decl.Party.TheVariants.{Env, Machine as Sender}
use Rattle.transition_table.specs.declared.network.Network.{Network}
use Rattle.journals.specs.declared.entry.Entry.{Entry}
use Rattle.journals.specs.declared.entry.Entry.TheVariants.{Dep, Rea}
use Rattle.journal_chart.specs.Columns.{width_of}
use Rattle.journal_chart.specs.Labels.{axes, axis_of}
use Rattle.journal_chart.specs.declared.layout.Layout.{Layout}

-- for each machine where its axis would stand, by number
abbrev pub machine_axes : Network → List Entry → ℕ → List ℕ
machine_axes net entries n = map (λ m. axis_of net entries (Sender m)) (upto n)

-- the columns of a chart that shows these entries
pub record IsLayout (net : Network) (entries : List Entry) (layout : Layout) : Type 0 where
  pub width : layout.width ≡ width_of net entries
  pub places : layout.places ≡ machine_axes net entries (length net.machines)
  pub bare : layout.bare ≡ axes net entries

-- who sends what the entry delivers; a reaction has no sender but the environment
abbrev pub sender : Entry → Party
sender (Dep from to event code) = from
sender (Rea m s o) = Env
