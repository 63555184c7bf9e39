-- A journal of a small network.
use Rattle.std.specs.Prelude.{List, [], ◌∷◌}
use Rattle.transition_table.specs.declared.decl.Party.TheVariants.{Env}
use Rattle.journals.specs.declared.entry.Entry.{Entry}
use Rattle.journals.specs.declared.entry.Entry.TheVariants.{Dep}
use Rattle.journals.specs.Samples.{idles}

-- the value 3 overwrites the value 5, and no row is enabled on it
abbrev pub value_lost_run : List Entry
value_lost_run = Dep Env 0 0 6 ∷ Dep Env 0 0 4 ∷ idles 0 (4 ∷ []) [] (0 ∷ []) ∷ []
