-- What is declared, places aside.
use Rattle.std.specs.Prelude.{◌≡◌, ℕ, List, map, Option, Some, None}
use Rattle.net_reader.specs.Sentences.{HasNet}
use Rattle.net_reader.specs.declared.raw.Word.{Word}
use Rattle.net_reader.specs.declared.raw.Num.{Num}
use Rattle.net_reader.specs.declared.raw.RawValue.{RawValue}
use Rattle.net_reader.specs.declared.raw.RawValue.TheVariants as values
use Rattle.net_reader.specs.declared.raw.RawShape.{RawShape}
use Rattle.net_reader.specs.declared.raw.RawShape.TheVariants as shapes
use Rattle.net_reader.specs.declared.raw.RawDomain.{RawDomain}
use Rattle.net_reader.specs.declared.raw.RawEvent.{RawEvent}
use Rattle.net_reader.specs.declared.raw.RawState.{RawState}
use Rattle.net_reader.specs.declared.raw.RawCond.{RawCond}
use Rattle.net_reader.specs.declared.raw.RawCond.TheVariants as conds
use Rattle.net_reader.specs.declared.raw.RawSource.{RawSource}
use Rattle.net_reader.specs.declared.raw.RawSource.TheVariants as sources
use Rattle.net_reader.specs.declared.raw.RawAct.{RawAct}
use Rattle.net_reader.specs.declared.raw.RawAct.TheVariants as acts
use Rattle.net_reader.specs.declared.raw.RawRow.{RawRow}
use Rattle.net_reader.specs.declared.raw.RawMachine.{RawMachine}
use Rattle.net_reader.specs.declared.raw.RawNet.{RawNet}

abbrev pub word_alone : Word → Word
word_alone w = record { name = w.name; at = 0 }

abbrev pub num_alone : Num → Num
num_alone n = record { number = n.number; at = 0 }

abbrev pub value_alone : RawValue → RawValue
value_alone (values.Name w) = values.Name (word_alone w)
value_alone (values.Number n) = values.Number (num_alone n)

abbrev pub shape_alone : RawShape → RawShape
shape_alone (shapes.Names names) = shapes.Names (map word_alone names)
shape_alone (shapes.Range first last) = shapes.Range (num_alone first) (num_alone last)

abbrev pub domain_alone : RawDomain → RawDomain
domain_alone d = record { name = word_alone d.name; shape = shape_alone d.shape }

abbrev pub typed_alone : Option Word → Option Word
typed_alone None = None
typed_alone (Some w) = Some (word_alone w)

abbrev pub event_alone : RawEvent → RawEvent
event_alone e = record { name = word_alone e.name; domain = typed_alone e.domain; env = e.env }

abbrev pub state_alone : RawState → RawState
state_alone s =
    record { name = word_alone s.name; domain = word_alone s.domain; init = value_alone s.init }

abbrev pub cond_alone : RawCond → RawCond
cond_alone (conds.Present name) = conds.Present (word_alone name)
cond_alone (conds.Absent name) = conds.Absent (word_alone name)
cond_alone (conds.Is name value) = conds.Is (word_alone name) (value_alone value)
cond_alone (conds.OneOf name values) = conds.OneOf (word_alone name) (map value_alone values)

abbrev pub source_alone : RawSource → RawSource
source_alone (sources.Value value) = sources.Value (value_alone value)
source_alone (sources.Input name) = sources.Input (word_alone name)
source_alone (sources.Add name number) = sources.Add (word_alone name) (num_alone number)

abbrev pub given_alone : Option RawSource → Option RawSource
given_alone None = None
given_alone (Some source) = Some (source_alone source)

abbrev pub act_alone : RawAct → RawAct
act_alone (acts.Emit name value) = acts.Emit (word_alone name) (given_alone value)
act_alone (acts.Set name value) = acts.Set (word_alone name) (source_alone value)

abbrev pub row_alone : RawRow → RawRow
row_alone r = record { conds = map cond_alone r.conds; acts = map act_alone r.acts }

abbrev pub machine_alone : RawMachine → RawMachine
machine_alone m = record {
  name = word_alone m.name;
  priority = num_alone m.priority;
  inputs = map word_alone m.inputs;
  outputs = map word_alone m.outputs;
  states = map state_alone m.states;
  rows = map row_alone m.rows;
}

-- the network with 0 in place of each place
abbrev pub without_places : RawNet → RawNet
without_places n = record {
  name = word_alone n.name;
  version = num_alone n.version;
  domains = map domain_alone n.domains;
  events = map event_alone n.events;
  machines = map machine_alone n.machines;
}

-- the text declares the same, places aside
pub record Declares (text : List ℕ) (net : RawNet) : Type 0 where
  pub same : RawNet
  pub read : HasNet text same
  pub is : without_places same ≡ without_places net
