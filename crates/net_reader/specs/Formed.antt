-- What is declared with names that are names, and numbers of 32 bits.
use Rattle.std.specs.Prelude.{Bool, true, ◌&&◌, nat_le, Option, Some, None}
use Rattle.std.specs.List.{list_all}
use Rattle.polis_base.specs.Names.{is_name}
use Rattle.net_reader.specs.declared.raw.Word.{Word}
use Rattle.net_reader.specs.declared.raw.Num.{Num}
use Rattle.net_reader.specs.declared.raw.RawValue.{RawValue}
use Rattle.net_reader.specs.declared.raw.RawValue.TheVariants as values
use Rattle.net_reader.specs.declared.raw.RawShape.{RawShape}
use Rattle.net_reader.specs.declared.raw.RawShape.TheVariants as shapes
use Rattle.net_reader.specs.declared.raw.RawDomain.{RawDomain}
use Rattle.net_reader.specs.declared.raw.RawEvent.{RawEvent}
use Rattle.net_reader.specs.declared.raw.RawState.{RawState}
use Rattle.net_reader.specs.declared.raw.RawCond.{RawCond}
use Rattle.net_reader.specs.declared.raw.RawCond.TheVariants as conds
use Rattle.net_reader.specs.declared.raw.RawSource.{RawSource}
use Rattle.net_reader.specs.declared.raw.RawSource.TheVariants as sources
use Rattle.net_reader.specs.declared.raw.RawAct.{RawAct}
use Rattle.net_reader.specs.declared.raw.RawAct.TheVariants as acts
use Rattle.net_reader.specs.declared.raw.RawRow.{RawRow}
use Rattle.net_reader.specs.declared.raw.RawMachine.{RawMachine}

abbrev pub word_formed : Word → Bool
word_formed w = is_name w.name

abbrev pub num_formed : Num → Bool
num_formed n = nat_le n.number 4294967295

abbrev pub value_formed : RawValue → Bool
value_formed (values.Name w) = word_formed w
value_formed (values.Number n) = num_formed n

abbrev pub shape_formed : RawShape → Bool
shape_formed (shapes.Names names) = list_all word_formed names
shape_formed (shapes.Range first last) = num_formed first && num_formed last

abbrev pub domain_formed : RawDomain → Bool
domain_formed d = word_formed d.name && shape_formed d.shape

abbrev pub typed_formed : Option Word → Bool
typed_formed None = true
typed_formed (Some w) = word_formed w

abbrev pub event_formed : RawEvent → Bool
event_formed e = word_formed e.name && typed_formed e.domain

abbrev pub state_formed : RawState → Bool
state_formed s = word_formed s.name && (word_formed s.domain && value_formed s.init)

abbrev pub cond_formed : RawCond → Bool
cond_formed (conds.Present name) = word_formed name
cond_formed (conds.Absent name) = word_formed name
cond_formed (conds.Is name value) = word_formed name && value_formed value
cond_formed (conds.OneOf name values) = word_formed name && list_all value_formed values

abbrev pub source_formed : RawSource → Bool
source_formed (sources.Value value) = value_formed value
source_formed (sources.Input name) = word_formed name
source_formed (sources.Add name number) = word_formed name && num_formed number

abbrev pub given_formed : Option RawSource → Bool
given_formed None = true
given_formed (Some source) = source_formed source

abbrev pub act_formed : RawAct → Bool
act_formed (acts.Emit name value) = word_formed name && given_formed value
act_formed (acts.Set name value) = word_formed name && source_formed value

abbrev pub row_formed : RawRow → Bool
row_formed r = list_all cond_formed r.conds && list_all act_formed r.acts

abbrev pub head_formed : RawMachine → Bool
head_formed m = word_formed m.name && num_formed m.priority

abbrev pub ports_formed : RawMachine → Bool
ports_formed m = list_all word_formed m.inputs && list_all word_formed m.outputs

abbrev pub machine_formed : RawMachine → Bool
machine_formed m =
    head_formed m
    && (ports_formed m && (list_all state_formed m.states && list_all row_formed m.rows))
