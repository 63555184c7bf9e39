-- Actions that take no value from a variable, on which the rules on sources say nothing.
use Rattle.std.specs.Prelude.{Bool, true, false, Option, Some, None}
use Rattle.net_reader.specs.declared.raw.RawSource.{RawSource}
use Rattle.net_reader.specs.declared.raw.RawSource.TheVariants as sources
use Rattle.net_reader.specs.declared.raw.RawAct.{RawAct}
use Rattle.rule_judge.specs.Rules.{source_of}

-- a value is written, or there is none
abbrev pub is_written : Option RawSource → Bool
is_written None = true
is_written (Some (sources.Value value)) = true
is_written (Some (sources.Input w)) = false
is_written (Some (sources.Add w number)) = false

abbrev pub is_plain : RawAct → Bool
is_plain act = is_written (source_of act)
