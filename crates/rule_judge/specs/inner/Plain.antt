-- Actions that take no value from a variable, on which the rules on sources say nothing.
use Rattle.std.specs.Prelude.{Bool}
use Rattle.std.specs.List.{list_all}
use Rattle.net_reader.specs.declared.raw.RawRow.{RawRow}
use Rattle.net_reader.specs.declared.raw.RawMachine.{RawMachine}
use Rattle.net_reader.specs.declared.raw.RawNet.{RawNet}
use Rattle.rule_judge.specs.Plain.{is_plain}

-- each action of the declarations is one of these
abbrev pub all_plain : RawNet → Bool
all_plain net =
    list_all (λ (m : RawMachine). list_all (λ (row : RawRow). list_all is_plain row.acts) m.rows)
    net.machines
