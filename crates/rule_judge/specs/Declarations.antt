-- The rules that are judged before the names of machines are numbered.
use Rattle.std.specs.Prelude.{List, take}
use Rattle.net_reader.specs.declared.raw.RawNet.{RawNet}
use Rattle.rule_judge.specs.Judged.{Rule, rules}

-- all before those on the values and rows of machines
abbrev pub declaration_rules : RawNet → List Rule
declaration_rules net = take 13 (rules net)
