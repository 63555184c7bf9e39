-- The rules on machines in parts, each with the rules after it.
use Rattle.std.specs.Prelude.{List, [], ◌∷◌}
use Rattle.net_reader.specs.declared.raw.RawNet.{RawNet}
use Rattle.rule_judge.specs.Judged.{Rule, act_rules}
use Rattle.rule_judge.specs.Rules.{rule_9, rule_10, rule_11, rule_12, rule_13, rule_15, rule_16, rule_17, rule_18, rule_19, rule_20}

-- the rules on the targets, values and number of rows, and those on actions
abbrev pub row_rules : RawNet → List Rule
row_rules net = (18, rule_18 net) ∷ (19, rule_19 net) ∷ (20, rule_20 net) ∷ act_rules net

-- the rules on conditions, and those
abbrev pub cond_rules : RawNet → List Rule
cond_rules net =
    (15, rule_15 net) ∷ (16, rule_16 net) ∷ (17, rule_17 net) ∷ row_rules net

-- the rules on the sizes, priorities and ports of machines
abbrev pub port_rules : RawNet → List Rule
port_rules net =
    (9, rule_9 net) ∷ (10, rule_10 net) ∷ (11, rule_11 net) ∷ (12, rule_12 net)
    ∷ (13, rule_13 net) ∷ []
