-- The first rule that is broken, and the least place where it is.
use Rattle.std.specs.Prelude.{◌≡◌, ℕ, List, [], ◌∷◌, Option, Some, None}
use Rattle.net_reader.specs.declared.raw.RawNet.{RawNet}
use Rattle.rule_judge.specs.declared.verdict.Broken.{Broken}
use Rattle.net_names.specs.Places.{least_place}
use Rattle.rule_judge.specs.Rules.{rule_1, rule_2, rule_3, rule_4, rule_5, rule_6, rule_7, rule_8, rule_9, rule_10, rule_11, rule_12, rule_13, rule_14, rule_15, rule_16, rule_17, rule_18, rule_19, rule_20, rule_21, rule_22, rule_23, rule_24, rule_25}

-- the number of a rule, and the places where it is broken
abbrev pub Rule : Type 0
Rule = ℕ × List ℕ

-- the rules on where actions take values from
abbrev pub act_rules : RawNet → List Rule
act_rules net = (21, rule_21 net) ∷ (22, rule_22 net) ∷ (23, rule_23 net) ∷ (24, rule_24 net)
    ∷ (25, rule_25 net) ∷ []

-- the rules on the values and rows of machines, and those
abbrev pub machine_rules : RawNet → List Rule
machine_rules net =
    (14, rule_14 net) ∷ (15, rule_15 net) ∷ (16, rule_16 net) ∷ (17, rule_17 net)
    ∷ (18, rule_18 net) ∷ (19, rule_19 net) ∷ (20, rule_20 net)
    ∷ act_rules net

-- the rules in order
abbrev pub rules : RawNet → List Rule
rules net =
    (1, rule_1 net) ∷ (2, rule_2 net) ∷ (3, rule_3 net) ∷ (4, rule_4 net) ∷ (5, rule_5 net)
    ∷ (6, rule_6 net) ∷ (7, rule_7 net) ∷ (8, rule_8 net) ∷ (9, rule_9 net) ∷ (10, rule_10 net)
    ∷ (11, rule_11 net) ∷ (12, rule_12 net) ∷ (13, rule_13 net) ∷ machine_rules net

-- the rule with this place, or else what a later rule gives
abbrev pub broken_at : ℕ → Option ℕ → Option Broken → Option Broken
broken_at rule (Some place) later = Some (record { rule = rule; place = place })
broken_at rule None later = later

-- the first of these rules that is broken somewhere, with its least place
abbrev pub first_broken : List Rule → Option Broken
first_broken [] = None
first_broken (rule ∷ rest) = broken_at rule.0 (least_place rule.1) (first_broken rest)

-- the first rule that is broken
abbrev pub broken : RawNet → Option Broken
broken net = first_broken (rules net)

-- this rule is the first that is broken, and this is its least place
abbrev pub Breaks : RawNet → ℕ → ℕ → Type 0
Breaks net rule place = broken net ≡ Some (record { rule = rule; place = place })
