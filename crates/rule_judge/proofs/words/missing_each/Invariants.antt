-- What was found and what is left give what the whole gives.
use Rattle.std.proofs.Common.{◌≡◌, drop}
use Rattle.net_names.specs.Places.{sooner, least_place}
use Rattle.net_names.specs.Numbers.{missing}
use Rattle.net_names.specs.Tables.{has}
use Rattle.rule_judge.proofs.words.missing_each.Given as goal

abbrev pub invariant-loop-word : goal.invariant-loop-word
invariant-loop-word l = sooner l.found (least_place (missing (has l.table) (drop l.word-index l.words)))
    ≡ sooner l.fn.found (least_place (missing (has l.table) l.fn.words))
