-- What was found and what is left give what the whole gives.
use Rattle.std.proofs.Common.{◌≡◌, take, drop}
use Rattle.net_names.specs.Places.{sooner, least_place}
use Rattle.net_names.specs.Numbers.{repeated, is_name_of}
use Rattle.rule_judge.specs.inner.Sorting.{taken_before}
use Rattle.rule_judge.proofs.words.repeated_few.Given as goal

abbrev pub invariant-loop-place : goal.invariant-loop-place
invariant-loop-place l =
    sooner l.found
    (least_place (repeated (taken_before l.taken (take l.place l.words)) (drop l.place l.words)))
    ≡ sooner l.fn.found (least_place (repeated (is_name_of l.fn.taken) l.fn.words))
