-- How what a monitor says of later runs is added.
use Rattle.std.specs.Prelude.{ℕ, ◌+◌, Option, Some, None}
use Rattle.run_survey.specs.declared.told.FoundRuns.{FoundRuns}
use Rattle.run_survey.specs.declared.told.Others.{Others}
use Rattle.run_survey.specs.inner.Merging.{others_count}

abbrev pub found_count : Option FoundRuns → ℕ
found_count None = 0
found_count (Some found) = found.count

abbrev pub found_joined : Option FoundRuns → Option FoundRuns → Option FoundRuns
found_joined None next = next
found_joined (Some found) next =
    Some (record {
      count = found.count + found_count next;
      seed = found.seed;
      complaint = found.complaint;
    })

abbrev pub others_joined : Option Others → Option Others → Option Others
others_joined None next = next
others_joined (Some others) next =
    Some (record { count = others.count + others_count next; seed = others.seed })
