-- Classes of snapshots with the same outcome.
use Rattle.std.specs.Prelude.{ℕ, slice_index}
use Rattle.outcome_table.specs.declared.table.Results.{Results}
use Rattle.table_use.specs.declared.keys.Keys.{Keys}

-- the number of the first outcome that is equal to that of the snapshot n
abbrev pub class_of : Results → Keys → ℕ → ℕ
class_of results keys n = slice_index keys.firsts (slice_index results.numbers n)
