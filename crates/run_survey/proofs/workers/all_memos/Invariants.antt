use Rattle.std.proofs.Common.{◌≡◌, All, length}
use Rattle.run_survey.specs.inner.Workers.{Knows}
use Rattle.run_survey.proofs.workers.all_memos.Given as goal

-- what those before this one know
abbrev pub invariant-loop : goal.invariant-loop
invariant-loop l = record {
  all : All (Knows l.net l.tables) l.all.items;
  many : length l.all.items ≡ l.counter;
}
