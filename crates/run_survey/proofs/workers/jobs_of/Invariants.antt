use Rattle.std.proofs.Common.{◌≡◌, ◌+◌, List, All, length}
use Rattle.outcome_table.specs.declared.table.Results.{Results}
use Rattle.transition_table.specs.declared.network.Network.{Network}
use Rattle.run_survey.specs.inner.Workers.{AreInRow, IsReady, Knows}
use Rattle.run_survey.proofs.workers.jobs_of.Given as goal

-- the jobs before this one are made
abbrev pub invariant-loop-k : goal.invariant-loop-k
invariant-loop-k l = record {
  row : AreInRow l.seeds.first l.seeds.count l.made.items;
  many : length l.made.items ≡ l.k;
  left : length l.memos.items + l.k ≡ length l.fn.memos.items;
  ready : (net : Network) (tables : List Results) → All (Knows net tables) l.fn.memos.items
      → All (IsReady net tables) l.made.items;
  knows : (net : Network) (tables : List Results) → All (Knows net tables) l.fn.memos.items
      → All (Knows net tables) l.memos.items;
}
