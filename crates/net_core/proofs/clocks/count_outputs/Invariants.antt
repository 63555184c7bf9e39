use Rattle.std.proofs.Common.{◌≡◌, ◌≤◌, ◌+◌, filter, length, drop}
use Rattle.journals.specs.Journals.{outputs_of, reads, emitted}
use Rattle.net_core.proofs.clocks.count_outputs.Given as goal

-- those of the outputs from this one on are left to count
abbrev pub invariant-loop-k : goal.invariant-loop-k
invariant-loop-k l = record {
  counted : l.count
      + length (filter (λ e. reads l.net l.m e.0)
      (emitted (drop l.k (outputs_of l.net l.from)) (drop l.k l.outs)))
      ≡ length (filter (λ e. reads l.net l.m e.0) (emitted (outputs_of l.net l.from) l.outs));
  few : l.count ≤ l.k;
}
