use Rattle.std.proofs.Common.{◌≡◌, ◌≤◌, ◌-◌, length}
use Rattle.std.specs.Result.{result_err}
use Rattle.polis_base.specs.Tokens.{tokens_after}
use Rattle.polis_base.proofs.lex.after_alone.Given as goal

-- the first fault from this place on is that from the given place on
abbrev pub invariant-loop-at : goal.invariant-loop-at
invariant-loop-at l = record {
  after : l.from ≤ l.at;
  same : result_err (tokens_after l.text l.at) ≡ result_err (tokens_after l.text l.from);
}

abbrev pub decreases-loop-at : goal.decreases-loop-at
decreases-loop-at l = length l.text - l.at
