use Rattle.std.proofs.Common.{◌≡◌, ◌≤◌, ◌-◌, length}
use Rattle.polis_base.specs.Tokens.{tokens_after, marked_after}
use Rattle.polis_base.proofs.lex.next_token.Given as goal

-- the tokens from this place on are those from the given place on
abbrev pub invariant-loop-at : goal.invariant-loop-at
invariant-loop-at l = record {
  after : l.from ≤ l.at;
  same : tokens_after l.text l.at ≡ tokens_after l.text l.from;
  marked : marked_after l.text l.at ≡ marked_after l.text l.from;
}

abbrev pub decreases-loop-at : goal.decreases-loop-at
decreases-loop-at l = length l.text - l.at
