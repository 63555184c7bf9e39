use Rattle.std.proofs.Common.{◌≡◌, ◌≤◌, ◌-◌, length, drop}
use Rattle.polis_base.specs.Tokens.{tokens_from, tokens_of}
use Rattle.polis_base.proofs.TokensFrom.{after}
use Rattle.polis_base.proofs.lex.tokens.Given as goal

-- the tokens so far and those of the rest are the text's
abbrev pub invariant-loop-at : goal.invariant-loop-at
invariant-loop-at l = record {
  within : l.at ≤ length l.text;
  same : after l.made (tokens_from l.at 0 (drop l.at l.text)) ≡ tokens_of l.text;
}

abbrev pub decreases-loop-at : goal.decreases-loop-at
decreases-loop-at l = length l.text - l.at
