use Rattle.std.proofs.Common.{◌≡◌, ℕ, List, None, false}
use Rattle.std.specs.List.{find}
use Rattle.polis_base.specs.Names.{is_name}
use Rattle.polis_base.specs.Lists.{upto}
use Rattle.trace_text.specs.Traces.{is_sent_event}
use Rattle.trace_text.proofs.sent.keep_tokens.Given as goal

-- no event before this one has a word as its name that is no name token
abbrev pub invariant-loop-e : goal.invariant-loop-e
invariant-loop-e l = (word : List ℕ) → is_name word ≡ false
    → find (is_sent_event l.net word) (upto l.e) ≡ None
