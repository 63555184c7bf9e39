use Rattle.std.proofs.Common.{◌+◌, ◌*◌}
use Rattle.polis_words.specs.inner.Run.{AreSaid}
use Rattle.polis_words.proofs.requests.options.options_of.Given as goal

-- the words so far are options that say this
abbrev pub invariant-loop-k : goal.invariant-loop-k
invariant-loop-k l = AreSaid l.words l.first (l.first + 2 * l.k) l.options
