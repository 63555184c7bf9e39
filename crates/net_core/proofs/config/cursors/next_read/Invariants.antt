use Rattle.std.proofs.Common.{◌≡◌, ◌+◌, not, drop}
use Rattle.std.specs.List.{prefix_len}
use Rattle.net_core.specs.Marks.{is_marked}
use Rattle.net_core.proofs.config.cursors.next_read.Given as goal

-- none before this one is read
abbrev pub invariant-loop-place : goal.invariant-loop-place
invariant-loop-place l =
    l.place + prefix_len (λ item. not (is_marked l.readers l.m item)) (drop l.place l.trace)
    ≡ l.from + prefix_len (λ item. not (is_marked l.readers l.m item)) (drop l.from l.trace)
