use Rattle.std.proofs.Common.{◌≡◌, map}
use Rattle.polis_base.specs.Lists.{upto}
use Rattle.journals.specs.Cursors.{is_read, nth_place}
use Rattle.net_core.proofs.config.cursors.first_cursors.Given as goal

-- those before this one are made
abbrev pub invariant-loop-m : goal.invariant-loop-m
invariant-loop-m l = l.places ≡ map (λ m. nth_place (is_read l.net m) l.trace 0) (upto l.m)
