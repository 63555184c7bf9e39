use Rattle.std.proofs.Common.{◌≡◌, [], map}
use Rattle.polis_base.specs.Lists.{upto}
use Rattle.journals.specs.Journals.{snap}
use Rattle.journals.proofs.moments.first_moments.Given as goal

-- those before this one are made
abbrev pub invariant-loop-m : goal.invariant-loop-m
invariant-loop-m l = l.moments ≡ map (snap l.net []) (upto l.m)
