use Rattle.std.proofs.Common.{◌-◌, ◌+◌, length, drop, flat_map}
use Rattle.polis_base.specs.Lists.{upto}
use Rattle.domains.specs.AllCodes.{all_codes, each_after}
use Rattle.outcome_table.specs.inner.Tails.{EachNarrows}
use Rattle.outcome_table.proofs.tail.+sets_from.Given as goal

abbrev pub decreases-sets_from : goal.decreases-sets_from
decreases-sets_from l = length l.machine.now.vars - l.from

-- those with the codes before this one
abbrev pub invariant-loop-code : goal.invariant-loop-code
invariant-loop-code l = EachNarrows l.machine l.from
    (flat_map (each_after (all_codes (drop (l.from + 1) l.machine.vars))) (upto l.code)) l.made
