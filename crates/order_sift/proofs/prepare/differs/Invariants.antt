use Rattle.std.proofs.Common.{◌≡◌, ◌+◌, ◌-◌, ◌*◌, ◌==◌, not, false, slice_index}
use Rattle.std.specs.List.{list_any}
use Rattle.polis_base.specs.Lists.{upto}
use Rattle.order_sift.proofs.prepare.differs.Given as goal

abbrev pub invariant-loop-code : goal.invariant-loop-code
invariant-loop-code l =
    list_any (λ code.
    not (slice_index l.outcomes (l.i + code * l.stride - slice_index l.codes l.i * l.stride) ==
    slice_index l.outcomes l.i)) (upto l.code) ≡ false
