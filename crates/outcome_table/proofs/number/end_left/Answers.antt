use Rattle.std.proofs.Common.{◌∙◌, ◌<◌, ℕ, length, arith, ap, sym, subst}
use Rattle.std.proofs.lemmas.Option.{get_or_from_slice_get, slice_get_within}
use Rattle.outcome_table.specs.inner.Needs.{end_left}
use Rattle.outcome_table.proofs.Settled.{end_within}
use Rattle.outcome_table.proofs.number.end_left.Goals as goal

pub get-requires : goal.get-requires
get-requires c =
    subst (λ (k : ℕ). k < length c.args.narrowing.now.ends.now) (sym c.from.ensures)
    (rw c.in-Some.is at c.requires)

pub returns-in-Some : goal.returns-in-Some
returns-in-Some c =
    let ends = c.args.narrowing.now.ends.now in
    let is = get_or_from_slice_get ends c.in-Some.r c.get.result.now 0
    (rw c.from.ensures at c.get.ensures) in
    let most = end_within c.args.narrowing.now.machine.now ends c.in-Some.r
    c.args.narrowing.now.are_ends
    (slice_get_within ends c.in-Some.r c.get.result.now (rw c.from.ensures at c.get.ensures)) in
    record { end = sym is ∙ sym (ap (end_left ends) c.in-Some.is); within = omega arith }
