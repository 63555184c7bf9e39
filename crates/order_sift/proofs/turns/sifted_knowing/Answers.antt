use Rattle.std.proofs.Common.{◌≡◌, ◌∙◌, ◌<◌, ℕ, List, length, ap, subst, arith}
use Rattle.transition_table.specs.Orders.{Allowed}
use Rattle.char_function.specs.Orders.{first_order}
use Rattle.char_function.specs.Sizes.{Size}
use Rattle.order_sift.proofs.IsSize.{is_size, is_least, none_smaller}
use Rattle.order_sift.proofs.SiftRules.{no_larger, stays_last, none_smaller_last}
use Rattle.order_sift.specs.Turns.{Sifts}
use Rattle.order_sift.proofs.turns.sifted_knowing.Goals as goal
use Rattle.transition_table.proofs.MachineCounts.{order_length}

pub sift_items-requires-clause-some : goal.sift_items-requires-clause-some
sift_items-requires-clause-some c =
    let at = c.in_ok-at.ensures.at.counted in
    let long = order_length c.args.sifting.now.machine.now c.in_ok-at.at.order at.allowed in
    let results = c.var_count.ensures.results in
    omega arith

pub returns : goal.returns
returns c =
    let m = c.args.sifting.now.machine.now in
    let sure = c.requires.sifting.sure in
    let at = c.in_ok-at.at in
    let new = c.sift_items.new.at in
    let has = c.laws.ensures.has_size in
    let one = c.laws.ensures.one_size in
    let first = c.in_ok-at.ensures.order in
    let start = c.in_ok-at.ensures.at.counted in
    let first_size : at.count ≡ Size m (first_order m) = start.counted ∙ ap (Size m) first in
    let made = c.in_ok-sift_items.ensures in
    let size = made.at.counted.counted in
    let sifts : Sifts m new.order (first_order m) 0 (length (first_order m)) =
    subst (λ (o : List ℕ). Sifts m new.order o 0 (length o)) first made.sifts in
    let allowed : Allowed m (first_order m) = subst (Allowed m) first start.allowed in
    let long = order_length m (first_order m) allowed in
    let results = c.var_count.ensures.results in
    let some : 0 < length (first_order m) = omega arith in
    record {
      allowed = made.at.counted.allowed;
      first = is_size has m (first_order m) at.count sure first_size;
      counted = is_size has m new.order new.count sure size;
      no_more = let low = no_larger m new.order (first_order m) 0 (length (first_order m)) sifts in
          omega arith;
      large = λ many. let few = c.requires.sifting.few in absurd (omega arith);
      sifts = λ few. sifts;
      least = λ few.
          is_least has one m new.order new.count sure size (none_smaller_last m new.order
          (first_order m) c.laws_of_orders.ensures.one_place allowed made.at.counted.allowed some
          sifts);
      stays = λ few least.
          stays_last m new.order (first_order m) 0 (length (first_order m))
          c.laws_of_orders.ensures.have_places allowed.permutation some
          (none_smaller has m (first_order m) at.count sure first_size least) sifts;
    }
