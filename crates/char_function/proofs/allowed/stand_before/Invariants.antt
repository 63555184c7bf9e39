use Rattle.std.proofs.Common.{◌≡◌, drop, nat_lt}
use Rattle.std.specs.List.{list_all}
use Rattle.domains.specs.Orders.{place}
use Rattle.char_function.proofs.allowed.stand_before.Given as goal

abbrev pub invariant-loop-v : goal.invariant-loop-v
invariant-loop-v l = list_all (λ v. nat_lt (place l.order v) (place l.order l.item)) l.support
    ≡ list_all (λ v. nat_lt (place l.order v) (place l.order l.item)) (drop l.v-index l.support)
