-- Computed sizes are the sizes of the public contracts.
use Rattle.std.proofs.Common.{◌≡◌, ℕ, ◌<◌, ◌≤◌, List, arith, sym, subst}
use Rattle.domains.specs.Tables.{product}
use Rattle.transition_table.specs.declared.machine.Machine.{Machine}
use Rattle.transition_table.specs.Orders.{Allowed}
use Rattle.transition_table.specs.Transitions.{IsDeterministic}
use Rattle.char_function.specs.Laws.{HasSize, OneSize}
use Rattle.char_function.specs.Orders.{first_order}
use Rattle.char_function.specs.Sizes.{IsSize, Size}
use Rattle.order_sift.specs.Sifting.{IsLeastByMoves, IsSifted}
use Rattle.order_sift.specs.inner.Turns.{NoneSmaller}

pub is_size : HasSize → (m : Machine) (order : List ℕ) (count : ℕ) → IsDeterministic m
    → count ≡ Size m order → IsSize m order count
is_size has m order count sure counted = subst (IsSize m order) (sym counted) (has m order sure)

pub is_least : HasSize → OneSize → (m : Machine) (order : List ℕ) (count : ℕ) → IsDeterministic m
    → count ≡ Size m order → NoneSmaller m order → IsLeastByMoves m order count
is_least has one m order count sure counted none other size move allowed is =
    let same : size ≡ Size m other =
    one m other size (Size m other) allowed.permutation allowed.long is (has m other sure) in
    let low : Size m order ≤ Size m other = none other move allowed in
    omega arith

pub none_smaller : HasSize → (m : Machine) (order : List ℕ) (count : ℕ) → IsDeterministic m
    → count ≡ Size m order → IsLeastByMoves m order count → NoneSmaller m order
none_smaller has m order count sure counted least other move allowed =
    let low : count ≤ Size m other = least other (Size m other) move allowed (has m other sure) in
    omega arith

-- the first order of a machine of many snapshots
pub large_sifted : (m : Machine) (order : List ℕ) (count : ℕ) → 1024 < product m.vars
    → order ≡ first_order m → Allowed m order → IsSize m order count → IsSifted m order count count
large_sifted m order count many is allowed size = record {
  allowed = allowed;
  first = subst (λ (o : List ℕ). IsSize m o count) is size;
  counted = size;
  no_more = omega arith;
  large = λ more. is;
  sifts = λ few. absurd (omega arith);
  least = λ few. absurd (omega arith);
  stays = λ few least. is;
}
