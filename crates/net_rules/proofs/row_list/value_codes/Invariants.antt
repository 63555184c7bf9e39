-- The codes so far, and those of the values that are left.
use Rattle.std.proofs.Common.{◌≡◌, ◌+◌, ℕ, ◌==◌, ◌||◌, drop, unwrap_or, option_copied}
use Rattle.std.specs.Option.{option_and_then}
use Rattle.std.specs.List.{list_any}
use Rattle.std.specs.Int.{bit_at}
use Rattle.net_names.specs.Values.{value_in}
use Rattle.net_rules.proofs.row_list.value_codes.Given as goal

abbrev pub invariant-loop-value : goal.invariant-loop-value
invariant-loop-value l = (c : ℕ)
    → (bit_at l.codes c == 1 || list_any
    (λ v. c == l.first + unwrap_or (option_and_then (λ s. value_in s v) (option_copied l.shape)) 0)
    (drop l.value-index l.values)) ≡ list_any
    (λ v. c == l.first + unwrap_or (option_and_then (λ s. value_in s v) (option_copied l.shape)) 0)
    l.values
