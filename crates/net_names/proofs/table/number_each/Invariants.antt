-- The numbers of the names that were gone over.
use Rattle.std.proofs.Common.{◌≡◌, ℕ, List, take}
use Rattle.net_names.specs.Tables.{number_at}
use Rattle.net_names.specs.Numbers.{names_of, number_in}
use Rattle.net_names.proofs.table.number_each.Given as goal

abbrev pub invariant-loop-number : goal.invariant-loop-number
invariant-loop-number l = (name : List ℕ)
    → number_at l.table name ≡ number_in (names_of (take l.number l.words)) name
