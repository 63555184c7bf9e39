use Rattle.std.proofs.Common.{◌≡◌, ◌++◌, drop}
use Rattle.task_code.specs.Listings.{numbers}
use Rattle.task_code.proofs.listing.push_numbers.Given as goal

-- what is written, with what is left, is the whole
abbrev pub invariant-loop-n : goal.invariant-loop-n
invariant-loop-n l = l.out ++ numbers (drop l.n-index l.list) ≡ l.fn.out ++ numbers l.fn.list
