use Rattle.std.proofs.Common.{◌≡◌, ◌≤◌, take}
use Rattle.polis_base.specs.Digits.{number_of}
use Rattle.polis_base.proofs.decimal.number_up_to.Given as goal

-- the number of the digits so far
abbrev pub invariant-loop-digit : goal.invariant-loop-digit
invariant-loop-digit l =
    record { same : l.number ≡ number_of (take l.digit-index l.digits); within : l.number ≤ l.max }
