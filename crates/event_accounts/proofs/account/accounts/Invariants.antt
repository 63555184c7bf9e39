use Rattle.std.proofs.Common.{◌≡◌, take}
use Rattle.event_accounts.specs.inner.Steps.{rows_of}
use Rattle.event_accounts.proofs.account.accounts.Given as goal

-- the accounts of the entries before this one
abbrev pub invariant-loop-p : goal.invariant-loop-p
invariant-loop-p l = l.rows.items ≡ rows_of l.net (take l.p l.j)
