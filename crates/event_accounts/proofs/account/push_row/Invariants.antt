use Rattle.std.proofs.Common.{◌≡◌, ◌++◌, take}
use Rattle.event_accounts.proofs.account.push_row.Given as goal

-- those before this one stand at the end
abbrev pub invariant-loop-account : goal.invariant-loop-account
invariant-loop-account l = l.into ≡ l.fn.into ++ take l.account-index l.row
