use Rattle.std.proofs.Common.{◌≡◌, [], map}
use Rattle.polis_base.specs.Lists.{upto}
use Rattle.event_accounts.specs.Accounts.{account, buffers_of}
use Rattle.event_accounts.proofs.account.first_rows.Given as goal

-- those of the machines before this one
abbrev pub invariant-loop-m : goal.invariant-loop-m
invariant-loop-m l = l.rows.items ≡ map (λ m. map (account []) (buffers_of l.net m)) (upto l.m)
