use Rattle.std.proofs.Common.{◌≡◌, take}
use Rattle.std.specs.List.{flat_map}
use Rattle.event_accounts.proofs.account.all_accounts.Given as goal

-- those of the machines before this one
abbrev pub invariant-loop-row : goal.invariant-loop-row
invariant-loop-row l = l.accounts ≡ flat_map (λ row. row) (take l.row-index l.rows)
