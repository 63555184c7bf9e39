use Rattle.std.proofs.Common.{◌≡◌, map, take}
use Rattle.event_accounts.specs.declared.account.Account.{Account}
use Rattle.run_survey.proofs.figures.lost_in.Given as goal

-- those of the accounts before this one
abbrev pub invariant-loop-account : goal.invariant-loop-account
invariant-loop-account l =
    l.numbers ≡ map (λ (account : Account). account.lost) (take l.account-index l.account-items)
