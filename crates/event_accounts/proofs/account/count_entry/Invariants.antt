use Rattle.std.proofs.Common.{◌≡◌, ℕ, ◌<◌, ◌≤◌, length, slice_get, slice_index, Some}
use Rattle.event_accounts.specs.inner.Steps.{account_after}
use Rattle.event_accounts.specs.declared.account.Account.{Account}
use Rattle.event_accounts.proofs.account.count_entry.Given as goal

-- the accounts before this one are counted on, the others are as they were
abbrev pub invariant-loop-i : goal.invariant-loop-i
invariant-loop-i l =
    (length l.row ≡ length l.fn.row)
    × ((i : ℕ) (a : Account) → i < l.i → slice_get l.fn.row i ≡ Some a
    → slice_get l.row i ≡ Some (account_after l.p i (slice_index l.machine.inputs i) l.entry a))
    × ((i : ℕ) → l.i ≤ i → slice_get l.row i ≡ slice_get l.fn.row i)
