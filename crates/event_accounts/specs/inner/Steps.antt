-- What one entry makes of an account.
use Rattle.std.specs.Prelude.{ℕ, ◌+◌, ◌<◌, ◌≤◌, true, false, cond, ◌==◌, List, map, length, slice_index, Some, ⊤}
use Rattle.std.specs.Option.{option_or}
use Rattle.polis_base.specs.Lists.{upto}
use Rattle.transition_table.specs.declared.network.Network.{Network}
use Rattle.journals.specs.declared.entry.Entry.{Entry}
use Rattle.journals.specs.declared.entry.Entry.TheVariants.{Dep, Rea}
use Rattle.event_accounts.specs.Accounts.{account, buffers_of}
use Rattle.event_accounts.specs.declared.account.Account.{Account}

-- a delivery by the entry at place p
abbrev pub after_delivery : ℕ → Account → Account
after_delivery p a =
    record {
      delivered = a.delivered + 1;
      read = a.read;
      lost = cond a.left (a.lost + 1) a.lost;
      left = true;
      first = cond a.left (option_or a.first (Some p)) a.first;
    }

-- a firing whose snapshot has this code at the input
abbrev pub after_firing : ℕ → Account → Account
after_firing code a =
    record {
      delivered = a.delivered;
      read = cond (code == 0) a.read (a.read + 1);
      lost = a.lost;
      left = false;
      first = a.first;
    }

-- an entry of the buffer's machine, at place p, where the input i has the event e
abbrev pub account_after : ℕ → ℕ → ℕ → Entry → Account → Account
account_after p i e (Dep from to event code) a = cond (event == e) (after_delivery p a) a
account_after p i e (Rea m s o) a = cond o.fires (after_firing (slice_index s.codes i) a) a

-- the entry's snapshot, if it has one, has a code at place i
abbrev pub HasCode : ℕ → Entry → Type 0
HasCode i (Dep from to event code) = ⊤
HasCode i (Rea m s o) = i < length s.codes

-- none of its numbers is above p
abbrev pub AreFew : ℕ → Account → Type 0
AreFew p a = (a.delivered ≤ p) × (a.read ≤ p) × (a.lost ≤ p)

-- the accounts of each machine, by input
abbrev pub rows_of : Network → List Entry → List (List Account)
rows_of net journal =
    map (λ m. map (account journal) (buffers_of net m)) (upto (length net.machines))
