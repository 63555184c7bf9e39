-- Accounts of small networks, and a journal of one.
use Rattle.std.specs.Prelude.{ℕ, true, false, List, [], ◌∷◌, Some, None}
use Rattle.transition_table.specs.declared.decl.Party.TheVariants.{Env}
use Rattle.journals.specs.declared.entry.Entry.{Entry}
use Rattle.journals.specs.Samples.{delivers, idles}
use Rattle.event_accounts.specs.declared.account.Account.{Account}

-- one delivery, which was read
abbrev pub read_once : Account
read_once = record { delivered = 1; read = 1; lost = 0; left = false; first = None }

-- two, which were both read
abbrev pub read_twice : Account
read_twice = record { delivered = 2; read = 2; lost = 0; left = false; first = None }

-- two, the first of which the entry at this place overwrote, and the second of which was read
abbrev pub overwritten_once : ℕ → Account
overwritten_once p = record { delivered = 2; read = 1; lost = 1; left = false; first = Some p }

-- one, which is left
abbrev pub left_once : Account
left_once = record { delivered = 1; read = 0; lost = 0; left = true; first = None }

-- none
abbrev pub untouched : Account
untouched = record { delivered = 0; read = 0; lost = 0; left = false; first = None }

-- a delivery, and a reaction to it that doesn't fire
abbrev pub join_idle_run : List Entry
join_idle_run = delivers Env 0 0 ∷ idles 0 (1 ∷ 0 ∷ []) [] (0 ∷ []) ∷ []
