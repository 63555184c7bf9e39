-- The lines that say what became of deliveries.
use Rattle.std.specs.Prelude.{ℕ, cond, List, ◌++◌, Option, Some, None, codes, decimal}
use Rattle.polis_base.specs.Lines.{line}
use Rattle.transition_table.specs.declared.network.Network.{Network}
use Rattle.event_accounts.specs.InputLines.{input_lines}
use Rattle.event_accounts.specs.declared.account.Account.{Account}

-- the place of an entry, or `-` where there is none
abbrev pub place_or_dash : Option ℕ → List ℕ
place_or_dash None = codes "-"
place_or_dash (Some place) = decimal place

-- the account of a machine and an event with these names
abbrev pub account_line : List ℕ → List ℕ → Account → List ℕ
account_line machine event a =
    line
    (codes "buffer " ++ machine ++ codes " " ++ event ++ codes " delivered " ++ decimal a.delivered
    ++ codes " read " ++ decimal a.read ++ codes " lost " ++ decimal a.lost ++ codes " left "
    ++ cond a.left (codes "1") (codes "0") ++ codes " first " ++ place_or_dash a.first)

-- a line for each buffer, in order
abbrev pub accounts_text : Network → List Account → List ℕ
accounts_text net accounts = input_lines account_line net accounts
