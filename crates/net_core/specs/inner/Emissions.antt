-- What an output gives.
use Rattle.std.specs.Prelude.{ℕ, zero, suc, List, []}
use Rattle.journals.specs.declared.entry.Owed.{Owed}
use Rattle.net_core.specs.Emissions.{waiting, no_place}

-- what an event with its code gives to a set of receivers, where the code 0 is none
abbrev pub given_to : ℕ → ℕ → ℕ → ℕ → List Owed
given_to s e zero left = []
given_to s e (suc v) left =
    waiting (record { from = s; event = e; code = suc v; left = left; next = no_place })
