-- Logs: the entries of one machine with their stamps.
use Rattle.polis_base.specs.declared.limits.TheConstants.{MAX_STAMP}
use Rattle.std.specs.Prelude.{ℕ, Bool, true, ◌&&◌, ◌==◌, nat_lt, nat_le, List, [], ◌∷◌, map}
use Rattle.polis_base.specs.Lists.{last_of}
use Rattle.journals.specs.declared.entry.Entry.{Entry}
use Rattle.journals.specs.declared.stamped.Stamped.{Stamped}
use Rattle.journals.specs.Moved.{machine_of}

-- the greatest stamp
abbrev pub max_stamp : ℕ
max_stamp = MAX_STAMP

-- the entry with its stamp
abbrev pub stamped : ℕ → Entry → Stamped
stamped stamp entry = record { stamp = stamp; entry = entry }

-- the entries without their stamps
abbrev pub entries : List Stamped → List Entry
entries log = map (λ x. x.entry) log

-- the stamps without their entries
abbrev pub stamps : List Stamped → List ℕ
stamps log = map (λ x. x.stamp) log

-- each entry with the stamp at its place
abbrev pub with_stamps : List Entry → List ℕ → List Stamped
with_stamps [] ts = []
with_stamps (entry ∷ journal) [] = []
with_stamps (entry ∷ journal) (t ∷ ts) = stamped t entry ∷ with_stamps journal ts

-- the last stamp, or 0
abbrev pub clock : List Stamped → ℕ
clock log = last_of 0 (stamps log)

-- the stamps rise, from one above `low` on, and none is above the greatest
abbrev pub rises : ℕ → List Stamped → Bool
rises low [] = true
rises low (x ∷ xs) = nat_lt low x.stamp && nat_le x.stamp max_stamp && rises x.stamp xs

-- the entry stands at m: it is a delivery to m or a reaction of m
abbrev pub of_machine : ℕ → Entry → Bool
of_machine m entry = machine_of entry == m
