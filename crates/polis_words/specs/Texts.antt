-- The texts that calls show of runs, of accepted networks and of legal journals.
use Rattle.std.specs.Prelude.{ℕ, Bool, cond, List, ◌++◌, flat_map, length, codes, decimal}
use Rattle.polis_base.specs.Lines.{line}
use Rattle.domains.specs.Tables.{product}
use Rattle.transition_table.specs.declared.machine.Machine.{Machine}
use Rattle.transition_table.specs.declared.network.Network.{Network}
use Rattle.transition_table.specs.declared.snapshot.Snapshot.{Snapshot}
use Rattle.journals.specs.declared.entry.Entry.{Entry}
use Rattle.journals.specs.Outputs.{lost}
use Rattle.journal_text.specs.Texts.{count_text, snapshot_text}

-- how many entries there are, and how many deliveries were lost
abbrev pub drawn_text : Network → List Entry → Bool → List ℕ
drawn_text net journal complete =
    line (codes "entries " ++ count_text journal complete)
    ++ line (codes "lost " ++ decimal (lost net journal))

-- the same, and how long the gathered and the adopted journal are
abbrev pub summary_text : Network → List Entry → Bool → ℕ → ℕ → List ℕ
summary_text net journal complete gathered adopted =
    drawn_text net journal complete
    ++ line (codes "gathered " ++ decimal gathered ++ codes " adopted " ++ decimal adopted)

-- `M I ; X`: the machine, and a snapshot of it
abbrev pub machine_snapshot_text : Network → Machine → Snapshot → List ℕ
machine_snapshot_text net machine s =
    machine.name ++ codes " " ++ snapshot_text net machine s.codes

-- a machine's name, how many snapshots it has, and how many rows
abbrev pub machine_line : Machine → List ℕ
machine_line machine =
    line (codes "machine " ++ machine.name ++ codes " snapshots " ++ decimal (product machine.vars)
    ++ codes " rows " ++ decimal (length machine.rows))

-- how many machines and events there are, and a line a machine
abbrev pub accepted_text : Network → List ℕ
accepted_text net =
    line (codes "accepted machines " ++ decimal (length net.machines) ++ codes " events "
    ++ decimal (length net.events))
    ++ flat_map machine_line net.machines

-- `complete` or `open`
abbrev pub found : Bool → List ℕ
found complete = cond complete (codes "complete") (codes "open")

-- what `replay` shows of a legal journal of so many entries
abbrev pub legal_text : ℕ → Bool → List ℕ
legal_text entries complete =
    line (codes "legal " ++ decimal entries ++ codes " " ++ found complete)

-- what `migrate` shows of a legal journal of so many entries
abbrev pub migrated_text : ℕ → List ℕ
migrated_text entries = line (codes "migrated " ++ decimal entries)

-- what `image` shows of an image of so many bytes
abbrev pub image_text : ℕ → List ℕ
image_text bytes = line (codes "image " ++ decimal bytes ++ codes " bytes")

-- what `equiv` shows of networks of so many machines each
abbrev pub same_text : ℕ → List ℕ
same_text machines = line (codes "same " ++ decimal machines)

-- what `wave` shows of a legal journal of so many entries
abbrev pub waved_text : ℕ → List ℕ
waved_text entries = line (codes "wave " ++ decimal entries)

-- what `explain` shows of a trace of so many items
abbrev pub items_text : ℕ → List ℕ
items_text items = line (codes "accepted items " ++ decimal items)
