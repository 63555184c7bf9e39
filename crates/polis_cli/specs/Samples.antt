-- Texts of a run of the lamp on one press, as bytes.
use Rattle.std.specs.Prelude.{ℕ, List, ◌++◌, codes}
use Rattle.polis_base.specs.Lines.{line}

abbrev pub press_text : List ℕ
press_text = line (codes "press")

abbrev pub lamp_journal : List ℕ
lamp_journal =
    line (codes "polis journal 2") ++ line (codes "@1 dep env lamp_ctl press")
    ++ line (codes "@2 fire lamp_ctl : press ; s=off -> s=on ; light")
    ++ line (codes "end 2 complete")

abbrev pub lamp_summary : List ℕ
lamp_summary = line (codes "entries 2 complete") ++ line (codes "lost 0")
    ++ line (codes "gathered 0 adopted 0")

-- the line of the lamp's machine in the summary
abbrev pub lamp_line : List ℕ
lamp_line = line (codes "machine lamp_ctl vertices 7 code 6 tries 1 steps 6")

-- the line of the lamp's machine where it is compiled
abbrev pub lamp_lengths : List ℕ
lamp_lengths = line (codes "machine lamp_ctl vertices 7 code 6")
