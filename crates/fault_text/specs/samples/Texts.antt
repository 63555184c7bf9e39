-- Small texts with faults.
use Rattle.std.specs.Prelude.{ℕ, List, [], ◌++◌, replicate, codes}
use Rattle.polis_base.specs.Lines.{line}

abbrev lamp_before_row : List ℕ
lamp_before_row =
    line (codes "network lamp version 1")
    ++ line (codes "domain bit = { off, on }")
    ++ line (codes "event press from env")
    ++ line (codes "event light to env")
    ++ line (codes "machine lamp_ctl priority 1 {")
    ++ line (codes "  input press")
    ++ line (codes "  output light")
    ++ line (codes "  state s : bit = off")

-- a lamp whose row has `pres` in place of `press`
abbrev pub wrong_lamp : List ℕ
wrong_lamp =
    lamp_before_row ++ line (codes "  when pres, s = off do s := on, emit light")
    ++ line (codes "}")

-- a lamp without the last `}`, whose line end stays
abbrev pub cut_lamp : List ℕ
cut_lamp =
    lamp_before_row ++ line (codes "  when press, s = off do s := on, emit light") ++ line []

-- a machine whose first and third row are enabled together, with other results
abbrev pub clash : List ℕ
clash =
    line (codes "network clash version 1")
    ++ line (codes "event a from env")
    ++ line (codes "event b from env")
    ++ line (codes "event c to env")
    ++ line (codes "machine m priority 0 {")
    ++ line (codes "  input a, b")
    ++ line (codes "  output c")
    ++ line (codes "  when a do emit c")
    ++ line (codes "  when b, absent a do nothing")
    ++ line (codes "  when a, b do nothing")
    ++ line (codes "}")

-- the lamp's journal without what it emits
abbrev pub silent_journal : List ℕ
silent_journal =
    line (codes "polis journal 2")
    ++ line (codes "@1 dep env lamp_ctl press")
    ++ line (codes "@2 fire lamp_ctl : press ; s=off -> s=on ; -")
    ++ line (codes "end 2 complete")

-- 80 bytes, and three more
abbrev pub long_line : List ℕ
long_line = replicate 80 97 ++ codes "bcd"
