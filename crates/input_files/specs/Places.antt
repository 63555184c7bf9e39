-- Where the rows of a network text stand.
use Rattle.std.specs.Prelude.{◌≡◌, ℕ, [], slice_get}
use Rattle.std.specs.Option.{option_map_or}
use Rattle.polis_base.specs.Lists.{head_of}
use Rattle.net_reader.specs.declared.raw.RawCond.{RawCond}
use Rattle.net_reader.specs.declared.raw.RawCond.TheVariants.{Present, Absent as IsAbsent, Is, OneOf}
use Rattle.net_reader.specs.declared.raw.RawNet.{RawNet}
use Rattle.polis_words.specs.declared.cause.Conflict.{Conflict}

-- the place of the name in a condition
abbrev pub condition_place : RawCond → ℕ
condition_place (Present name) = name.at
condition_place (IsAbsent name) = name.at
condition_place (Is name value) = name.at
condition_place (OneOf name values) = name.at

-- the place of the name in the first condition of a row of a machine, by their numbers
abbrev pub row_place : RawNet → ℕ → ℕ → ℕ
row_place raw machine row =
    let rows = option_map_or (λ machine. machine.rows) (slice_get raw.machines machine) [] in
    let conditions = option_map_or (λ row. row.conds) (slice_get rows row) [] in
    option_map_or condition_place (head_of conditions) 0

-- the rows that conflict stand there
abbrev pub StandThere : RawNet → Conflict → Type 0
StandThere raw rows =
    (rows.place_a ≡ row_place raw rows.machine rows.row_a)
    × (rows.place_b ≡ row_place raw rows.machine rows.row_b)
