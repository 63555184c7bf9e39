-- The lines that show a fault.
use Rattle.std.specs.Prelude.{ℕ, ◌*◌, ◌/◌, ◌%◌, Bool, true, cond, ◌&&◌, ◌||◌, ◌==◌, nat_le, List, [], ◌++◌, map, take, drop, replicate, Option, Some, None, unwrap_or, codes, decimal}
use Rattle.polis_base.specs.Lines.{line}
use Rattle.fault_text.specs.Positions.{line_of, column_of, passed, lines, begun_lines, numbered}

-- a byte other than 32 to 126 is shown as `?`, but a tab or a CR as a space where they are blanks
abbrev pub shown : Bool → ℕ → ℕ
shown blanks b =
    cond (blanks && (b == 9 || b == 13)) 32 (cond (nat_le 32 b && nat_le b 126) b 63)

-- the first part of a line, of at most 80 bytes
abbrev pub shown_start : Bool → List ℕ → List ℕ
shown_start blanks content = line (map (shown blanks) (take 80 content))

-- the part of a line after so many bytes, where the line is cut after each 80
abbrev pub shown_part : ℕ → List ℕ → List ℕ
shown_part before content = shown_start true (drop (before / 80 * 80) content)

-- a mark below the byte before which so many stand
abbrev pub mark : ℕ → List ℕ
mark before = line (replicate before 32 ++ codes "^")

-- the file, the line and the column of a place with what is wrong
abbrev pub head_text : List ℕ → ℕ → ℕ → List ℕ → List ℕ
head_text file number column sentence =
    line (file ++ codes ":" ++ decimal number ++ codes ":" ++ decimal column ++ codes ": "
    ++ sentence)

-- the line of the place with what is wrong; the part of the line in which the column is; and a mark
-- below it
abbrev pub block_text : List ℕ → List ℕ → ℕ → List ℕ → List ℕ
block_text file text place sentence =
    head_text file (line_of text place) (column_of text place) sentence
    ++ shown_part (passed text place) (unwrap_or (numbered (line_of text place) (lines text)) [])
    ++ mark (passed text place % 80)

abbrev pub shown_line : Bool → Option (List ℕ) → List ℕ
shown_line blanks None = []
shown_line blanks (Some content) = shown_start blanks content

-- the file and the number of a line with what is wrong, and the first part of the line, where it
-- begins in the text
abbrev pub line_block_text : Bool → List ℕ → List ℕ → ℕ → List ℕ → List ℕ
line_block_text blanks file text number sentence =
    line (file ++ codes ":" ++ decimal number ++ codes ": " ++ sentence)
    ++ shown_line blanks (numbered number (begun_lines text))

-- what is said of a file without a place in it
abbrev pub file_line_text : List ℕ → List ℕ → List ℕ
file_line_text file sentence = line (file ++ codes ": " ++ sentence)
