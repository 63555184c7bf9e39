-- What the definitions say of small texts.
use Rattle.std.specs.Prelude.{◌≡◌, true, false, [], ◌∷◌, ◌++◌, replicate, Some, None, codes}
use Rattle.polis_base.specs.Lines.{line}
use Rattle.fault_text.specs.Positions.{line_of, column_of}
use Rattle.fault_text.specs.Blocks.{block_text, line_block_text, file_line_text}
use Rattle.fault_text.specs.TokensBefore.{token_before}
use Rattle.fault_text.specs.samples.Texts.{wrong_lamp, cut_lamp, clash, silent_journal, long_line}

pub record Blocks : Type 0 where
  pub lamp_line : line_of wrong_lamp 176 ≡ 9
  pub lamp_column : column_of wrong_lamp 176 ≡ 8
  pub wrong_name : block_text (codes "net") wrong_lamp 176
      (codes "the machine has no such input or state variable")
      ≡ line (codes "net:9:8: the machine has no such input or state variable")
      ++ line (codes "  when pres, s = off do s := on, emit light")
      ++ line (codes "       ^")
  pub first_of_two : block_text (codes "net") clash 127
      (codes "row 0 of machine m is enabled on a b ; -")
      ≡ line (codes "net:8:8: row 0 of machine m is enabled on a b ; -")
      ++ line (codes "  when a do emit c")
      ++ line (codes "       ^")
  pub second_of_two : block_text (codes "net") clash 176
      (codes "row 2 is too, with another result")
      ≡ line (codes "net:10:8: row 2 is too, with another result")
      ++ line (codes "  when a, b do nothing")
      ++ line (codes "       ^")
  -- the text ends on an empty line
  pub empty_last_line : block_text (codes "net") cut_lamp 215
      (codes "the text ends too early, after light")
      ≡ line (codes "net:11:1: the text ends too early, after light")
      ++ line [] ++ line (codes "^")
  pub wrong_reaction : line_block_text false (codes "jnl") silent_journal 3
      (codes "this isn't what the machine's table gives")
      ≡ line (codes "jnl:3: this isn't what the machine's table gives")
      ++ line (codes "@2 fire lamp_ctl : press ; s=off -> s=on ; -")
  pub absent_file : file_line_text (codes "net") (codes "no file has this name")
      ≡ line (codes "net: no file has this name")
  -- a tab, bytes above 126, a CR, and another byte below 32
  pub odd_bytes : block_text (codes "f")
      (97 ∷ 10 ∷ 9 ∷ 98 ∷ 127 ∷ 200 ∷ 13 ∷ 126 ∷ 31 ∷ 10 ∷ []) 6 (codes "x")
      ≡ line (codes "f:2:5: x") ++ line (codes " b?? ~?") ++ line (codes "    ^")
  -- column 80 is the last of a part, and column 81 begins a new one
  pub part_ends : block_text (codes "f") long_line 79 (codes "x")
      ≡ line (codes "f:1:80: x") ++ line (replicate 80 97) ++ line (replicate 79 32 ++ codes "^")
  pub part_begins : block_text (codes "f") long_line 80 (codes "x")
      ≡ line (codes "f:1:81: x") ++ line (codes "bcd") ++ line (codes "^")
  pub second_part : block_text (codes "f") long_line 82 (codes "x")
      ≡ line (codes "f:1:83: x") ++ line (codes "bcd") ++ line (codes "  ^")
  -- the line feed after 80 bytes has an empty part
  pub after_whole_part : block_text (codes "f") (line (replicate 80 97)) 80 (codes "x")
      ≡ line (codes "f:1:81: x") ++ line [] ++ line (codes "^")
  pub empty_text : block_text (codes "f") [] 0 (codes "x")
      ≡ line (codes "f:1:1: x") ++ line [] ++ line (codes "^")
  -- a line feed stands on the line that it ends
  pub on_line_feed : block_text (codes "f") (line (codes "ab") ++ codes "c") 2 (codes "x")
      ≡ line (codes "f:1:3: x") ++ line (codes "ab") ++ line (codes "  ^")
  pub long_line_fault : line_block_text true (codes "f") long_line 1 (codes "x")
      ≡ line (codes "f:1: x") ++ line (replicate 80 97)
  -- a trace has blanks, and a journal has none
  pub blanks : line_block_text true (codes "f") (97 ∷ 9 ∷ 98 ∷ 13 ∷ 10 ∷ []) 1 (codes "x")
      ≡ line (codes "f:1: x") ++ line (codes "a b ")
  pub no_blanks : line_block_text false (codes "f") (97 ∷ 9 ∷ 98 ∷ 13 ∷ 10 ∷ []) 1 (codes "x")
      ≡ line (codes "f:1: x") ++ line (codes "a?b?")
  -- an empty line within the text is shown, and none where the text ends
  pub empty_line : line_block_text true (codes "f") (line (codes "a") ++ line []) 2 (codes "x")
      ≡ line (codes "f:2: x") ++ line []
  pub no_line : line_block_text true (codes "f") (line (codes "a") ++ line []) 3 (codes "x")
      ≡ line (codes "f:3: x")
  pub no_text : line_block_text true (codes "f") [] 1 (codes "x") ≡ line (codes "f:1: x")

pub record TokensBefore : Type 0 where
  pub empty_text : token_before [] 0 ≡ None
  pub at_first : token_before (codes " ab") 1 ≡ None
  -- where a token begins, in its midst, and where the text ends
  pub at_token : token_before (codes "ab cd") 3 ≡ Some (codes "ab")
  pub within_token : token_before (codes "ab cd") 4 ≡ Some (codes "cd")
  pub at_end : token_before (codes "ab cd") 5 ≡ Some (codes "cd")
  -- a keyword, a sign and a number are tokens too, and they need no blanks between them
  pub keyword : token_before (codes "when s:=12") 5 ≡ Some (codes "when")
  pub sign : token_before (codes "when s:=12") 8 ≡ Some (codes ":=")
  pub number : token_before (codes "when s:=12") 10 ≡ Some (codes "12")
  -- a word of a comment is none
  pub after_comment : token_before (line (codes "ab # cd") ++ codes "ef") 8 ≡ Some (codes "ab")
  pub all_comment : token_before (codes "# ab") 4 ≡ None
  -- a text that doesn't read has no tokens
  pub faulty : token_before (codes "ab %") 3 ≡ None
  pub cut : token_before cut_lamp 215 ≡ Some (codes "light")
