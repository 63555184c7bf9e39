-- What the definitions say of small texts.
use Rattle.std.proofs.Common.{refl}
use Rattle.std.specs.Fmt.{digits}
use Rattle.fault_text.specs.Worked.{Blocks, TokensBefore}

pub blocks : Blocks
unfolding digits
blocks = record {
  lamp_line = refl;
  lamp_column = refl;
  wrong_name = refl;
  first_of_two = refl;
  second_of_two = refl;
  empty_last_line = refl;
  wrong_reaction = refl;
  absent_file = refl;
  odd_bytes = refl;
  part_ends = refl;
  part_begins = refl;
  second_part = refl;
  after_whole_part = refl;
  empty_text = refl;
  on_line_feed = refl;
  long_line_fault = refl;
  blanks = refl;
  no_blanks = refl;
  empty_line = refl;
  no_line = refl;
  no_text = refl;
}

pub tokens_before : TokensBefore
tokens_before = record {
  empty_text = refl;
  at_first = refl;
  at_token = refl;
  within_token = refl;
  at_end = refl;
  keyword = refl;
  sign = refl;
  number = refl;
  after_comment = refl;
  all_comment = refl;
  faulty = refl;
  cut = refl;
}
