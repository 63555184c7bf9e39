use Rattle.char_function.proofs.SizeAlong.{char_decides, has_size, one_size}
use Rattle.char_function.proofs.law.laws.Goals as goal

pub returns : goal.returns
returns c =
    let test = c.laws_of_computing.ensures.char_by_test in
    record {
      char_decides = char_decides test;
      has_size = has_size test;
      one_size = one_size;
    }
