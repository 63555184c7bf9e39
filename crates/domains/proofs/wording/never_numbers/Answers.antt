use Rattle.std.proofs.Common.{arith}
use Rattle.domains.proofs.WordsOf.{apart}
use Rattle.domains.proofs.wording.never_numbers.Goals as goal

pub get-requires : goal.get-requires
get-requires c = let some = c.len-count.ensures.names.some in omega arith

pub returns : goal.returns
returns c same = apart c.args.names.now c.args.span.now c.get.result.now (omega arith)
    c.get.ensures c.bytes-name.ensures.name same
