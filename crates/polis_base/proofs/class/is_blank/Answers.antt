use Rattle.std.proofs.Common.{get_or, nat_le, refl, arith}
use Rattle.polis_base.specs.declared.class.TheConstants.{CLASSES}
use Rattle.polis_base.specs.Tokens.{is_blank}
use Rattle.polis_base.proofs.Classes.{tests_agree}
use Rattle.polis_base.proofs.class.is_blank.Goals as goal

pub returns : goal.returns
returns c = tests_agree (λ k. nat_le (get_or CLASSES k 0) 48) is_blank c.args.byte (omega arith) refl
