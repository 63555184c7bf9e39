use Rattle.std.proofs.Common.{get_or, nat_le, refl, arith}
use Rattle.polis_base.specs.declared.class.TheConstants.{CLASSES}
use Rattle.polis_base.specs.Names.{continues_name}
use Rattle.polis_base.proofs.Classes.{tests_agree}
use Rattle.polis_base.proofs.class.continues.Goals as goal

pub returns : goal.returns
returns c =
    tests_agree (λ k. nat_le 52 (get_or CLASSES k 0)) continues_name c.args.byte (omega arith) refl
