use Rattle.std.proofs.Common.{get_or, nat_le, refl, arith}
use Rattle.polis_base.specs.declared.class.TheConstants.{CLASSES}
use Rattle.polis_base.specs.inner.Classes.{is_alone}
use Rattle.polis_base.proofs.Classes.{tests_agree}
use Rattle.polis_base.proofs.class.is_alone.Goals as goal

pub returns : goal.returns
returns c =
    tests_agree (λ k. nat_le (get_or CLASSES k 0) 49) is_alone c.args.byte (omega arith) refl
