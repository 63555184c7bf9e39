use Rattle.std.proofs.Common.{get_or, refl, arith}
use Rattle.polis_base.specs.declared.class.TheConstants.{CLASSES}
use Rattle.polis_base.specs.inner.Classes.{class_of}
use Rattle.polis_base.proofs.Classes.{numbers_agree}
use Rattle.polis_base.proofs.class.class_of.Goals as goal

pub returns : goal.returns
returns c = numbers_agree (λ k. get_or CLASSES k 0) class_of c.args.byte (omega arith) refl
