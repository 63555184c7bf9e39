use Rattle.std.proofs.Common.{refl}
use Rattle.commands.proofs.IsExplained.{unlawful_is}
use Rattle.commands.proofs.judging.judge_loaded.Goals as goal

pub returns-in-Ok-Legal-clause-judged : goal.returns-in-Ok-Legal-clause-judged
returns-in-Ok-Legal-clause-judged c = record {
  inputs = refl;
  read = refl;
  found = rw c.in-Ok-Legal.field-0-is at c.in-Ok-Legal.ensures;
}

pub returns-in-Ok-Illegal-clause-failed : goal.returns-in-Ok-Illegal-clause-failed
returns-in-Ok-Illegal-clause-failed c =
    unlawful_is c.args.name.now c.args.loaded c.args.detail c.in-Ok-Illegal.entry
    c.in-Ok-Illegal.why c.illegal.result
    (rw c.in-Ok-Illegal.field-0-is at c.in-Ok-Illegal.ensures)
    (rw c.as_slice.ensures at c.illegal.ensures)
