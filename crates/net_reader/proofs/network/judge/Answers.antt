use Rattle.std.proofs.Common.{Err, ap, sym, subst, ◌∙◌, inr}
use Rattle.net_reader.specs.Reading.{Gives, whole_at}
use Rattle.net_reader.proofs.Outcomes.{settled_ok}
use Rattle.net_reader.proofs.network.judge.Goals as goal

pub cause-requires : goal.cause-requires
cause-requires c =
    ap whole_at (sym c.requires)
    ∙ subst (λ s. Gives (Err s) c.whole.new.reader (whole_at c.args.reader.now))
    c.in-Err-Fault.field-0-is c.in-Err-Fault.ensures

pub returns-in-Ok-clause-settled : goal.returns-in-Ok-clause-settled
returns-in-Ok-clause-settled c =
    inr (settled_ok c.args.text.now c.in-Ok.net c.whole.new.reader
    (ap whole_at (sym c.requires) ∙ c.in-Ok.ensures))
