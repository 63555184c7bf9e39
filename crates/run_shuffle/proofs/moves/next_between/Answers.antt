use Rattle.std.proofs.Common.{Some, ap, sym, ◌∙◌}
use Rattle.run_shuffle.proofs.NextMoves.{machine_has, machine_has_none}
use Rattle.run_shuffle.proofs.moves.next_between.Goals as goal

pub returns-in-Some : goal.returns-in-Some
returns-in-Some c =
    let now = c.args.config.now in
    ap Some c.deliver.ensures
    ∙ machine_has c.sending_laws.ensures now.net now.trace now.journal c.args.from c.args.to
    c.in-Some.owed c.owed_between.ensures.legal (sym c.owed_between.ensures.first ∙ c.in-Some.is)

pub returns-in-None : goal.returns-in-None
returns-in-None c =
    let now = c.args.config.now in
    machine_has_none c.sending_laws.ensures now.net now.trace now.journal c.args.from c.args.to
    c.owed_between.ensures.legal (sym c.owed_between.ensures.first ∙ c.in-None.is)
