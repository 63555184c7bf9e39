use Rattle.std.proofs.Common.{◌≡◌, Some, ◌∙◌, ap}
use Rattle.polis_base.specs.declared.token.LexError.TheVariants.{NoMemory}
use Rattle.net_reader.proofs.Outcomes.{fault_left, settled_lex, settled_syntax}
use Rattle.net_reader.proofs.network.cause.Goals as goal

pub returns-in-Some-clause-settled : goal.returns-in-Some-clause-settled
returns-in-Some-clause-settled c =
    settled_lex c.args.text.now c.in-Some.fault (c.in-Some.ensures.fault
    ∙ fault_left c.args.text.now c.args.reader.now c.place.result c.requires c.place.ensures)

pub returns-in-Some-clause-no_memory : goal.returns-in-Some-clause-no_memory
returns-in-Some-clause-no_memory c = λ e.
    let same : c.in-Some.fault ≡ NoMemory = cc in
    c.fault_after.ensures.no_memory (c.in-Some.is ∙ ap Some same)

pub returns-in-None-clause-settled : goal.returns-in-None-clause-settled
returns-in-None-clause-settled c =
    rw c.place-in-None.ensures (settled_syntax c.args.text.now c.args.reader.now c.requires
    (c.in-None.ensures.fault
    ∙ fault_left c.args.text.now c.args.reader.now c.place.result c.requires c.place.ensures))
