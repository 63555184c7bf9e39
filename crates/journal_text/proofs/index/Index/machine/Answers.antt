use Rattle.std.proofs.Common.{◌∙◌, length, sym, ap, arith}
use Rattle.net_names.specs.Tables.{number_at}
use Rattle.transition_table.specs.declared.machine.Machine.{Machine}
use Rattle.journal_text.proofs.NameNumbers.{first_below, no_such_machine}
use Rattle.journal_text.proofs.index.Index.machine.Goals as goal

pub returns-in_err-name-clause-machine : goal.returns-in_err-name-clause-machine
returns-in_err-name-clause-machine c =
    c.from_residual.ensures
    ∙ sym (no_such_machine c.args.self.now.net.now c.args.word.now c.args.self.now.names
    c.in_err-name.ensures.none)

pub returns-in-Some-clause-below : goal.returns-in-Some-clause-below
returns-in-Some-clause-below c =
    first_below (λ (machine : Machine). machine.name) c.args.self.now.net.now.machines
    (length c.args.self.now.net.now.machines) c.args.word.now c.in-Some.m
    (sym (c.args.self.now.machine_numbers c.args.word.now)
    ∙ ap (number_at _) (sym c.in_ok-name.ensures.some)
    ∙ sym c.number.ensures ∙ c.in-Some.is)

pub overflow_cast-result : goal.overflow_cast-result
overflow_cast-result c =
    let below = first_below (λ (machine : Machine). machine.name) c.args.self.now.net.now.machines
    (length c.args.self.now.net.now.machines) c.args.word.now c.in-Some.m
    (sym (c.args.self.now.machine_numbers c.args.word.now)
    ∙ ap (number_at _) (sym c.in_ok-name.ensures.some)
    ∙ sym c.number.ensures ∙ c.in-Some.is) in
    omega (arith, below, c.args.self.now.net.now.few_machines)
