use Rattle.net_rules.proofs.HasMachines.{has_machines}
use Rattle.input_files.specs.Accepted.{Accepted}
use Rattle.input_files.proofs.accept.network_in.Goals as goal

pub returns-in-Ok-Some-clause-whole : goal.returns-in-Ok-Some-clause-whole
returns-in-Ok-Some-clause-whole c =
    let accepted : Accepted c.args.text.now c.in-Ok-Some.net =
    rw c.in-Ok-Some.field-0-is at c.in-Ok-Some.ensures.ok in
    has_machines c.args.text.now c.in-Ok-Some.net accepted.0
