use Rattle.std.proofs.Common.{[], get_or, ap, sym, subst}
use Rattle.journals.specs.Journals.{FitsNetwork}
use Rattle.journals.specs.Logs.{entries}
use Rattle.journals.specs.Moved.{machine_of}
use Rattle.worker_core.proofs.AreParts.{suits}
use Rattle.worker_core.proofs.parts.Parts.react.Goals as goal

pub deliveries-requires : goal.deliveries-requires
deliveries-requires g c =
    subst (FitsNetwork c.args.net.now) (sym c.in_ok-entry.ensures)
    (c.laws.ensures.reaction_fits c.args.net.now c.args.m
    (entries (get_or c.args.self.now.logs c.args.m []))
    (c.requires.parts.core.facts.alone c.args.m).fitting c.requires.machine)

pub append-requires-clause-suits : goal.append-requires-clause-suits
append-requires-clause-suits g c =
    suits c.args.net.now c.args.m c.in_ok-entry.entry
    (subst (FitsNetwork c.args.net.now) (sym c.in_ok-entry.ensures)
    (c.laws.ensures.reaction_fits c.args.net.now c.args.m
    (entries (get_or c.args.self.now.logs c.args.m []))
    (c.requires.parts.core.facts.alone c.args.m).fitting c.requires.machine))
    (ap machine_of c.in_ok-entry.ensures) c.requires.machine
