use Rattle.std.proofs.Common.{List, sym, subst}
use Rattle.journals.specs.declared.entry.Entry.{Entry}
use Rattle.net_core.specs.Prefixes.{IsAdopted}
use Rattle.journal_replay.proofs.adoption.adopt.Goals as goal

pub returns : goal.returns
returns c =
    subst (λ (a : List Entry). IsAdopted c.args.net.now c.args.trace.now c.args.j c.args.limit a)
    (sym c.into_journal.ensures.journal) c.in_ok-config.ensures.adopted
