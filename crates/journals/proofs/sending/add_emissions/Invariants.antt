use Rattle.std.proofs.Common.{◌≡◌, ◌++◌, drop, flat_map}
use Rattle.transition_table.specs.declared.decl.Party.TheVariants.{Machine as Sender}
use Rattle.journals.specs.Journals.{outputs_of, emitted}
use Rattle.journals.specs.Schedules.{deliveries_of}
use Rattle.journals.proofs.sending.add_emissions.Given as goal

-- those of the outputs from this one on are left
abbrev pub invariant-loop-k : goal.invariant-loop-k
invariant-loop-k l =
    l.owed
    ++ flat_map (deliveries_of l.net (Sender l.m))
    (emitted (drop l.k (outputs_of l.net l.m)) (drop l.k l.outs))
    ≡ l.fn.owed
    ++ flat_map (deliveries_of l.net (Sender l.m)) (emitted (outputs_of l.net l.m) l.outs)
