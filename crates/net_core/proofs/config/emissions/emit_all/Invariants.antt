use Rattle.std.proofs.Common.{◌≡◌, ◌+◌, ◌≤◌, ◌++◌, List, drop, length, flat_map}
use Rattle.std.specs.Vec.{vec_len, vec_capacity}
use Rattle.transition_table.specs.declared.decl.Party.TheVariants.{Machine as Sender}
use Rattle.journals.specs.declared.entry.Owed.{Owed}
use Rattle.journals.specs.Journals.{outputs_of, emitted}
use Rattle.journals.specs.Schedules.{deliveries_of}
use Rattle.net_core.specs.Emissions.{no_place, IsMore}
use Rattle.net_core.proofs.config.emissions.emit_all.Given as goal

-- what the outputs before this one give is added, and there is room for the others
abbrev pub invariant-loop-k : goal.invariant-loop-k
invariant-loop-k l = record {
  more : (xs : List Owed)
      × IsMore l.fn.records.items l.fn.last.items l.records.items l.last.items xs
      × (xs ++ flat_map (deliveries_of l.net (Sender l.m))
      (emitted (drop l.k (outputs_of l.net l.m)) (drop l.k l.outs))
      ≡ flat_map (deliveries_of l.net (Sender l.m)) (emitted (outputs_of l.net l.m) l.outs));
  few : vec_len l.records + length l.outs ≤ no_place + l.k;
  room : vec_len l.records + length l.outs ≤ vec_capacity l.records + l.k;
}
