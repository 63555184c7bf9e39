use Rattle.std.proofs.Common.{ℕ, Bool, nat_lt, ◌&&◌, length, subst}
use Rattle.std.specs.Prelude.{Option, IsSomeAnd}
use Rattle.std.specs.List.{list_all}
use Rattle.std.proofs.lemmas.Bool.{and_parts, lt-ltb}
use Rattle.polis_base.proofs.ListTests.{all_get}
use Rattle.transition_table.specs.NetworkFacts.{has_outputs, has_vars, is_numbered}
use Rattle.transition_table.specs.Transitions.{IsOutcome, IsSnapshot}
use Rattle.transition_table.specs.declared.machine.Machine.{Machine}
use Rattle.journals.specs.declared.entry.Entry.TheVariants.{Rea}
use Rattle.journals.proofs.CursorsAfter.{machine_within}
use Rattle.journal_chart.proofs.chart.push_reaction_of.Goals as goal

pub axis_of-axis-requires-clause-party : goal.axis_of-axis-requires-clause-party
axis_of-axis-requires-clause-party c =
    lt-ltb c.args.m (length c.args.net.now.machines)
    (machine_within c.args.net.now (Rea c.args.m c.args.snapshot.now c.args.outcome.now)
    c.requires.fits)

pub get-requires : goal.get-requires
get-requires c =
    machine_within c.args.net.now (Rea c.args.m c.args.snapshot.now c.args.outcome.now)
    c.requires.fits

pub invariant_of-r : goal.invariant_of-r
invariant_of-r c =
    let net = c.args.net.now in
    let machine = c.get.result.now in
    let s = c.args.snapshot.now in
    let o = c.args.outcome.now in
    let small : ℕ → Bool = λ e. nat_lt e (length net.events) in
    let here = all_get (is_numbered net.domains net.events) net.machines c.args.m machine
    net.numbered c.get.ensures in
    let of : IsSnapshot machine s × IsOutcome machine o =
    subst (λ (found : Option Machine). IsSomeAnd found (λ machine. IsSnapshot machine s × IsOutcome machine o))
    c.get.ensures c.requires.fits in
    record {
      sized_vars =
          all_get (has_vars net.domains net.events) net.machines c.args.m machine net.sized_vars
          c.get.ensures;
      sized_outputs =
          all_get (has_outputs net.domains net.events) net.machines c.args.m machine
          net.sized_outputs c.get.ensures;
      numbered =
          (and_parts (list_all small machine.inputs) (list_all small machine.outputs)
          (and_parts (list_all small machine.inputs && list_all small machine.outputs) _ here).0).0;
      deterministic = c.requires.deterministic c.args.m machine c.get.ensures;
      reads = of.0;
      gives = of.1;
    }
