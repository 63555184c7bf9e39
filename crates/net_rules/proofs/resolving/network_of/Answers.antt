use Rattle.std.proofs.Common.{◌≡◌, ◌∙◌, List, ap, sym, subst, slice_get, refl}
use Rattle.std.specs.List.{AllZip}
use Rattle.transition_table.specs.declared.machine.Machine.{Machine}
use Rattle.net_reader.specs.declared.raw.RawDomain.{RawDomain}
use Rattle.net_reader.specs.declared.raw.RawMachine.{RawMachine}
use Rattle.net_reader.specs.declared.raw.RawNet.{RawNet}
use Rattle.net_rules.specs.Networks.{IsDomainOf, IsMachineOf}
use Rattle.net_rules.specs.inner.Sound.{Each, IsSound, IsSoundMachine, has_count}
use Rattle.net_rules.proofs.Counts.{each_all, count_in}
use Rattle.net_rules.proofs.KeptNetwork.{kept}
use Rattle.net_rules.proofs.resolving.network_of.Goals as goal

pub domains_of-requires-clause-some : goal.domains_of-requires-clause-some
domains_of-requires-clause-some c =
    λ i d at. (count_in d
    (each_all has_count c.args.raw.now.domains c.requires.sound.counts i d
    (ap (λ l. slice_get l i) (sym c.as_slice.ensures) ∙ at))).0

pub domains_of-requires-clause-few : goal.domains_of-requires-clause-few
domains_of-requires-clause-few c =
    λ i d at. (count_in d
    (each_all has_count c.args.raw.now.domains c.requires.sound.counts i d
    (ap (λ l. slice_get l i) (sym c.as_slice.ensures) ∙ at))).1

pub machines_of-requires-clause-sound : goal.machines_of-requires-clause-sound
machines_of-requires-clause-sound c =
    subst IsSound (sym c.in_ok-scope.ensures) c.requires.sound

pub machines_of-requires-clause-machines : goal.machines_of-requires-clause-machines
machines_of-requires-clause-machines c =
    subst (λ l. Each (IsSoundMachine c.in_ok-scope.scope.raw.now) l) (sym c.as_slice-2.ensures)
    (subst (λ (raw : RawNet). Each (IsSoundMachine raw) c.args.raw.now.machines)
    (sym c.in_ok-scope.ensures) c.requires.sound.machines)

-- the machines that were made are those of the declarations
are_machines : (raw scope : RawNet) → scope ≡ raw → (slice : List RawMachine)
    → slice ≡ raw.machines → (made : List Machine) → AllZip (IsMachineOf scope) slice made
    → AllZip (IsMachineOf raw) raw.machines made
are_machines raw scope same slice all made zip =
    subst (λ l. AllZip (IsMachineOf raw) l made) all
    (subst (λ (net : RawNet). AllZip (IsMachineOf net) slice made) same zip)

pub invariant_of-result : goal.invariant_of-result
invariant_of-result c =
    let k = kept c.args.raw.now c.requires.sound c.in_ok-domains.domains
    (subst (λ l. AllZip (λ (d : RawDomain). IsDomainOf d.shape) l c.in_ok-domains.domains)
    c.as_slice.ensures c.in_ok-domains.ensures) c.args.events c.requires.events
    c.in_ok-machines.machines
    (are_machines c.args.raw.now c.in_ok-scope.scope.raw.now c.in_ok-scope.ensures
    c.as_slice-2.result.now c.as_slice-2.ensures c.in_ok-machines.machines
    c.in_ok-machines.ensures) in
    record {
      few_domains = k.few_domains;
      few_events = k.few_events;
      few_machines = k.few_machines;
      event_names = k.event_names;
      machine_names = k.machine_names;
      event_domains = k.event_domains;
      receivers = k.receivers;
      senders = k.senders;
      numbered = k.numbered;
      once = k.once;
      sized_vars = k.sized_vars;
      sized_outputs = k.sized_outputs;
    }

pub returns : goal.returns
returns c = record {
  name = refl;
  domains = subst (λ l. AllZip (λ (d : RawDomain). IsDomainOf d.shape) l c.in_ok-domains.domains)
      c.as_slice.ensures c.in_ok-domains.ensures;
  events = c.requires.events;
  machines = are_machines c.args.raw.now c.in_ok-scope.scope.raw.now c.in_ok-scope.ensures
      c.as_slice-2.result.now c.as_slice-2.ensures c.in_ok-machines.machines
      c.in_ok-machines.ensures;
}
