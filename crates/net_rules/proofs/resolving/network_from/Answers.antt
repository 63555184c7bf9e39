use Rattle.std.proofs.Common.{◌≡◌, ◌∙◌, [], ap, sym, subst, slice_get, refl}
use Rattle.std.specs.List.{AllZip}
use Rattle.net_reader.specs.declared.raw.RawDomain.{RawDomain}
use Rattle.net_reader.specs.declared.raw.RawNet.{RawNet}
use Rattle.net_rules.specs.Networks.{IsDomainOf, IsMachineOf}
use Rattle.net_rules.specs.inner.Sound.{Each, IsSound, IsSoundMachine, has_count, with_machines}
use Rattle.net_rules.proofs.Counts.{each_all, count_in}
use Rattle.net_rules.proofs.KeptNetwork.{kept}
use Rattle.net_rules.proofs.OtherMachines.{machine_alone, machines_beside, sound_alone}
use Rattle.net_rules.proofs.resolving.network_from.Goals as goal

pub domains_of-requires-clause-some : goal.domains_of-requires-clause-some
domains_of-requires-clause-some c =
    λ i d at. (count_in d
    (each_all has_count c.args.raw.domains c.requires.sound.counts i d
    (ap (λ l. slice_get l i) (sym c.as_slice.ensures) ∙ at))).0

pub domains_of-requires-clause-few : goal.domains_of-requires-clause-few
domains_of-requires-clause-few c =
    λ i d at. (count_in d
    (each_all has_count c.args.raw.domains c.requires.sound.counts i d
    (ap (λ l. slice_get l i) (sym c.as_slice.ensures) ∙ at))).1

pub machines_from-requires-clause-sound : goal.machines_from-requires-clause-sound
machines_from-requires-clause-sound c =
    let bare : c.args.raw ≡ with_machines c.args.raw [] =
    λ i. record c.args.raw { machines = c.requires.bare i } in
    subst IsSound (sym (c.in_ok-scope.ensures ∙ bare))
    (sound_alone (with_machines c.args.raw c.args.machines) c.requires.sound)

pub machines_from-requires-clause-machines : goal.machines_from-requires-clause-machines
machines_from-requires-clause-machines c =
    subst (λ (raw : RawNet). Each (IsSoundMachine raw) c.args.machines)
    (sym c.in_ok-scope.ensures)
    (λ i m at. machine_alone c.args.raw c.args.machines m (c.requires.sound.machines i m at))

pub invariant_of-result : goal.invariant_of-result
invariant_of-result c =
    let k = kept (with_machines c.args.raw c.args.machines) c.requires.sound
    c.in_ok-domains.domains
    (subst (λ l. AllZip (λ (d : RawDomain). IsDomainOf d.shape) l c.in_ok-domains.domains)
    c.as_slice.ensures c.in_ok-domains.ensures) c.args.events c.requires.events
    c.in_ok-machines.machines
    (machines_beside c.args.raw c.args.machines c.args.machines c.in_ok-machines.machines
    (subst (λ (raw : RawNet). AllZip (IsMachineOf raw) c.args.machines c.in_ok-machines.machines)
    c.in_ok-scope.ensures c.in_ok-machines.ensures)) in
    record {
      few_domains = k.few_domains;
      few_events = k.few_events;
      few_machines = k.few_machines;
      event_names = k.event_names;
      machine_names = k.machine_names;
      event_domains = k.event_domains;
      receivers = k.receivers;
      senders = k.senders;
      numbered = k.numbered;
      once = k.once;
      sized_vars = k.sized_vars;
      sized_outputs = k.sized_outputs;
    }

pub returns : goal.returns
returns c = record {
  name = refl;
  domains = subst (λ l. AllZip (λ (d : RawDomain). IsDomainOf d.shape) l c.in_ok-domains.domains)
      c.as_slice.ensures c.in_ok-domains.ensures;
  events = c.requires.events;
  machines = machines_beside c.args.raw c.args.machines c.args.machines c.in_ok-machines.machines
      (subst (λ (raw : RawNet). AllZip (IsMachineOf raw) c.args.machines
      c.in_ok-machines.machines) c.in_ok-scope.ensures c.in_ok-machines.ensures);
}
