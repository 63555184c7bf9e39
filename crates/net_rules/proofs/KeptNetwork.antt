-- What the network of declarations that keep the rules keeps.
use Rattle.std.proofs.Common.{◌≡◌, ◌∙◌, ◌≤◌, true, List, map, length, ap, arith}
use Rattle.std.proofs.lemmas.List.{length-map}
use Rattle.std.specs.List.{AllZip, list_all, enumerate_from}
use Rattle.polis_base.specs.declared.limits.TheConstants.{DOMAINS_MAX, EVENTS_MAX, MACHINES_MAX}
use Rattle.domains.specs.Names.{are_distinct}
use Rattle.domains.specs.declared.domain.Domain.{Domain}
use Rattle.transition_table.specs.NetworkFacts.{has_vars, has_receivers, has_sender, lists_once, has_outputs, is_numbered, has_domain}
use Rattle.transition_table.specs.declared.decl.EventDecl.{EventDecl}
use Rattle.transition_table.specs.declared.machine.Machine.{Machine}
use Rattle.net_reader.specs.declared.raw.RawDomain.{RawDomain}
use Rattle.net_reader.specs.declared.raw.RawNet.{RawNet}
use Rattle.net_rules.specs.Networks.{event_of, IsDomainOf, IsMachineOf}
use Rattle.net_rules.specs.inner.Sound.{IsSound}
use Rattle.net_rules.proofs.HasReceivers.{receivers_kept}
use Rattle.net_rules.proofs.NetworkFacts.{domain_count, event_count, machine_count, event_names_kept, machine_names_kept, event_domains_kept, all_keep, all_senders}
use Rattle.polis_base.proofs.Places.{zip_length}

pub record Kept (made : List Domain) (events : List EventDecl) (machines : List Machine) :
    Type 0 where
  pub few_domains : length made ≤ DOMAINS_MAX
  pub few_events : length events ≤ EVENTS_MAX
  pub few_machines : length machines ≤ MACHINES_MAX
  pub event_names : are_distinct (map (λ (event : EventDecl). event.name) events) ≡ true
  pub machine_names : are_distinct (map (λ (machine : Machine). machine.name) machines) ≡ true
  pub event_domains : list_all (has_domain made) events ≡ true
  pub receivers : list_all (has_receivers machines) (enumerate_from 0 events) ≡ true
  pub senders : list_all (has_sender machines) (enumerate_from 0 events) ≡ true
  pub numbered : list_all (is_numbered made events) machines ≡ true
  pub once : list_all lists_once machines ≡ true
  pub sized_vars : list_all (has_vars made events) machines ≡ true
  pub sized_outputs : list_all (has_outputs made events) machines ≡ true

pub kept : (raw : RawNet) → IsSound raw → (made : List Domain)
    → AllZip (λ (d : RawDomain). IsDomainOf d.shape) raw.domains made
    → (events : List EventDecl) → events ≡ map (event_of raw) raw.events
    → (machines : List Machine) → AllZip (IsMachineOf raw) raw.machines machines
    → Kept made events machines
kept raw sound made domains events are machines all =
    let each = all_keep raw sound made domains in
    record {
      few_domains = omega (
        arith,
        zip_length (λ (d : RawDomain). IsDomainOf d.shape) raw.domains made domains,
        domain_count raw sound,
      );
      few_events = omega (
        arith,
        ap length are,
        length-map raw.events (event_of raw),
        event_count raw sound,
      );
      few_machines = omega (
        arith,
        zip_length (IsMachineOf raw) raw.machines machines all,
        machine_count raw sound,
      );
      event_names = ap (λ l. are_distinct (map (λ (event : EventDecl). event.name) l)) are
          ∙ event_names_kept raw sound;
      machine_names = machine_names_kept raw sound machines all;
      event_domains = ap (list_all (has_domain made)) are
          ∙ event_domains_kept raw sound made domains;
      receivers = ap (λ l. list_all (has_receivers machines) (enumerate_from 0 l)) are
          ∙ receivers_kept raw machines sound.names sound.ports all;
      senders = ap (λ l. list_all (has_sender machines) (enumerate_from 0 l)) are
          ∙ all_senders raw sound machines all;
      numbered = ap (λ l. list_all (is_numbered made l) machines) are
          ∙ each (is_numbered made (map (event_of raw) raw.events)) (λ m k. k.numbered)
          raw.machines machines sound.machines all;
      once = each lists_once (λ m k. k.once) raw.machines machines sound.machines all;
      sized_vars = ap (λ l. list_all (has_vars made l) machines) are
          ∙ each (has_vars made (map (event_of raw) raw.events)) (λ m k. k.vars)
          raw.machines machines sound.machines all;
      sized_outputs = ap (λ l. list_all (has_outputs made l) machines) are
          ∙ each (has_outputs made (map (event_of raw) raw.events)) (λ m k. k.outputs)
          raw.machines machines sound.machines all;
    }
