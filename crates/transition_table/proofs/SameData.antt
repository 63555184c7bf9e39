-- Values with the same data are the same.
use Rattle.std.proofs.Common.{◌≤◌, length, map, IsTrue}
use Rattle.polis_base.specs.declared.limits.TheConstants.{DOMAINS_MAX, EVENTS_MAX, MACHINES_MAX}
use mathlib.Core.HLevel.{is_prop→PathP}
use mathlib.Core.Bool.{Bool-set}
use Rattle.std.specs.Coded.{le_prop}
use Rattle.std.specs.List.{list_all, enumerate_from}
use Rattle.domains.specs.Names.{are_distinct}
use Rattle.transition_table.specs.Laws.{SameRow, SameMachine, SameNetwork}
use Rattle.transition_table.specs.MachineFacts.{are_vars, are_results, is_row, is_small}
use Rattle.transition_table.specs.NetworkFacts.{has_vars, has_receivers, has_sender, lists_once, has_outputs, is_numbered, has_domain}
use Rattle.transition_table.specs.RowFacts.{are_actions}

pub same_row : SameRow
same_row a b p q =
    λ i. record {
      conds = p i;
      acts = q i;
      actions = is_prop→PathP (λ j. IsTrue (are_actions (q j))) (λ j. Bool-set _ _) a.actions
          b.actions i;
    }

pub same_machine : SameMachine
same_machine a b s = λ i. record {
  name = s.name i;
  priority = s.priority i;
  inputs = s.inputs i;
  outputs = s.outputs i;
  states = s.states i;
  vars = s.vars i;
  results = s.results i;
  rows = s.rows i;
  sized_vars = is_prop→PathP (λ j. IsTrue (are_vars (s.inputs j) (s.states j) (s.vars j)))
      (λ j. Bool-set _ _) a.sized_vars b.sized_vars i;
  sized_results =
      is_prop→PathP (λ j.
      IsTrue (are_results (s.inputs j) (s.outputs j) (s.states j) (s.vars j) (s.results j)))
      (λ j. Bool-set _ _) a.sized_results b.sized_results i;
  fitting_rows = is_prop→PathP (λ j.
      IsTrue (list_all (is_row (s.inputs j) (s.vars j) (s.results j)) (s.rows j)))
      (λ j. Bool-set _ _) a.fitting_rows b.fitting_rows i;
  small = is_prop→PathP
      (λ j. IsTrue (is_small (s.inputs j) (s.outputs j) (s.states j) (s.vars j) (s.rows j)))
      (λ j. Bool-set _ _) a.small b.small i;
}

pub same_network : SameNetwork
same_network a b s = λ i. record {
  name = s.name i;
  domains = s.domains i;
  events = s.events i;
  machines = s.machines i;
  few_domains = is_prop→PathP (λ j. length (s.domains j) ≤ DOMAINS_MAX) (λ j. le_prop) a.few_domains
      b.few_domains i;
  few_events = is_prop→PathP (λ j. length (s.events j) ≤ EVENTS_MAX) (λ j. le_prop) a.few_events
      b.few_events i;
  few_machines = is_prop→PathP (λ j. length (s.machines j) ≤ MACHINES_MAX) (λ j. le_prop) a.few_machines
      b.few_machines i;
  event_names = is_prop→PathP (λ j. IsTrue (are_distinct (map (λ event. event.name) (s.events j))))
      (λ j. Bool-set _ _) a.event_names b.event_names i;
  machine_names =
      is_prop→PathP (λ j. IsTrue (are_distinct (map (λ machine. machine.name) (s.machines j))))
      (λ j. Bool-set _ _) a.machine_names b.machine_names i;
  event_domains =
      is_prop→PathP (λ j. IsTrue (list_all (has_domain (s.domains j)) (s.events j)))
      (λ j. Bool-set _ _) a.event_domains b.event_domains i;
  receivers = is_prop→PathP
      (λ j. IsTrue (list_all (has_receivers (s.machines j)) (enumerate_from 0 (s.events j))))
      (λ j. Bool-set _ _) a.receivers b.receivers i;
  senders = is_prop→PathP
      (λ j. IsTrue (list_all (has_sender (s.machines j)) (enumerate_from 0 (s.events j))))
      (λ j. Bool-set _ _) a.senders b.senders i;
  numbered = is_prop→PathP
      (λ j. IsTrue (list_all (is_numbered (s.domains j) (s.events j)) (s.machines j)))
      (λ j. Bool-set _ _) a.numbered b.numbered i;
  once = is_prop→PathP (λ j. IsTrue (list_all lists_once (s.machines j))) (λ j. Bool-set _ _) a.once
      b.once i;
  sized_vars = is_prop→PathP
      (λ j. IsTrue (list_all (has_vars (s.domains j) (s.events j)) (s.machines j)))
      (λ j. Bool-set _ _) a.sized_vars b.sized_vars i;
  sized_outputs =
      is_prop→PathP (λ j. IsTrue (list_all (has_outputs (s.domains j) (s.events j)) (s.machines j)))
      (λ j. Bool-set _ _) a.sized_outputs b.sized_outputs i;
}
