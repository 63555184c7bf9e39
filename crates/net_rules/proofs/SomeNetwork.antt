-- The network that declarations give, as a value.
use Rattle.std.proofs.Common.{◌≡◌, ◌<◌, ◌≤◌, suc, ◌+◌, ◌-◌, nat_le, List, [], ◌∷◌, ◌++◌, map, refl, arith}
use Rattle.std.specs.List.{AllZip}
use Rattle.domains.specs.declared.domain.Domain.{Domain}
use Rattle.domains.specs.declared.domain.Span.{Span}
use Rattle.domains.specs.declared.domain.Domain.TheVariants as domains
use Rattle.transition_table.specs.declared.row.Row.{Row}
use Rattle.transition_table.specs.declared.machine.Machine.{Machine}
use Rattle.transition_table.specs.declared.network.Network.{Network}
use Rattle.net_reader.specs.declared.raw.Word.{Word}
use Rattle.net_reader.specs.declared.raw.RawShape.{RawShape}
use Rattle.net_reader.specs.declared.raw.RawShape.TheVariants as shapes
use Rattle.net_reader.specs.declared.raw.RawDomain.{RawDomain}
use Rattle.net_reader.specs.declared.raw.RawRow.{RawRow}
use Rattle.net_reader.specs.declared.raw.RawMachine.{RawMachine}
use Rattle.net_reader.specs.declared.raw.RawNet.{RawNet}
use Rattle.net_names.specs.Numbers.{names_of, number}
use Rattle.net_names.specs.Values.{count_of}
use Rattle.net_names.specs.Scopes.{event_codes, event_words, state_codes, var_sizes}
use Rattle.rule_judge.specs.Rules.{disorder}
use Rattle.net_rules.specs.Networks.{IsDomainOf, IsMachineOf, IsNetworkOf, IsRowOf, act_of, cond_of, event_of, state_of}
use Rattle.net_rules.specs.inner.Sound.{Each, IsSound, IsSoundMachine, IsSoundRow, has_count}
use Rattle.net_rules.specs.Unique.{SomeNetwork}
use Rattle.net_rules.proofs.AreActions.{actions_kept}
use Rattle.net_rules.proofs.Counts.{count_in, each_all}
use Rattle.net_rules.proofs.MachineFacts.{vars_fit, results_fit, rows_fit}
use Rattle.net_rules.proofs.IsSound.{sound}
use Rattle.net_rules.proofs.HasReceivers.{holds}
use Rattle.net_rules.proofs.IsSoundMachine.{small_kept}
use Rattle.net_rules.proofs.KeptNetwork.{kept}
use Rattle.net_rules.proofs.Sentences.{sentences_have_values}
use Rattle.std.proofs.lemmas.Bool.{leb-true}

-- where each item gives one, all together give a list of them
all_given : {A B : Type 0} (R : A → B → Type 0) (P : A → Type 0)
    → ((x : A) → P x → (y : B) × R x y)
    → (xs : List A) → Each P xs → (ys : List B) × AllZip R xs ys
all_given R P give [] each = ([], tt)
all_given R P give (x ∷ xs) each =
    let first = give x (each 0 x refl) in
    let rest = all_given R P give xs (λ i y at. each (suc i) y at) in
    (first.0 ∷ rest.0, (first.1, rest.1))

row_given : (net : RawNet) (m : RawMachine) (raw : RawRow) → IsSoundRow net m raw
    → (row : Row) × IsRowOf net m raw row
row_given net m raw kept = (
  record {
    conds = map (cond_of net m) raw.conds;
    acts = map (act_of net m) raw.acts;
    actions = actions_kept net m raw.acts kept.targets;
  },
  record { conds = refl; acts = refl },
)

machine_given : (net : RawNet) → IsSound net → (m : RawMachine) → IsSoundMachine net m
    → (machine : Machine) × IsMachineOf net m machine
machine_given net sound m kept =
    let rows = all_given (IsRowOf net m) (IsSoundRow net m) (row_given net m) m.rows kept.rows in (
      record {
        name = m.name.name;
        priority = m.priority.number;
        inputs = map (λ (w : Word). number (event_words net) w.name) m.inputs;
        outputs = map (λ (w : Word). number (event_words net) w.name) m.outputs;
        states = map (state_of net) m.states;
        vars = var_sizes net m;
        results = 2 ∷ map (λ s. 1 + state_codes net s) m.states
            ++ map (event_codes net) m.outputs;
        rows = rows.0;
        sized_vars = vars_fit net m sound kept;
        sized_results = results_fit net m sound kept;
        fitting_rows = rows_fit net m sound kept m.rows rows.0 rows.1 kept.rows;
        small = small_kept net m sound kept rows.0 rows.1;
      },
      record {
        name = refl;
        priority = refl;
        inputs = refl;
        outputs = refl;
        states = refl;
        vars = refl;
        results = refl;
        rows = rows.1;
      },
    )

-- a shape that keeps the rules
record IsSoundShape (shape : RawShape) : Type 0 where
  order : disorder shape ≡ []
  few : count_of shape ≤ 32

shape_given : (shape : RawShape) → IsSoundShape shape → (d : Domain) × IsDomainOf shape d
shape_given (shapes.Names words) kept = (domains.Names (names_of words), refl)
shape_given (shapes.Range first last) kept =
    let ordered : first.number ≤ last.number =
    leb-true first.number last.number (holds (nat_le first.number last.number) last.at kept.order) in
    let few : last.number - first.number < 32 = let most = kept.few in omega arith in
    let span : Span = record {
      first = first.number;
      last = last.number;
      ordered = ordered;
      few = few;
    } in
    (domains.Range span, (span, refl, refl, refl))

network_given : (raw : RawNet) → IsSound raw → (net : Network) × IsNetworkOf raw net
network_given raw sound =
    let made = all_given (λ (d : RawDomain). IsDomainOf d.shape)
    (λ (d : RawDomain). IsSoundShape d.shape)
    (λ d kept. shape_given d.shape kept) raw.domains
    (λ i d at. record {
      order = sound.order i d at;
      few = (count_in d (each_all has_count raw.domains sound.counts i d at)).1;
    }) in
    let machines = all_given (IsMachineOf raw) (IsSoundMachine raw) (machine_given raw sound)
    raw.machines sound.machines in
    let k = kept raw sound made.0 made.1 (map (event_of raw) raw.events) refl machines.0
    machines.1 in (
      record {
        name = raw.name.name;
        domains = made.0;
        events = map (event_of raw) raw.events;
        machines = machines.0;
        few_domains = k.few_domains;
        few_events = k.few_events;
        few_machines = k.few_machines;
        event_names = k.event_names;
        machine_names = k.machine_names;
        event_domains = k.event_domains;
        receivers = k.receivers;
        senders = k.senders;
        numbered = k.numbered;
        once = k.once;
        sized_vars = k.sized_vars;
        sized_outputs = k.sized_outputs;
      },
      record { name = refl; domains = made.1; events = refl; machines = machines.1 },
    )

pub some_network : SomeNetwork
some_network raw sentence none =
    network_given raw (sound raw none (sentences_have_values raw sentence))
