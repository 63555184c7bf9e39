-- The network that a text gives, by one equation between what is computed of both.
use Rattle.std.proofs.Common.{◌≡◌, ℕ, ◌+◌, ◌⊎◌, inl, inr, Bool, true, false, List, [], ◌∷◌, ◌++◌, map, drop, Option, Some, None, is_some, Result, Ok, Err, refl, ap, sym, true≢false}
use Rattle.std.specs.List.{AllZip}
use Rattle.polis_base.specs.Lists.{head_of}
use Rattle.polis_base.specs.Tokens.{tokens_of}
use Rattle.domains.specs.declared.domain.Domain.{Domain}
use Rattle.domains.specs.declared.domain.Domain.TheVariants as domains
use Rattle.transition_table.specs.declared.decl.EventDecl.{EventDecl}
use Rattle.transition_table.specs.declared.decl.StateDecl.{StateDecl}
use Rattle.transition_table.specs.declared.row.Cond.{Cond}
use Rattle.transition_table.specs.declared.row.Act.{Act}
use Rattle.transition_table.specs.declared.row.Row.{Row}
use Rattle.transition_table.specs.declared.machine.Machine.{Machine}
use Rattle.transition_table.specs.declared.network.Network.{Network}
use Rattle.net_reader.specs.Reading.{only, word_at, num_at, value_at, many, after_comma, listed, names_at, range_at, shape_at, domain_at, from_env_at, to_env_at, env_at, typed_at, typed_part_at, event_at, state_at, absent_at, is_at, one_of_at, after_name_at, named_at, cond_at, plain_at, input_at, add_at, add_or_plain_at, after_value_at, sum_at, input_or_plain_at, input_or_sum_at, given_source_at, source_at, given_at, given_part_at, emit_at, set_at, act_at, nothing_at, acts_at, row_at, output_at, outputs_at, body_at, machine_at, net_at, end_at, whole_at}
use Rattle.net_reader.specs.inner.Outcomes.{outcome}
use Rattle.net_reader.specs.Samples.{echo_text}
use Rattle.net_reader.specs.declared.raw.Word.{Word}
use Rattle.net_reader.specs.declared.raw.RawShape.{RawShape}
use Rattle.net_reader.specs.declared.raw.RawShape.TheVariants as shapes
use Rattle.net_reader.specs.declared.raw.RawDomain.{RawDomain}
use Rattle.net_reader.specs.declared.raw.RawRow.{RawRow}
use Rattle.net_reader.specs.declared.raw.RawMachine.{RawMachine}
use Rattle.net_reader.specs.declared.raw.RawNet.{RawNet}
use Rattle.net_reader.specs.declared.network.NetFault.{NetFault}
use Rattle.net_reader.proofs.Sentences.{has_net}
use Rattle.net_names.specs.Numbers.{names_of, number}
use Rattle.net_names.specs.Scopes.{event_words, event_codes, state_codes, var_sizes}
use Rattle.rule_judge.specs.declared.verdict.Broken.{Broken}
use Rattle.rule_judge.specs.Judged.{broken}
use Rattle.net_rules.specs.Networks.{IsDomainOf, IsRowOf, IsMachineOf, IsNetworkOf, state_of, event_of, cond_of, act_of}
use Rattle.net_rules.specs.NetOf.{NetOf}
use Rattle.net_rules.specs.Given.{belt_text, mix_text, mix_network}
use Rattle.transition_table.specs.samples.Belt.{belt as belt_network}
use Rattle.transition_table.specs.samples.Echo.{echo as echo_network}
use Rattle.polis_base.proofs.Places.{some_is}

-- items that agree in what is computed of both match
zip_of : {A B D : Type 0} (R : A → B → Type 0) (f : A → D) (g : B → D)
    → ((a : A) (b : B) → g b ≡ f a → R a b) → (xs : List A) (ys : List B)
    → map g ys ≡ map f xs → AllZip R xs ys
zip_of R f g same [] [] h = tt
zip_of R f g same [] (y ∷ ys) h = absurd (true≢false (ap (λ l. is_some (head_of l)) h))
zip_of R f g same (x ∷ xs) [] h = absurd (true≢false (sym (ap (λ l. is_some (head_of l)) h)))
zip_of R f g same (x ∷ xs) (y ∷ ys) h = (
  same x y (some_is (g y) (f x) (ap head_of h)),
  zip_of R f g same xs ys (ap (drop 1) h),
)

-- the names of a domain, or its first and its last number
abbrev Values : Type 0
Values = List (List ℕ) ⊎ (ℕ × ℕ)

abbrev declared_values : RawShape → Values
declared_values (shapes.Names words) = inl (names_of words)
declared_values (shapes.Range first last) = inr (first.number, last.number)

abbrev values_of : Domain → Values
values_of (domains.Names names) = inl names
values_of (domains.Range span) = inr (span.first, span.last)

abbrev are_names : Values → Bool
are_names (inl names) = true
are_names (inr range) = false

abbrev names_in : Values → List (List ℕ)
names_in (inl names) = names
names_in (inr range) = []

abbrev range_in : Values → ℕ × ℕ
range_in (inl names) = (0, 0)
range_in (inr range) = range

domain_of : (shape : RawShape) (d : Domain) → values_of d ≡ declared_values shape
    → IsDomainOf shape d
domain_of (shapes.Names words) (domains.Names names) h = ap domains.Names (ap names_in h)
domain_of (shapes.Names words) (domains.Range span) h = absurd (true≢false (sym (ap are_names h)))
domain_of (shapes.Range first last) (domains.Names names) h = absurd (true≢false (ap are_names h))
domain_of (shapes.Range first last) (domains.Range span) h =
    (span, refl, ap (λ v. (range_in v).0) h, ap (λ v. (range_in v).1) h)

abbrev RowData : Type 0
RowData = List Cond × List Act

abbrev declared_row : RawNet → RawMachine → RawRow → RowData
declared_row net m row = (map (cond_of net m) row.conds, map (act_of net m) row.acts)

abbrev row_data : Row → RowData
row_data row = (row.conds, row.acts)

record MachineData : Type 0 where
  name : List ℕ
  priority : ℕ
  inputs : List ℕ
  outputs : List ℕ
  states : List StateDecl
  vars : List ℕ
  results : List ℕ
  rows : List RowData

abbrev declared_machine : RawNet → RawMachine → MachineData
declared_machine net m = record {
  name = m.name.name;
  priority = m.priority.number;
  inputs = map (λ (w : Word). number (event_words net) w.name) m.inputs;
  outputs = map (λ (w : Word). number (event_words net) w.name) m.outputs;
  states = map (state_of net) m.states;
  vars = var_sizes net m;
  results = 2 ∷ map (λ s. 1 + state_codes net s) m.states ++ map (event_codes net) m.outputs;
  rows = map (declared_row net m) m.rows;
}

abbrev machine_data : Machine → MachineData
machine_data m = record {
  name = m.name;
  priority = m.priority;
  inputs = m.inputs;
  outputs = m.outputs;
  states = m.states;
  vars = m.vars;
  results = m.results;
  rows = map row_data m.rows;
}

machine_of : (net : RawNet) (raw : RawMachine) (m : Machine)
    → machine_data m ≡ declared_machine net raw → IsMachineOf net raw m
machine_of net raw m h = record {
  name = λ i. (h i).name;
  priority = λ i. (h i).priority;
  inputs = λ i. (h i).inputs;
  outputs = λ i. (h i).outputs;
  states = λ i. (h i).states;
  vars = λ i. (h i).vars;
  results = λ i. (h i).results;
  rows = zip_of (IsRowOf net raw) (declared_row net raw) row_data
      (λ a b e. record { conds = λ i. (e i).0; acts = λ i. (e i).1 }) raw.rows m.rows
      (λ i. (h i).rows);
}

record NetworkData : Type 0 where
  name : List ℕ
  domains : List Values
  events : List EventDecl
  machines : List MachineData

abbrev declared_network : RawNet → NetworkData
declared_network net = record {
  name = net.name.name;
  domains = map (λ (d : RawDomain). declared_values d.shape) net.domains;
  events = map (event_of net) net.events;
  machines = map (declared_machine net) net.machines;
}

abbrev network_data : Network → NetworkData
network_data net = record {
  name = net.name;
  domains = map values_of net.domains;
  events = net.events;
  machines = map machine_data net.machines;
}

network_of : (raw : RawNet) (net : Network) → network_data net ≡ declared_network raw
    → IsNetworkOf raw net
network_of raw net h = record {
  name = λ i. (h i).name;
  domains = zip_of (λ (d : RawDomain). IsDomainOf d.shape)
      (λ (d : RawDomain). declared_values d.shape) values_of
      (λ a b e. domain_of a.shape b e) raw.domains net.domains (λ i. (h i).domains);
  events = λ i. (h i).events;
  machines = zip_of (IsMachineOf raw) (declared_machine raw) machine_data (machine_of raw)
      raw.machines net.machines (λ i. (h i).machines);
}

-- what is computed of a text, where it declares a network
abbrev found : Result RawNet NetFault → Option (Option Broken × NetworkData)
found (Ok net) = Some (broken net, declared_network net)
found (Err fault) = None

net_of : (text : List ℕ) (net : Network) → Some (None, network_data net) ≡ found (outcome text)
    → NetOf text net
net_of text net h = by (outcome text) refl h
  where
    by : (r : Result RawNet NetFault) → outcome text ≡ r → Some (None, network_data net) ≡ found r
        → NetOf text net
    by (Ok raw) e k =
        let same = some_is (None, network_data net) (broken raw, declared_network raw) k in (
          raw,
          has_net text (tokens_of text) raw refl e,
          (λ i. (sym same i).0, network_of raw net (λ i. (same i).1)),
        )
    by (Err fault) e k = absurd (true≢false (ap is_some k))

pub given : NetOf belt_text belt_network × NetOf mix_text mix_network × NetOf echo_text echo_network
unfolding only word_at num_at value_at many after_comma listed names_at range_at shape_at domain_at
    from_env_at to_env_at env_at typed_at typed_part_at event_at state_at absent_at is_at one_of_at
    after_name_at named_at cond_at plain_at input_at add_at add_or_plain_at after_value_at sum_at
    input_or_plain_at input_or_sum_at given_source_at source_at given_at given_part_at emit_at
    set_at act_at nothing_at acts_at row_at output_at outputs_at body_at machine_at net_at end_at
    whole_at
given = (
  net_of belt_text belt_network refl,
  net_of mix_text mix_network refl,
  net_of echo_text echo_network refl,
)
