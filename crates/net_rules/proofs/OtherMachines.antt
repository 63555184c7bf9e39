-- What a machine's tables say, and which rules it keeps, rests on no machine beside it.
use Rattle.std.proofs.Common.{◌≡◌, ◌∙◌, ℕ, ◌+◌, nat_le, List, [], ◌∷◌, ◌++◌, map, length, Option, Some, None, is_some, slice_index, ap, sym, true≢false, refl}
use Rattle.std.specs.List.{AllZip}
use Rattle.domains.specs.Tables.{product}
use Rattle.polis_base.specs.declared.limits.TheConstants.{SNAPSHOTS_MAX, DOMAINS_MAX, EVENTS_MAX, MACHINES_MAX}
use Rattle.transition_table.specs.declared.row.Row.{Row}
use Rattle.transition_table.specs.declared.machine.Machine.{Machine}
use Rattle.net_reader.specs.declared.raw.Word.{Word}
use Rattle.net_reader.specs.declared.raw.RawCond.{RawCond}
use Rattle.net_reader.specs.declared.raw.RawCond.TheVariants as conds
use Rattle.net_reader.specs.declared.raw.RawSource.{RawSource}
use Rattle.net_reader.specs.declared.raw.RawSource.TheVariants as sources
use Rattle.net_reader.specs.declared.raw.RawAct.{RawAct}
use Rattle.net_reader.specs.declared.raw.RawAct.TheVariants as acts
use Rattle.net_reader.specs.declared.raw.RawRow.{RawRow}
use Rattle.net_reader.specs.declared.raw.RawMachine.{RawMachine}
use Rattle.net_reader.specs.declared.raw.RawNet.{RawNet}
use Rattle.net_names.specs.Numbers.{no_name, number, repeated}
use Rattle.net_names.specs.Scopes.{domain_words, event_words, machine_words, state_words, event_domain, state_domain, count_at, event_codes, state_codes, var_sizes, var_words, cond_word}
use Rattle.rule_judge.specs.Rules.{beyond, wrong_act, wrong_emission, other_domain, other_name, too_much, not_below}
use Rattle.net_rules.specs.Networks.{allows, cond_of, act_of, source_in, emission_source, bits_where, IsRowOf, IsMachineOf}
use Rattle.net_rules.specs.inner.Sound.{IsSound, IsSoundAct, IsSoundMachine, with_machines}
use Rattle.net_rules.proofs.HasReceivers.{first_nil, rest_nil}

module _ (net : RawNet) (ms : List RawMachine) where
  same_count : (o : Option Word) → count_at (with_machines net ms) o ≡ count_at net o
  same_count None = refl
  same_count (Some w) = refl

  same_codes : (w : Word) → event_codes (with_machines net ms) w ≡ event_codes net w
  same_codes w = ap (λ n. 1 + n) (same_count (event_domain net w.name))

  same_sizes : (m : RawMachine) → var_sizes (with_machines net ms) m ≡ var_sizes net m
  same_sizes m = λ i. map (λ w. same_codes w i) m.inputs ++ map (state_codes net) m.states

  same_allows : (m : RawMachine) (c : RawCond) (code : ℕ)
      → allows (with_machines net ms) m c code ≡ allows net m c code
  same_allows m (conds.Present w) code = refl
  same_allows m (conds.Absent w) code = refl
  same_allows m (conds.Is w value) code = refl
  same_allows m (conds.OneOf w values) code = refl

  same_cond : (m : RawMachine) (c : RawCond)
      → cond_of (with_machines net ms) m c ≡ cond_of net m c
  same_cond m c =
      let var = number (var_words m) (cond_word c).name in
      λ i. record {
        var = var;
        codes = bits_where (λ code. same_allows m c code i) (slice_index (same_sizes m i) var);
      }

  same_source : (m : RawMachine) (domain : Option Word) (s : RawSource)
      → source_in (with_machines net ms) m domain s ≡ source_in net m domain s
  same_source m None (sources.Value value) = refl
  same_source m (Some d) (sources.Value value) = refl
  same_source m domain (sources.Input w) = refl
  same_source m domain (sources.Add w n) = refl

  same_emission : (m : RawMachine) (domain : Option Word) (s : Option RawSource)
      → emission_source (with_machines net ms) m domain s ≡ emission_source net m domain s
  same_emission m domain None = refl
  same_emission m domain (Some s) = same_source m domain s

  same_act : (m : RawMachine) (a : RawAct) → act_of (with_machines net ms) m a ≡ act_of net m a
  same_act m (acts.Emit w source) = λ i. record {
    result = 1 + length m.states + number m.outputs w.name;
    source = same_emission m (event_domain net w.name) source i;
  }
  same_act m (acts.Set w source) = λ i. record {
    result = 1 + number (state_words m) w.name;
    source = same_source m (state_domain m w.name) source i;
  }

  wrong_same : (w : Word) (domain : Option Word) (s : Option RawSource)
      → wrong_emission (with_machines net ms) w domain s ≡ wrong_emission net w domain s
  wrong_same w None None = refl
  wrong_same w None (Some s) = refl
  wrong_same w (Some d) None = refl
  wrong_same w (Some d) (Some s) = refl

  same_wrong : (m : RawMachine) (row : RawRow) (a : RawAct)
      → wrong_act (with_machines net ms) m row a ≡ wrong_act net m row a
  same_wrong m row (acts.Emit w source) = wrong_same w (event_domain net w.name) source
  same_wrong m row (acts.Set w source) = refl

  same_other : (m : RawMachine) (row : RawRow) (a : RawAct)
      → other_domain (with_machines net ms) m row a ≡ other_domain net m row a
  same_other m row (acts.Emit w source) = refl
  same_other m row (acts.Set w source) = refl

  same_name : (m : RawMachine) (row : RawRow) (a : RawAct)
      → other_name (with_machines net ms) m row a ≡ other_name net m row a
  same_name m row (acts.Emit w source) = refl
  same_name m row (acts.Set w source) = refl

  same_amount : (m : RawMachine) (row : RawRow) (a : RawAct)
      → too_much (with_machines net ms) m row a ≡ too_much net m row a
  same_amount m row (acts.Emit w source) =
      ap (λ n. not_below n source) (same_count (event_domain net w.name))
  same_amount m row (acts.Set w source) =
      ap (λ n. not_below n (Some source)) (same_count (state_domain m w.name))

  act_alone : (m : RawMachine) (row : RawRow) (a : RawAct)
      → IsSoundAct (with_machines net ms) m row a → IsSoundAct net m row a
  act_alone m row a kept = record {
    value = sym (same_wrong m row a) ∙ kept.value;
    input = kept.input;
    shown = kept.shown;
    domain = sym (same_other m row a) ∙ kept.domain;
    name = sym (same_name m row a) ∙ kept.name;
    amount = sym (same_amount m row a) ∙ kept.amount;
  }

  -- a machine keeps the rules also where the others aren't there
  pub machine_alone : (m : RawMachine) → IsSoundMachine (with_machines net ms) m
      → IsSoundMachine net m
  machine_alone m kept = record {
    ports = kept.ports;
    once = kept.once;
    small = kept.small;
    priority = kept.priority;
    domains = kept.domains;
    inits = kept.inits;
    rows = λ i row at.
        let row_kept = kept.rows i row at in
        record {
          known = row_kept.known;
          targets = row_kept.targets;
          acts = λ j a there. act_alone m row a (row_kept.acts j a there);
        };
    snapshots = ap (λ l. nat_le (product l) SNAPSHOTS_MAX) (sym (same_sizes m)) ∙ kept.snapshots;
  }

  rows_beside : (m : RawMachine) (raws : List RawRow) (rows : List Row)
      → AllZip (IsRowOf net m) raws rows → AllZip (IsRowOf (with_machines net ms) m) raws rows
  rows_beside m [] [] all = tt
  rows_beside m [] (row ∷ rows) all = absurd all
  rows_beside m (raw ∷ raws) [] all = absurd all
  rows_beside m (raw ∷ raws) (row ∷ rows) all = (
    record {
      conds = all.0.conds ∙ sym (λ i. map (λ c. same_cond m c i) raw.conds);
      acts = all.0.acts ∙ sym (λ i. map (λ a. same_act m a i) raw.acts);
    },
    rows_beside m raws rows all.1,
  )

  -- its tables are the same beside others
  pub machine_beside : (m : RawMachine) (made : Machine) → IsMachineOf net m made
      → IsMachineOf (with_machines net ms) m made
  machine_beside m made is = record {
    name = is.name;
    priority = is.priority;
    inputs = is.inputs;
    outputs = is.outputs;
    states = is.states;
    vars = is.vars ∙ sym (same_sizes m);
    results = is.results
        ∙ sym (λ i. 2 ∷ map (λ s. 1 + state_codes net s) m.states
        ++ map (λ w. same_codes w i) m.outputs);
    rows = rows_beside m m.rows made.rows is.rows;
  }

  pub machines_beside : (raws : List RawMachine) (made : List Machine)
      → AllZip (IsMachineOf net) raws made → AllZip (IsMachineOf (with_machines net ms)) raws made
  machines_beside [] [] all = tt
  machines_beside [] (machine ∷ made) all = absurd all
  machines_beside (raw ∷ raws) [] all = absurd all
  machines_beside (raw ∷ raws) (machine ∷ made) all = (
    machine_beside raw machine all.0,
    machines_beside raws made all.1,
  )

-- declarations that keep the rules keep them also without machines
pub sound_alone : (net : RawNet) → IsSound net → IsSound (with_machines net [])
sound_alone net sound =
    let few_domains = beyond DOMAINS_MAX (domain_words net) in
    let few_events = beyond EVENTS_MAX (event_words net) in
    let domains_once = repeated no_name (domain_words net) in
    let events_once = repeated no_name (event_words net) in
    record {
      few = without few_domains few_events (beyond MACHINES_MAX (machine_words net)) sound.few;
      names = without domains_once events_once (repeated no_name (machine_words net)) sound.names;
      order = sound.order;
      counts = sound.counts;
      events = sound.events;
      ports = refl;
      senders = refl;
      machines = λ i m at. absurd (true≢false (sym (ap is_some at)));
    }
  where
    without : (xs ys zs : List ℕ) → xs ++ ys ++ zs ≡ [] → xs ++ ys ++ [] ≡ []
    without xs ys zs h =
        λ i. (first_nil xs ys (first_nil (xs ++ ys) zs h) i
        ++ rest_nil xs ys (first_nil (xs ++ ys) zs h) i) ++ []
