-- What declarations keep where no rule is broken.
use Rattle.std.specs.Prelude.{◌≡◌, ℕ, Bool, true, ◌&&◌, nat_le, List, [], ◌++◌, map, flat_map, Option, None, Some, slice_get, option_to_list}
use Rattle.polis_base.specs.declared.limits.TheConstants.{DOMAIN_SIZE_MAX, PRIORITY_MAX, SNAPSHOTS_MAX}
use Rattle.std.specs.List.{list_all}
use Rattle.domains.specs.Tables.{product}
use Rattle.net_reader.specs.declared.raw.RawDomain.{RawDomain}
use Rattle.net_reader.specs.declared.raw.RawEvent.{RawEvent}
use Rattle.net_reader.specs.declared.raw.RawState.{RawState}
use Rattle.net_reader.specs.declared.raw.RawCond.{RawCond}
use Rattle.net_reader.specs.declared.raw.RawSource.{RawSource}
use Rattle.net_reader.specs.declared.raw.RawSource.TheVariants as sources
use Rattle.net_reader.specs.declared.raw.RawAct.{RawAct}
use Rattle.net_reader.specs.declared.raw.RawRow.{RawRow}
use Rattle.net_reader.specs.declared.raw.RawMachine.{RawMachine}
use Rattle.net_reader.specs.declared.raw.RawNet.{RawNet}
use Rattle.net_names.specs.Places.{unless}
use Rattle.net_names.specs.Numbers.{missing, repeated, no_name, is_name_of}
use Rattle.net_names.specs.Values.{count_of, no_value}
use Rattle.net_names.specs.Scopes.{domain_words, event_words, state_words, shape_of, cond_word, var_sizes}
use Rattle.rule_judge.specs.Rules.{rule_2, rule_3, rule_7, rule_11, disorder, is_small, emitted, set_names, not_once, wrong_act, no_input, not_shown, other_domain, other_name, too_much}

-- P holds of the item at each place
abbrev pub Each : {X : Type 0} → (X → Type 0) → List X → Type 0
Each {X} P xs = (i : ℕ) (x : X) → slice_get xs i ≡ Some x → P x

-- an action keeps the rules on what it gives and where it takes it from
pub record IsSoundAct (net : RawNet) (m : RawMachine) (row : RawRow) (act : RawAct) : Type 0 where
  pub value : wrong_act net m row act ≡ []
  pub input : no_input net m row act ≡ []
  pub shown : not_shown net m row act ≡ []
  pub domain : other_domain net m row act ≡ []
  pub name : other_name net m row act ≡ []
  pub amount : too_much net m row act ≡ []

-- the number after `+`, 0 where there is none
abbrev pub amount_of : Option RawSource → ℕ
amount_of None = 0
amount_of (Some (sources.Value value)) = 0
amount_of (Some (sources.Input w)) = 0
amount_of (Some (sources.Add w n)) = n.number

-- a row keeps the rules of conditions and of actions
pub record IsSoundRow (net : RawNet) (m : RawMachine) (row : RawRow) : Type 0 where
  pub known : flat_map
      (λ (c : RawCond). unless (is_name_of (m.inputs ++ state_words m) (cond_word c).name)
      (cond_word c).at) row.conds ≡ []
  pub targets : not_once m.outputs (flat_map emitted row.acts)
      ++ not_once (state_words m) (flat_map set_names row.acts) ≡ []
  pub acts : Each (IsSoundAct net m row) row.acts

-- a machine keeps the rules of machines
pub record IsSoundMachine (net : RawNet) (m : RawMachine) : Type 0 where
  pub ports : missing (is_name_of (event_words net)) (m.inputs ++ m.outputs) ≡ []
  pub once : repeated no_name m.inputs ++ repeated no_name m.outputs
      ++ repeated (is_name_of (m.inputs ++ m.outputs)) (state_words m) ≡ []
  pub small : is_small m ≡ true
  pub priority : nat_le m.priority.number PRIORITY_MAX ≡ true
  pub domains : missing (is_name_of (domain_words net))
      (map (λ (s : RawState). s.domain) m.states) ≡ []
  pub inits : flat_map (λ (s : RawState). no_value (shape_of net s.domain.name) s.init)
      m.states ≡ []
  pub rows : Each (IsSoundRow net m) m.rows
  pub snapshots : nat_le (product (var_sizes net m)) SNAPSHOTS_MAX ≡ true

-- the domain has 1 to 32 values
abbrev pub has_count : RawDomain → Bool
has_count d = nat_le 1 (count_of d.shape) && nat_le (count_of d.shape) DOMAIN_SIZE_MAX

pub record IsSound (net : RawNet) : Type 0 where
  pub few : rule_2 net ≡ []
  pub names : rule_3 net ≡ []
  pub order : Each (λ (d : RawDomain). disorder d.shape ≡ []) net.domains
  pub counts : list_all has_count net.domains ≡ true
  pub events : missing (is_name_of (domain_words net))
      (flat_map (λ (e : RawEvent). option_to_list e.domain) net.events) ≡ []
  pub ports : rule_7 net ≡ []
  pub senders : rule_11 net ≡ []
  pub machines : Each (IsSoundMachine net) net.machines

-- the same declarations with these machines
abbrev pub with_machines : RawNet → List RawMachine → RawNet
with_machines net machines = record net { machines = machines }
