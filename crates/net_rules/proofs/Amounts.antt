-- What an action adds is small.
use Rattle.std.proofs.Common.{◌≡◌, ◌≤◌, ℕ, Bool, true, false, cond, nat_lt, List, [], ◌∷◌, map, find, Some, None, sym, true≢false, arith}
use Rattle.std.specs.Option.{option_map}
use Rattle.domains.specs.Names.{is_same}
use Rattle.net_reader.specs.declared.raw.RawState.{RawState}
use Rattle.net_reader.specs.declared.raw.RawSource.TheVariants as sources
use Rattle.net_reader.specs.declared.raw.RawAct.{RawAct}
use Rattle.net_reader.specs.declared.raw.RawAct.TheVariants as acts
use Rattle.net_reader.specs.declared.raw.RawRow.{RawRow}
use Rattle.net_reader.specs.declared.raw.RawMachine.{RawMachine}
use Rattle.net_reader.specs.declared.raw.RawNet.{RawNet}
use Rattle.net_names.specs.Numbers.{is_name_of, missing}
use Rattle.net_names.specs.Scopes.{domain_words, state_domain, count_at}
use Rattle.rule_judge.specs.Rules.{source_of}
use Rattle.net_rules.specs.inner.Sound.{IsSound, IsSoundMachine, IsSoundAct, amount_of}
use Rattle.net_rules.proofs.HasReceivers.{holds}
use Rattle.net_rules.proofs.AreActions.{first_known, rest_known}
use Rattle.net_rules.proofs.Counts.{state_few}
use Rattle.std.proofs.lemmas.Bool.{ltb-true}

module _ (net : RawNet) (sound : IsSound net) where
  -- a state variable has few values
  few_in : (name : List ℕ) (ss : List RawState)
      → missing (is_name_of (domain_words net)) (map (λ (s : RawState). s.domain) ss) ≡ []
      → count_at net (option_map (λ (s : RawState). s.domain)
      (find (λ (s : RawState). is_same name s.name.name) ss)) ≤ 33
  few_in name [] h = omega arith
  few_in name (s ∷ ss) h =
      by (is_same name s.name.name)
      (few_in name ss
      (rest_known (domain_words net) s.domain (map (λ (s : RawState). s.domain) ss) h))
    where
      by : (b : Bool)
          → count_at net (option_map (λ (s : RawState). s.domain)
          (find (λ (s : RawState). is_same name s.name.name) ss)) ≤ 33
          → count_at net (option_map (λ (s : RawState). s.domain)
          (cond b (Some s) (find (λ (s : RawState). is_same name s.name.name) ss))) ≤ 33
      by true rest = state_few net s.domain sound
          (first_known (domain_words net) s.domain (map (λ (s : RawState). s.domain) ss) h)
      by false rest = rest

  pub amount_small : (m : RawMachine) (row : RawRow) (act : RawAct) → IsSoundMachine net m
      → IsSoundAct net m row act → amount_of (source_of act) ≤ 255
  amount_small m row (acts.Emit w None) kept s = omega arith
  amount_small m row (acts.Emit w (Some (sources.Value v))) kept s = omega arith
  amount_small m row (acts.Emit w (Some (sources.Input x))) kept s = omega arith
  amount_small m row (acts.Emit w (Some (sources.Add x n))) kept s =
      absurd (true≢false (sym (holds false x.at s.name)))
  amount_small m row (acts.Set w (sources.Value v)) kept s = omega arith
  amount_small m row (acts.Set w (sources.Input x)) kept s = omega arith
  amount_small m row (acts.Set w (sources.Add x n)) kept s =
      omega (
        arith,
        ltb-true n.number (count_at net (state_domain m w.name))
            (holds (nat_lt n.number (count_at net (state_domain m w.name))) n.at s.amount),
        few_in w.name m.states kept.domains,
      )
