-- Plain actions keep the rules on sources.
use Rattle.std.proofs.Common.{◌≡◌, ◌∙◌, ℕ, Bool, true, List, [], ◌∷◌, ◌++◌, flat_map, Option, Some, None, refl, ap, sym, true≢false}
use Rattle.std.specs.List.{list_all}
use Rattle.std.proofs.lemmas.Bool.{and_parts}
use Rattle.net_reader.specs.declared.raw.RawSource.{RawSource}
use Rattle.net_reader.specs.declared.raw.RawSource.TheVariants as sources
use Rattle.net_reader.specs.declared.raw.RawAct.{RawAct}
use Rattle.net_reader.specs.declared.raw.RawAct.TheVariants as acts
use Rattle.net_reader.specs.declared.raw.RawRow.{RawRow}
use Rattle.net_reader.specs.declared.raw.RawMachine.{RawMachine}
use Rattle.net_reader.specs.declared.raw.RawNet.{RawNet}
use Rattle.net_names.specs.Numbers.{no_name}
use Rattle.domains.specs.Names.{is_same}
use Rattle.rule_judge.specs.Rules.{source_of, is_valued, wrong_input, wrong_sum, not_below, in_acts, no_input, not_shown, other_domain, other_name, too_much}
use Rattle.rule_judge.specs.Plain.{is_written, is_plain}
use Rattle.rule_judge.specs.inner.Plain.{all_plain}
use Rattle.rule_judge.specs.Judged.{act_rules, first_broken}

flat_nil : {X : Type 0} (f : X → List ℕ) (test : X → Bool) → ((x : X) → test x ≡ true → f x ≡ [])
    → (xs : List X) → list_all test xs ≡ true → flat_map f xs ≡ []
flat_nil f test each [] h = refl
flat_nil f test each (x ∷ xs) h =
    let parts = and_parts (test x) (list_all test xs) h in
    ap (λ places. places ++ flat_map f xs) (each x parts.0) ∙ flat_nil f test each xs parts.1

in_acts_nil : (f : RawMachine → RawRow → RawAct → List ℕ)
    → ((m : RawMachine) (row : RawRow) (act : RawAct) → is_plain act ≡ true → f m row act ≡ [])
    → (net : RawNet) → all_plain net ≡ true → in_acts f net ≡ []
in_acts_nil f each net =
    flat_nil (λ (m : RawMachine). flat_map (λ (row : RawRow). flat_map (f m row) row.acts) m.rows)
    (λ (m : RawMachine). list_all (λ (row : RawRow). list_all is_plain row.acts) m.rows)
    (λ m. flat_nil (λ (row : RawRow). flat_map (f m row) row.acts)
    (λ (row : RawRow). list_all is_plain row.acts)
    (λ row. flat_nil (f m row) is_plain (each m row) row.acts) m.rows) net.machines

input_nil : (test : List ℕ → Bool) (source : Option RawSource) → is_written source ≡ true
    → wrong_input test source ≡ []
input_nil test None h = refl
input_nil test (Some (sources.Value value)) h = refl
input_nil test (Some (sources.Input w)) h = absurd (true≢false (sym h))
input_nil test (Some (sources.Add w number)) h = refl

sum_nil : (test : List ℕ → Bool) (source : Option RawSource) → is_written source ≡ true
    → wrong_sum test source ≡ []
sum_nil test None h = refl
sum_nil test (Some (sources.Value value)) h = refl
sum_nil test (Some (sources.Input w)) h = refl
sum_nil test (Some (sources.Add w number)) h = absurd (true≢false (sym h))

below_nil : (count : ℕ) (source : Option RawSource) → is_written source ≡ true
    → not_below count source ≡ []
below_nil count None h = refl
below_nil count (Some (sources.Value value)) h = refl
below_nil count (Some (sources.Input w)) h = refl
below_nil count (Some (sources.Add w number)) h = absurd (true≢false (sym h))

name_nil : (net : RawNet) (m : RawMachine) (row : RawRow) (act : RawAct) → is_plain act ≡ true
    → other_name net m row act ≡ []
name_nil net m row (acts.Emit w source) h = sum_nil no_name source h
name_nil net m row (acts.Set w source) h = sum_nil (λ name. is_same name w.name) (Some source) h

pub plain_keeps : (net : RawNet) → all_plain net ≡ true → None ≡ first_broken (act_rules net)
plain_keeps net all =
    let no_21 = in_acts_nil (no_input net)
    (λ m row act h. input_nil (is_valued net m) (source_of act) h) net all in
    let no_22 = in_acts_nil (not_shown net) (λ m row act h. input_nil _ (source_of act) h)
    net all in
    let no_23 = in_acts_nil (other_domain net) (λ m row act h. input_nil _ (source_of act) h)
    net all in
    let no_24 = in_acts_nil (other_name net) (name_nil net) net all in
    let no_25 = in_acts_nil (too_much net) (λ m row act h. below_nil _ (source_of act) h) net all in
    λ i. first_broken ((21, (sym no_21) i) ∷ (22, (sym no_22) i) ∷ (23, (sym no_23) i)
    ∷ (24, (sym no_24) i) ∷ (25, (sym no_25) i) ∷ [])
