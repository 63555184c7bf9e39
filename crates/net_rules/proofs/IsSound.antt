-- Where no rule is broken, the declarations keep what the rules ask.
use Rattle.std.proofs.Common.{◌≡◌, ◌∙◌, ◌≤◌, ℕ, zero, suc, Bool, true, ◌&&◌, nat_le, List, [], ◌∷◌, ◌++◌, map, flat_map, option_to_list, Option, Some, None, is_some, subst, ap, sym, true≢false, refl, arith, slice_get}
use Rattle.std.specs.Bool.{⊤}
use Rattle.std.specs.List.{list_all}
use Rattle.std.proofs.lemmas.Grind.{flat_map-append}
use Rattle.domains.specs.Tables.{product}
use Rattle.net_reader.specs.declared.raw.Word.{Word}
use Rattle.net_reader.specs.declared.raw.RawShape.{RawShape}
use Rattle.net_reader.specs.declared.raw.RawShape.TheVariants as shapes
use Rattle.net_reader.specs.declared.raw.RawDomain.{RawDomain}
use Rattle.net_reader.specs.declared.raw.RawEvent.{RawEvent}
use Rattle.net_reader.specs.declared.raw.RawState.{RawState}
use Rattle.net_reader.specs.declared.raw.RawCond.{RawCond}
use Rattle.net_reader.specs.declared.raw.RawAct.{RawAct}
use Rattle.net_reader.specs.declared.raw.RawRow.{RawRow}
use Rattle.net_reader.specs.declared.raw.RawMachine.{RawMachine}
use Rattle.net_reader.specs.declared.raw.RawNet.{RawNet}
use Rattle.net_names.specs.Places.{unless, sooner, least_place}
use Rattle.net_names.specs.Numbers.{is_name_of, missing, repeated, no_name}
use Rattle.net_names.specs.Values.{count_of, no_value}
use Rattle.net_names.specs.Scopes.{domain_words, event_words, state_words, cond_word, shape_of, var_sizes}
use Rattle.rule_judge.specs.Rules.{disorder, is_small, emitted, set_names, not_once, wrong_act, no_input, not_shown, other_domain, other_name, too_much, in_acts}
use Rattle.rule_judge.specs.Judged.{Rule, rules, broken, broken_at, first_broken}
use Rattle.net_rules.specs.Sentence.{has_value}
use Rattle.net_rules.specs.inner.Sound.{Each, IsSound, has_count}
use Rattle.net_rules.proofs.HasReceivers.{first_nil, rest_nil, holds}
use Rattle.net_rules.proofs.Counts.{each_nil}
use Rattle.std.proofs.lemmas.Bool.{le-leb}
use Rattle.polis_base.proofs.Bools.{and_first, and_second}
use Rattle.polis_base.proofs.Places.{some_is}

-- none of the rules has a place
abbrev pub AllNil : List Rule → Type 0
AllNil [] = ⊤
AllNil (rule ∷ rest) = (rule.1 ≡ []) × AllNil rest

pub all_nil : (rs : List Rule) → first_broken rs ≡ None → AllNil rs
all_nil [] h = tt
all_nil (r ∷ rs) h = by r.1 refl h (all_nil rs)
  where
    some : (p : ℕ) (o : Option ℕ) → broken_at r.0 (sooner (Some p) o) (first_broken rs) ≡ None → ⊥
    some p None h = true≢false (ap is_some h)
    some p (Some q) h = true≢false (ap is_some h)

    by : (ps : List ℕ) → r.1 ≡ ps → broken_at r.0 (least_place ps) (first_broken rs) ≡ None
        → (first_broken rs ≡ None → AllNil rs) → (r.1 ≡ []) × AllNil rs
    by [] e h rest = (e, rest h)
    by (p ∷ ps) e h rest = absurd (some p (least_place ps) h)

-- an enumerated domain that has a value, or a range, has at least one
count_some : (shape : RawShape) → has_value shape ≡ true → 1 ≤ count_of shape
count_some (shapes.Names []) h = absurd (true≢false (sym h))
count_some (shapes.Names (w ∷ ws)) h = omega arith
count_some (shapes.Range first last) h = omega arith

counts_kept : (ds : List RawDomain)
    → flat_map (λ (d : RawDomain). unless (nat_le (count_of d.shape) 32) d.name.at) ds ≡ []
    → list_all (λ (d : RawDomain). has_value d.shape) ds ≡ true → list_all has_count ds ≡ true
counts_kept [] few some = refl
counts_kept (d ∷ ds) few some =
    let less = holds (nat_le (count_of d.shape) 32) d.name.at
    (first_nil (unless (nat_le (count_of d.shape) 32) d.name.at)
    (flat_map (λ (d : RawDomain). unless (nat_le (count_of d.shape) 32) d.name.at) ds) few) in
    let more = le-leb 1 (count_of d.shape)
    (count_some d.shape
    (and_first (has_value d.shape) (list_all (λ (d : RawDomain). has_value d.shape) ds)
    some)) in
    let rest = counts_kept ds
    (rest_nil (unless (nat_le (count_of d.shape) 32) d.name.at)
    (flat_map (λ (d : RawDomain). unless (nat_le (count_of d.shape) 32) d.name.at) ds) few)
    (and_second (has_value d.shape) (list_all (λ (d : RawDomain). has_value d.shape) ds)
    some) in
    λ i. (more i && less i) && rest i

pub split_missing : (declared : List ℕ → Bool) (xs ys : List Word)
    → missing declared (xs ++ ys) ≡ [] → missing declared xs ++ missing declared ys ≡ []
split_missing declared xs ys h =
    sym (flat_map-append (λ (word : Word). unless (declared word.name) word.at) xs ys) ∙ h

pub each_missing : {X : Type 0} (declared : List ℕ → Bool) (f : X → List Word) (xs : List X)
    → missing declared (flat_map f xs) ≡ [] → Each (λ x. missing declared (f x) ≡ []) xs
each_missing declared f [] none i x at = absurd (true≢false (sym (ap is_some at)))
each_missing declared f (y ∷ xs) none zero x at =
    subst (λ z. missing declared (f z) ≡ []) (some_is y x at)
    (first_nil (missing declared (f y)) (missing declared (flat_map f xs))
    (split_missing declared (f y) (flat_map f xs) none))
each_missing declared f (y ∷ xs) none (suc i) x at =
    each_missing declared f xs
    (rest_nil (missing declared (f y)) (missing declared (flat_map f xs))
    (split_missing declared (f y) (flat_map f xs) none)) i x at

-- a rule on actions that is broken nowhere is kept by each of them
in_each_act : (net : RawNet) (m : RawMachine) (row : RawRow) (act : RawAct) (i j k : ℕ)
    → slice_get net.machines i ≡ Some m → slice_get m.rows j ≡ Some row
    → slice_get row.acts k ≡ Some act
    → (f : RawMachine → RawRow → RawAct → List ℕ) → in_acts f net ≡ [] → f m row act ≡ []
in_each_act net m row act i j k at there here f none =
    each_nil (f m row) row.acts
    (each_nil (λ (row : RawRow). flat_map (f m row) row.acts) m.rows
    (each_nil (λ (m : RawMachine). flat_map (λ (row : RawRow). flat_map (f m row) row.acts) m.rows)
    net.machines none i m at) j row there) k act here

pub sound : (net : RawNet) → broken net ≡ None
    → list_all (λ (d : RawDomain). has_value d.shape) net.domains ≡ true → IsSound net
sound net none values =
    let a = (all_nil (rules net) none).1 in
    let b = a.1.1.1 in
    let c = b.1.1.1.1 in
    let d = c.1.1.1.1.1 in
    let used = split_missing (is_name_of (domain_words net))
    (flat_map (λ (e : RawEvent). option_to_list e.domain) net.events)
    (flat_map (λ (m : RawMachine). map (λ (s : RawState). s.domain) m.states) net.machines)
    b.1.0 in
    let D = is_name_of (domain_words net) in
    record {
      few = a.0;
      names = a.1.0;
      order = each_nil (λ (d : RawDomain). disorder d.shape) net.domains a.1.1.0;
      counts = counts_kept net.domains b.0 values;
      events = first_nil
          (missing D (flat_map (λ (e : RawEvent). option_to_list e.domain) net.events))
          (missing D (flat_map (λ (m : RawMachine). map (λ (s : RawState). s.domain) m.states)
          net.machines)) used;
      ports = b.1.1.0;
      senders = c.1.1.0;
      machines = λ i m at. record {
        ports = each_nil
            (λ (m : RawMachine). missing (is_name_of (event_words net)) (m.inputs ++ m.outputs))
            net.machines b.1.1.0 i m at;
        once = each_nil (λ (m : RawMachine). repeated no_name m.inputs ++ repeated no_name m.outputs
            ++ repeated (is_name_of (m.inputs ++ m.outputs)) (state_words m)) net.machines
            b.1.1.1.0 i m at;
        small = holds (is_small m) m.name.at
            (each_nil (λ (m : RawMachine). unless (is_small m) m.name.at) net.machines c.0 i m at);
        priority = holds (nat_le m.priority.number 255) m.priority.at
            (each_nil (λ (m : RawMachine). unless (nat_le m.priority.number 255) m.priority.at)
            net.machines c.1.0 i m at);
        domains = each_missing D (λ (m : RawMachine). map (λ (s : RawState). s.domain) m.states)
            net.machines (rest_nil
            (missing D (flat_map (λ (e : RawEvent). option_to_list e.domain) net.events))
            (missing D (flat_map (λ (m : RawMachine). map (λ (s : RawState). s.domain) m.states)
            net.machines)) used) i m at;
        inits = each_nil
            (λ (m : RawMachine). flat_map
            (λ (s : RawState). no_value (shape_of net s.domain.name) s.init) m.states) net.machines
            d.0 i m at;
        rows = λ j row there. record {
          known = each_nil
              (λ (row : RawRow). flat_map
              (λ (c : RawCond). unless (is_name_of (m.inputs ++ state_words m) (cond_word c).name)
              (cond_word c).at) row.conds) m.rows
              (each_nil (λ (m : RawMachine). flat_map
              (λ (row : RawRow). flat_map
              (λ (c : RawCond). unless
              (is_name_of (m.inputs ++ state_words m) (cond_word c).name) (cond_word c).at)
              row.conds) m.rows) net.machines d.1.0 i m at) j row there;
          targets = each_nil (λ (row : RawRow). not_once m.outputs (flat_map emitted row.acts)
              ++ not_once (state_words m) (flat_map set_names row.acts)) m.rows
              (each_nil (λ (m : RawMachine). flat_map
              (λ (row : RawRow). not_once m.outputs (flat_map emitted row.acts)
              ++ not_once (state_words m) (flat_map set_names row.acts)) m.rows) net.machines
              d.1.1.1.1.0 i m at) j row there;
          acts = λ k act here.
              let e = d.1.1.1.1.1.1.1 in
              let six = in_each_act net m row act i j k at there here in
              record {
                value = six (wrong_act net) d.1.1.1.1.1.0;
                input = six (no_input net) e.0;
                shown = six (not_shown net) e.1.0;
                domain = six (other_domain net) e.1.1.0;
                name = six (other_name net) e.1.1.1.0;
                amount = six (too_much net) e.1.1.1.1.0;
              };
        };
        snapshots = holds (nat_le (product (var_sizes net m)) 65536) m.name.at
            (each_nil (λ (m : RawMachine). unless (nat_le (product (var_sizes net m)) 65536)
            m.name.at) net.machines d.1.1.1.1.1.1.0 i m at);
      };
    }
