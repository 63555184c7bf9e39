-- The declarations of a ring break no rule: its rows, and all rules together.
use Rattle.std.proofs.Common.{◌≡◌, ℕ, ◌+◌, ◌-◌, ◌*◌, ◌%◌, ◌<◌, ◌≤◌, Bool, true, List, [], ◌∷◌, ◌++◌, flat_map, Some, None, refl, ap, ◌∙◌, arith}
use Rattle.std.specs.Prelude.{⊤, decimal, nat_le, is_some, ◌&&◌, if◌then◌else◌}
use Rattle.std.proofs.lemmas.Bool.{le-leb}
use Rattle.std.proofs.Math.Nat.{mod-lt}
use Rattle.polis_base.specs.Lists.{upto}
use Rattle.net_reader.specs.declared.raw.RawRow.{RawRow}
use Rattle.net_reader.specs.declared.raw.RawMachine.{RawMachine}
use Rattle.net_reader.specs.declared.raw.RawShape.TheVariants as shapes
use Rattle.net_names.specs.Places.{least_place}
use Rattle.net_names.specs.Scopes.{state_words}
use Rattle.net_names.specs.Values.{is_value}
use Rattle.rule_judge.specs.Judged.{Rule, broken_at, first_broken, rules, broken}
use Rattle.rule_judge.specs.Rules.{rule_15, rule_16, rule_17, rule_18, rule_19, rule_20, rule_21, rule_22, rule_23, rule_24, rule_25, unknown, unsuited, wrong_values, not_once, emitted, set_names, wrong_act, no_input, not_shown, other_domain, other_name, too_much}
use Rattle.polis_base.specs.Draws.{after, draw}
use Rattle.journals.proofs.InRow.{◌⨟◌}
use Rattle.net_gen.specs.Networks.{num, value, machine, ring, count, network}
use Rattle.net_gen.proofs.DeclarationRules.{each_machine, draw_below, keeps_1, keeps_2, keeps_3, keeps_4, keeps_5, keeps_7, keeps_8, keeps_9, keeps_10, keeps_14}
use Rattle.net_gen.proofs.PortRules.{each_row, domain_valued, tick_pure, output_pure, keeps_6, keeps_11, keeps_12, keeps_13}
use Rattle.domains.proofs.Names.{same_self}

-- a number below 8 is a value of the domain
in_range : (v : ℕ) → v < 8 → is_value (Some (shapes.Range (num 0) (num 7))) (value v) ≡ true
in_range v small =
    let low : nat_le 0 v ≡ true = le-leb 0 v (omega arith) in
    let high : nat_le v 7 ≡ true = le-leb v 7 (omega arith) in
    shown (nat_le 0 v) (nat_le v 7) (v - 0) low high
  where
    shown : (a b : Bool) (x : ℕ) → a ≡ true → b ≡ true
        → is_some (if a && b then Some x else None) ≡ true
    shown a b x p q = rw (p, q) refl

keeps_15 : (n x : ℕ) → rule_15 (ring n x) ≡ []
keeps_15 n x = each_machine _ n x (λ i below.
    let j : ℕ = (i + 1) % n in
    let y : ℕ = after x (25 * i) in
    each_row (λ (r : RawRow). flat_map (unknown (machine i j y)) r.conds) i j (after y 1)
    (λ v small. rw (same_self (decimal i)) refl)
    (λ k small. rw (same_self (decimal i)) refl)
    (rw (same_self (decimal i)) refl))

keeps_16 : (n x : ℕ) → n ≤ 48 → rule_16 (ring n x) ≡ []
keeps_16 n x few = each_machine _ n x (λ i below.
    let j : ℕ = (i + 1) % n in
    let y : ℕ = after x (25 * i) in
    let known = domain_valued n x i below few in
    each_row (λ (r : RawRow). flat_map (unsuited (ring n x) (machine i j y)) r.conds) i j
    (after y 1)
    (λ v small. rw (same_self (decimal i)) refl)
    (λ k small. rw known refl)
    (rw known refl))

keeps_17 : (n x : ℕ) → n ≤ 48 → rule_17 (ring n x) ≡ []
keeps_17 n x few = each_machine _ n x (λ i below.
    let j : ℕ = (i + 1) % n in
    let y : ℕ = after x (25 * i) in
    let known = domain_valued n x i below few in
    each_row (λ (r : RawRow). flat_map (wrong_values (ring n x) (machine i j y)) r.conds) i j
    (after y 1)
    (λ v small. rw (in_range v small) refl)
    (λ k small. rw (known, in_range (k + 1) (omega arith)) refl)
    (rw known refl))

keeps_18 : (n x : ℕ) → rule_18 (ring n x) ≡ []
keeps_18 n x = each_machine _ n x (λ i below.
    let j : ℕ = (i + 1) % n in
    let y : ℕ = after x (25 * i) in
    let m : RawMachine = machine i j y in
    each_row (λ (r : RawRow). not_once m.outputs (flat_map emitted r.acts)
    ++ not_once (state_words m) (flat_map set_names r.acts)) i j (after y 1)
    (λ v small. rw (same_self (decimal j)) refl)
    (λ k small. rw (same_self (decimal j)) refl)
    (rw (same_self (decimal i)) refl))

keeps_19 : (n x : ℕ) → n ≤ 48 → rule_19 (ring n x) ≡ []
keeps_19 n x few = each_machine _ n x (λ i below.
    let j : ℕ = (i + 1) % n in
    let y : ℕ = after x (25 * i) in
    let z : ℕ = after y 1 in
    let m : RawMachine = machine i j y in
    let known = domain_valued n x j (mod-lt (i + 1) (omega arith)) few in
    each_row (λ (r : RawRow). flat_map (wrong_act (ring n x) m r) r.acts) i j z
    (λ v small. rw (
      known,
      in_range (draw (after z (2 * v)) 8) (draw_below _ 8 (omega arith)),
      in_range (draw (after z (2 * v + 1)) 8) (draw_below _ 8 (omega arith)),
    ) refl)
    (λ k small. rw (
      known,
      in_range (draw (after (after z 16) k) 8) (draw_below _ 8 (omega arith)),
      in_range (k + 1 - 1) (omega arith),
    ) refl)
    (rw (
      output_pure i (upto n),
      in_range (draw (after z 23) 8)
          (draw_below _ 8 (omega arith)),
    ) refl))

keeps_20 : (n x : ℕ) → n ≤ 48 → rule_20 (ring n x) ≡ []
keeps_20 n x few = each_machine _ n x (λ i below.
    rw (tick_pure i (upto n), domain_valued n x i below few) refl)

keeps_21 : (n x : ℕ) → rule_21 (ring n x) ≡ []
keeps_21 n x = each_machine _ n x (λ i below.
    let j : ℕ = (i + 1) % n in
    let y : ℕ = after x (25 * i) in
    each_row (λ (r : RawRow). flat_map (no_input (ring n x) (machine i j y) r) r.acts) i j
    (after y 1) (λ v small. refl) (λ k small. refl) refl)

keeps_22 : (n x : ℕ) → rule_22 (ring n x) ≡ []
keeps_22 n x = each_machine _ n x (λ i below.
    let j : ℕ = (i + 1) % n in
    let y : ℕ = after x (25 * i) in
    each_row (λ (r : RawRow). flat_map (not_shown (ring n x) (machine i j y) r) r.acts) i j
    (after y 1) (λ v small. refl) (λ k small. refl) refl)

keeps_23 : (n x : ℕ) → rule_23 (ring n x) ≡ []
keeps_23 n x = each_machine _ n x (λ i below.
    let j : ℕ = (i + 1) % n in
    let y : ℕ = after x (25 * i) in
    each_row (λ (r : RawRow). flat_map (other_domain (ring n x) (machine i j y) r) r.acts) i j
    (after y 1) (λ v small. refl) (λ k small. refl) refl)

keeps_24 : (n x : ℕ) → rule_24 (ring n x) ≡ []
keeps_24 n x = each_machine _ n x (λ i below.
    let j : ℕ = (i + 1) % n in
    let y : ℕ = after x (25 * i) in
    each_row (λ (r : RawRow). flat_map (other_name (ring n x) (machine i j y) r) r.acts) i j
    (after y 1) (λ v small. refl) (λ k small. refl) refl)

keeps_25 : (n x : ℕ) → rule_25 (ring n x) ≡ []
keeps_25 n x = each_machine _ n x (λ i below.
    let j : ℕ = (i + 1) % n in
    let y : ℕ = after x (25 * i) in
    each_row (λ (r : RawRow). flat_map (too_much (ring n x) (machine i j y) r) r.acts) i j
    (after y 1) (λ v small. refl) (λ k small. refl) refl)

-- ---- all rules

-- each of the rules is broken nowhere
abbrev AllNone : List Rule → Type 0
AllNone [] = ⊤
AllNone (rule ∷ rest) = (rule.1 ≡ []) × AllNone rest

first_none : (list : List Rule) → AllNone list → first_broken list ≡ None
first_none [] h = refl
first_none (rule ∷ rest) h =
    ap (λ (ps : List ℕ). broken_at rule.0 (least_place ps) (first_broken rest)) h.0
    ∙ first_none rest h.1

none_broken : (n x : ℕ) → n ≤ 48 → broken (ring n x) ≡ None
none_broken n x few =
    first_none (rules (ring n x))
    (keeps_1 n x ⨟ keeps_2 n x few ⨟ keeps_3 n x few ⨟ keeps_4 n x ⨟ keeps_5 n x ⨟ keeps_6 n x
    ⨟ keeps_7 n x ⨟ keeps_8 n x ⨟ keeps_9 n x ⨟ keeps_10 n x ⨟ keeps_11 n x few ⨟ keeps_12 n x
    ⨟ keeps_13 n x ⨟ keeps_14 n x ⨟ keeps_15 n x ⨟ keeps_16 n x few ⨟ keeps_17 n x few
    ⨟ keeps_18 n x ⨟ keeps_19 n x few ⨟ keeps_20 n x few ⨟ keeps_21 n x ⨟ keeps_22 n x
    ⨟ keeps_23 n x ⨟ keeps_24 n x ⨟ keeps_25 n x ⨟ tt)

pub seeds_keep : (seed : ℕ) → broken (network seed) ≡ None
unfolding network
seeds_keep seed =
    none_broken (count seed) (after seed 1)
    (let h = draw_below seed 25 (omega arith) in omega arith)
