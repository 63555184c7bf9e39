-- Which rows of a machine of a ring are enabled on which snapshots.
use Rattle.std.proofs.Common.{◌⊎◌, ◌≡◌, ℕ, zero, suc, ◌+◌, ◌-◌, ◌*◌, ◌^◌, ◌<◌, ◌==◌, ◌&&◌, nat_lt, true, false, List, [], ◌∷◌, ◌++◌, map, Option, Some, None, IsTrue, refl, sym, ap, ◌∙◌, subst, arith, inl, inr}
use Rattle.std.specs.Prelude.{slice_get, option_map}
use Rattle.std.specs.List.{list_all}
use Rattle.std.specs.Int.{bit_at}
use Rattle.std.proofs.lemmas.Bool.{false≢true, and_parts, cases_eq, cases_lt, ltb-true}
use Rattle.std.proofs.lemmas.Option.{none-some, same_Some, slice_get-map, slice_get_past}
use Rattle.std.proofs.lemmas.Nat.Bits.{bit_at-pow_other}
use Rattle.polis_base.specs.Lists.{upto}
use Rattle.domains.specs.Tables.{fits}
use Rattle.transition_table.specs.samples.Parts.{gives}
use Rattle.transition_table.specs.Transitions.{reading, IsDeterministic, actions, allows, holds, is_enabled, result}
use Rattle.transition_table.specs.declared.row.Act.{Act}
use Rattle.transition_table.specs.declared.row.Row.{Row}
use Rattle.transition_table.specs.declared.machine.Machine.{Machine}
use Rattle.polis_base.specs.Draws.{after, draw}
use Rattle.net_gen.specs.Demos.{Parts, parts_of, last_parts, tick_parts_at, value_parts_at, rows_parts, IsDemoMachine}
use Rattle.net_gen.proofs.DeclarationRules.{draw_below}
use Rattle.polis_base.proofs.Places.{get_left, get_right}
use Rattle.polis_base.proofs.UptoPlaces.{get_map_upto}

-- ---- the rows by their numbers

-- what holds of each kind of rows holds of each row
each_parts : (z : ℕ) (P : ℕ → Parts → Type 0)
    → ((v : ℕ) → v < 8 → P v (tick_parts_at z v))
    → ((k : ℕ) → k < 7 → P (8 + k) (value_parts_at (after z 16) k))
    → P 15 (last_parts (draw (after z 23) 8))
    → (r : ℕ) (p : Parts) → slice_get (rows_parts z) r ≡ Some p → P r p
unfolding rows_parts
each_parts z P ticks values last r p at =
    let A : List Parts = map (tick_parts_at z) (upto 8) in
    let B : List Parts = map (value_parts_at (after z 16)) (upto 7) in
    let C : List Parts = last_parts (draw (after z 23) 8) ∷ [] in
    elim (cases_lt r 8) [
      | inl small ↦
          let found : slice_get (A ++ B ++ C) r ≡ Some (tick_parts_at z r) =
          get_left A (B ++ C) r small ∙ get_map_upto (tick_parts_at z) 8 r small in
          subst (P r) (same_Some (tick_parts_at z r) p (sym found ∙ at)) (ticks r small)
      | inr large ↦ elim (cases_lt r 15) [
        | inl middle ↦
            let k : ℕ = r - 8 in
            let small : k < 7 = omega arith in
            let is : r ≡ 8 + k = omega arith in
            let found : slice_get (A ++ B ++ C) (8 + k) ≡ Some (value_parts_at (after z 16) k) =
            get_right A (B ++ C) k
            ∙ get_left B C k small
            ∙ get_map_upto (value_parts_at (after z 16)) 7 k small in
            let here : slice_get (A ++ B ++ C) (8 + k) ≡ Some p =
            ap (slice_get (A ++ B ++ C)) (sym is) ∙ at in
            subst (λ i. P i p) (sym is)
            (subst (P (8 + k)) (same_Some (value_parts_at (after z 16) k) p (sym found ∙ here))
            (values k small))
        | inr end ↦ elim (cases_eq r 15) [
          | inl same ↦
              let found : slice_get (A ++ B ++ C) 15 ≡ Some (last_parts (draw (after z 23) 8)) =
              refl in
              let here : slice_get (A ++ B ++ C) 15 ≡ Some p =
              ap (slice_get (A ++ B ++ C)) (sym same) ∙ at in
              subst (λ i. P i p) (sym same)
              (subst (P 15) (same_Some (last_parts (draw (after z 23) 8)) p (sym found ∙ here))
              last)
          | inr other ↦
              absurd (none-some p (sym (slice_get_past (A ++ B ++ C) r (omega arith)) ∙ at))
        ]
      ]
    ]

-- ---- what an enabled row says

-- the row for a tick alone
pub record OnTick (r t e s : ℕ) (acts : List Act) : Type 0 where
  pub a : ℕ
  pub b : ℕ
  pub small : b < 8
  pub number : s ≡ r
  pub row : r < 8
  pub tick : t ≡ 1
  pub alone : e ≡ 0
  pub gives_these : acts ≡ gives 1 (1 + a) ∷ gives 2 (1 + b) ∷ []

-- the row for the value k + 1
pub record OnValue (r t e s : ℕ) (acts : List Act) : Type 0 where
  pub a : ℕ
  pub k : ℕ
  pub number : r ≡ 8 + k
  pub value : e ≡ k + 2
  pub gives_these : acts ≡ gives 1 (1 + a) ∷ gives 2 (1 + k) ∷ []

-- the row for the value 0
pub record OnLast (r t e s : ℕ) (acts : List Act) : Type 0 where
  pub a : ℕ
  pub number : r ≡ 15
  pub value : e ≡ 1
  pub gives_these : acts ≡ gives 1 (1 + a) ∷ gives 3 1 ∷ []

abbrev pub Fires : ℕ → ℕ → ℕ → ℕ → List Act → Type 0
Fires r t e s acts = OnTick r t e s acts ⊎ OnValue r t e s acts ⊎ OnLast r t e s acts

-- the only bit of a power of 2
only_bit : (k i : ℕ) → (bit_at (2 ^ k) i == 1) ≡ true → i ≡ k
only_bit k i set =
    elim (cases_eq i k) [
      | inl same ↦ same
      | inr other ↦
          absurd (false≢true (sym (ap (λ b. b == 1) (bit_at-pow_other k i other)) ∙ set))
    ]

parts_fire : (z r t e s : ℕ) (p : Parts) → slice_get (rows_parts z) r ≡ Some p
    → list_all (allows (t ∷ e ∷ s ∷ [])) p.0 ≡ true → Fires r t e s p.1
parts_fire z r t e s p at =
    each_parts z (λ i q. list_all (allows (t ∷ e ∷ s ∷ [])) q.0 ≡ true → Fires i t e s q.1)
    on_tick on_value on_last r p at
  where
    on_tick : (v : ℕ) → v < 8
        → list_all (allows (t ∷ e ∷ s ∷ [])) (tick_parts_at z v).0 ≡ true
        → Fires v t e s (tick_parts_at z v).1
    on_tick v small all =
        let first = and_parts (bit_at 2 t == 1)
        ((bit_at 1 e == 1) && ((bit_at (2 ^ v) s == 1) && true)) all in
        let second = and_parts (bit_at 1 e == 1) ((bit_at (2 ^ v) s == 1) && true) first.1 in
        let third = and_parts (bit_at (2 ^ v) s == 1) true second.1 in
        inl (record {
          a = draw (after z (2 * v)) 8;
          b = draw (after z (2 * v + 1)) 8;
          small = draw_below _ 8 (omega arith);
          number = only_bit v s third.0;
          row = small;
          tick = only_bit 1 t first.0;
          alone = only_bit 0 e second.0;
          gives_these = refl;
        })

    on_value : (k : ℕ) → k < 7
        → list_all (allows (t ∷ e ∷ s ∷ [])) (value_parts_at (after z 16) k).0 ≡ true
        → Fires (8 + k) t e s (value_parts_at (after z 16) k).1
    on_value k small all =
        let first = and_parts (bit_at (2 ^ (k + 2)) e == 1) true all in
        inr (inl (record {
          a = draw (after (after z 16) k) 8;
          k = k;
          number = refl;
          value = only_bit (k + 2) e first.0;
          gives_these = refl;
        }))

    on_last : list_all (allows (t ∷ e ∷ s ∷ [])) (last_parts (draw (after z 23) 8)).0 ≡ true
        → Fires 15 t e s (last_parts (draw (after z 23) 8)).1
    on_last all =
        let first = and_parts (bit_at 2 e == 1) true all in
        inr (inr (record {
          a = draw (after z 23) 8;
          number = refl;
          value = only_bit 1 e first.0;
          gives_these = refl;
        }))

pub enabled_fires : (n i x : ℕ) (machine : Machine) → IsDemoMachine n i x machine
    → (r t e s : ℕ) → is_enabled machine r (reading (t ∷ e ∷ s ∷ [])) ≡ true
    → Fires r t e s (actions (slice_get machine.rows r))
enabled_fires n i x machine is r t e s enabled = by (slice_get machine.rows r) refl enabled
  where
    by : (o : Option Row) → slice_get machine.rows r ≡ o → holds (t ∷ e ∷ s ∷ []) o ≡ true
        → Fires r t e s (actions o)
    by None at all = absurd (false≢true all)
    by (Some row) at all =
        parts_fire (after x 1) r t e s (parts_of row)
        (ap (λ l. slice_get l r) (sym is.rows)
        ∙ slice_get-map parts_of machine.rows r
        ∙ ap (option_map parts_of) at)
        all

-- ---- determinism

-- the number of the row that is enabled where one is
abbrev row_of : ℕ → ℕ → ℕ
row_of zero s = s
row_of (suc zero) s = 15
row_of (suc (suc k)) s = 8 + k

number_is : (r t e s : ℕ) (acts : List Act) → Fires r t e s acts → r ≡ row_of e s
number_is r t e s acts (inl f) = sym f.number ∙ ap (λ (c : ℕ). row_of c s) (sym f.alone)
number_is r t e s acts (inr (inl f)) =
    f.number
    ∙ ap (λ (c : ℕ). row_of c s)
    (let value = f.value in let e : suc (suc f.k) ≡ e = omega arith in e)
number_is r t e s acts (inr (inr f)) = f.number ∙ ap (λ (c : ℕ). row_of c s) (sym f.value)

pub three_codes : (P : List ℕ → Type 0)
    → ((t e s : ℕ) → t < 2 → e < 9 → s < 8 → P (t ∷ e ∷ s ∷ []))
    → (codes : List ℕ) → IsTrue (fits (2 ∷ 9 ∷ 8 ∷ []) codes) → P codes
three_codes P h [] fit = absurd (false≢true fit)
three_codes P h (t ∷ []) fit = absurd (false≢true (and_parts (nat_lt t 2) false fit).1)
three_codes P h (t ∷ e ∷ []) fit =
    let rest = and_parts (nat_lt t 2) (nat_lt e 9 && false) fit in
    absurd (false≢true (and_parts (nat_lt e 9) false rest.1).1)
three_codes P h (t ∷ e ∷ s ∷ []) fit =
    let first = and_parts (nat_lt t 2) (nat_lt e 9 && (nat_lt s 8 && true)) fit in
    let second = and_parts (nat_lt e 9) (nat_lt s 8 && true) first.1 in
    let third = and_parts (nat_lt s 8) true second.1 in
    h t e s (ltb-true t 2 first.0) (ltb-true e 9 second.0) (ltb-true s 8 third.0)
three_codes P h (t ∷ e ∷ s ∷ u ∷ us) fit =
    let first = and_parts (nat_lt t 2) (nat_lt e 9 && (nat_lt s 8 && false)) fit in
    let second = and_parts (nat_lt e 9) (nat_lt s 8 && false) first.1 in
    absurd (false≢true (and_parts (nat_lt s 8) false second.1).1)

pub deterministic : (n i x : ℕ) (machine : Machine) → IsDemoMachine n i x machine
    → IsDeterministic machine
deterministic n i x machine is a b s order fit first second =
    three_codes (λ codes. is_enabled machine a (reading codes) ≡ true
    → is_enabled machine b (reading codes) ≡ true
    → result machine a (reading codes) ≡ result machine b (reading codes))
    alone s.codes (subst (λ vars. IsTrue (fits vars s.codes)) is.vars fit) first second
  where
    alone : (t e v : ℕ) → t < 2 → e < 9 → v < 8
        → is_enabled machine a (reading (t ∷ e ∷ v ∷ [])) ≡ true
        → is_enabled machine b (reading (t ∷ e ∷ v ∷ [])) ≡ true
        → result machine a (reading (t ∷ e ∷ v ∷ []))
        ≡ result machine b (reading (t ∷ e ∷ v ∷ []))
    alone t e v small_t small_e small_v p q =
        let f = enabled_fires n i x machine is a t e v p in
        let g = enabled_fires n i x machine is b t e v q in
        let same : a ≡ b =
        number_is a t e v (actions (slice_get machine.rows a)) f
        ∙ sym (number_is b t e v (actions (slice_get machine.rows b)) g) in
        absurd (omega arith)
