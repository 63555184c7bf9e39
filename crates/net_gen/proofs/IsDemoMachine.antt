-- The machines of a ring, as they are in its network.
use Rattle.std.proofs.Common.{◌≡◌, ℕ, zero, suc, ◌+◌, ◌-◌, ◌*◌, ◌^◌, ◌<◌, ◌≤◌, ◌==◌, ◌&&◌, Bool, true, false, cond, List, [], ◌∷◌, ◌++◌, map, Some, None, refl, sym, ap, ◌∙◌, subst, arith, inl, inr}
use Rattle.std.specs.Prelude.{codes, decimal, slice_get, slice_index, unwrap_or, nat_le}
use Rattle.std.specs.List.{AllZip}
use Rattle.std.specs.Int.Bits.{or_zero_l}
use Rattle.std.proofs.lemmas.Bool.{le-leb, eq-eqb, ne_eqb, cases_eq}
use Rattle.std.proofs.lemmas.Option.{same_Some, slice_get_within}
use Rattle.std.proofs.lemmas.List.{map-append}
use Rattle.std.proofs.lemmas.Simd.{map-map}
use Rattle.polis_base.specs.Lists.{upto}
use Rattle.transition_table.specs.samples.Parts.{gives, has_codes}
use Rattle.transition_table.specs.declared.row.Row.{Row}
use Rattle.transition_table.specs.declared.row.Source.{Source}
use Rattle.transition_table.specs.declared.row.Source.TheVariants.{Code}
use Rattle.transition_table.specs.declared.machine.Machine.{Machine}
use Rattle.transition_table.specs.declared.network.Network.{Network}
use Rattle.net_reader.specs.declared.raw.RawAct.TheVariants.{Emit}
use Rattle.net_reader.specs.declared.raw.RawCond.{RawCond}
use Rattle.net_reader.specs.declared.raw.RawCond.TheVariants.{Present, Absent, Is}
use Rattle.net_reader.specs.declared.raw.RawMachine.{RawMachine}
use Rattle.net_reader.specs.declared.raw.RawNet.{RawNet}
use Rattle.net_reader.specs.declared.raw.RawRow.{RawRow}
use Rattle.net_reader.specs.declared.raw.RawSource.TheVariants as sources
use Rattle.net_names.specs.Numbers.{number}
use Rattle.net_names.specs.Scopes.{cond_word, event_codes, event_domain, var_sizes, var_words}
use Rattle.net_rules.specs.Networks.{IsNetworkOf, IsMachineOf, IsRowOf, act_of, allows, bits_where, value_code, cond_of, emission_source, value_number}
use Rattle.polis_base.specs.Draws.{after, draw}
use Rattle.net_gen.specs.Events.{next_machine}
use Rattle.net_gen.specs.Networks.{word, value, tick, valued, output, is_state, set_state, emit_value, tick_row_at, value_row_at, last_row, rows, tick_rows, value_rows, machine, machine_at, ring, count, network}
use Rattle.net_gen.specs.Demos.{Parts, parts_of, last_parts, tick_parts_at, value_parts_at, rows_parts, IsDemoMachine, SeedsHaveMachines}
use Rattle.net_gen.proofs.DeclarationRules.{draw_below}
use Rattle.net_gen.proofs.PortRules.{domain_valued, tick_pure, output_pure}
use Rattle.net_gen.proofs.HasDemoEvents.{machine_of, machine_count, next_below, tick_number, valued_number, output_number}
use Rattle.domains.proofs.Names.{same_self}

-- ---- sets of one code

no_bits : (k n : ℕ) → n ≤ k → bits_where (λ code. code == k) n ≡ 0
no_bits k zero few = refl
no_bits k (suc n) few =
    let other : (n == k) ≡ false = ne_eqb n k (λ e. let same = e in omega arith) in
    rw other (no_bits k n (omega arith))

one_bit : (k n : ℕ) → k < n → bits_where (λ code. code == k) n ≡ 2 ^ k
one_bit k zero below = absurd (omega arith)
one_bit k (suc n) below =
    elim (cases_eq n k) [
      | inl same ↦
          let here : (n == k) ≡ true = eq-eqb n k same in
          let before : bits_where (λ code. code == k) n ≡ 0 = no_bits k n (omega arith) in
          rw (here, before) (or_zero_l (2 ^ n) ∙ ap (λ (i : ℕ). 2 ^ i) same)
      | inr other ↦
          let apart : (n == k) ≡ false = ne_eqb n k other in
          rw apart (one_bit k n (omega arith))
    ]

-- ---- numbers and domains

value_is : (n x v : ℕ) → v < 8 → value_number (ring n x) (Some (word (codes "d"))) (value v) ≡ v
value_is n x v small =
    shown (nat_le 0 v) (nat_le v 7) (le-leb 0 v (omega arith)) (le-leb v 7 (omega arith))
    ∙ (let e : v - 0 ≡ v = omega arith in e)
  where
    shown : (a b : Bool) → a ≡ true → b ≡ true
        → unwrap_or (cond (a && b) (Some (v - 0)) None) 0 ≡ v - 0
    shown a b p q = rw (p, q) refl

-- machine i of a ring of n, whose values go to machine j
module _ (n x i j y : ℕ) (few : n ≤ 48) (below : i < n) (next : j < n) where
  abbrev net : RawNet
  net = ring n x

  abbrev own : RawMachine
  own = machine i j y

  domain_own : event_domain net (valued i).name ≡ Some (word (codes "d"))
  domain_own = domain_valued n x i below few

  domain_next : event_domain net (valued j).name ≡ Some (word (codes "d"))
  domain_next = domain_valued n x j next few

  pub sizes : var_sizes net own ≡ 2 ∷ 9 ∷ 8 ∷ []
  sizes = rw (tick_pure i (upto n), domain_own) refl

  pub sent_sizes : map (event_codes net) own.outputs ≡ 9 ∷ 2 ∷ []
  sent_sizes = rw (domain_next, output_pure i (upto n)) refl

  tick_var : number (var_words own) (tick i).name ≡ 0
  tick_var = rw (same_self (decimal i)) refl

  valued_var : number (var_words own) (valued i).name ≡ 1
  valued_var = rw (same_self (decimal i)) refl

  state_code : (v : ℕ) → v < 8 → value_code net own (codes "s") (value v) ≡ v
  state_code v small =
      ap (λ (k : ℕ). 0 + k) (value_is n x v small) ∙ (let e : 0 + v ≡ v = omega arith in e)

  valued_code : (v : ℕ) → v < 8 → value_code net own (valued i).name (value v) ≡ 1 + v
  valued_code v small =
      ap (λ o. 1 + value_number net o (value v)) domain_own
      ∙ ap (λ (k : ℕ). 1 + k) (value_is n x v small)

  condition : (c : RawCond) (var size set : ℕ) → number (var_words own) (cond_word c).name ≡ var
      → slice_index (2 ∷ 9 ∷ 8 ∷ []) var ≡ size → bits_where (allows net own c) size ≡ set
      → cond_of net own c ≡ has_codes var set
  condition c var size set var_is size_is set_is =
      ap (λ (v : ℕ). has_codes v
      (bits_where (allows net own c) (slice_index (var_sizes net own) v))) var_is
      ∙ ap (λ (l : List ℕ). has_codes var (bits_where (allows net own c) (slice_index l var))) sizes
      ∙ ap (λ (k : ℕ). has_codes var (bits_where (allows net own c) k)) size_is
      ∙ ap (has_codes var) set_is

  present : cond_of net own (Present (tick i)) ≡ has_codes 0 2
  present = condition (Present (tick i)) 0 2 2 tick_var refl (or_zero_l 2)

  absent : cond_of net own (Absent (valued i)) ≡ has_codes 1 1
  absent = condition (Absent (valued i)) 1 9 1 valued_var refl (one_bit 0 9 (omega arith))

  in_state : (v : ℕ) → v < 8 → cond_of net own (is_state v) ≡ has_codes 2 (2 ^ v)
  in_state v small =
      condition (is_state v) 2 8 (2 ^ v) refl refl
      (ap (λ (k : ℕ). bits_where (λ code. code == k) 8) (state_code v small) ∙ one_bit v 8 small)

  with_value : (v : ℕ) → v < 8
      → cond_of net own (Is (valued i) (value v)) ≡ has_codes 1 (2 ^ (1 + v))
  with_value v small =
      condition (Is (valued i) (value v)) 1 9 (2 ^ (1 + v)) valued_var refl
      (ap (λ (k : ℕ). bits_where (λ code. code == k) 9) (valued_code v small)
      ∙ one_bit (1 + v) 9 (omega arith))

  sets : (a : ℕ) → a < 8 → act_of net own (set_state a) ≡ gives 1 (1 + a)
  sets a small = ap (λ (k : ℕ). gives 1 (1 + k)) (value_is n x a small)

  sends : (b : ℕ) → b < 8 → act_of net own (emit_value (valued j) b) ≡ gives 2 (1 + b)
  sends b small =
      let at : number own.outputs (valued j).name ≡ 0 = rw (same_self (decimal j)) refl in
      let source : Source = emission_source net own (event_domain net (valued j).name)
      (Some (sources.Value (value b))) in
      let code : source ≡ Code (1 + b) =
      ap (λ o. Code (1 + value_number net o (value b))) domain_next
      ∙ ap (λ (k : ℕ). Code (1 + k)) (value_is n x b small) in
      ap (λ (k : ℕ). record { result = 1 + 1 + k; source = source }) at
      ∙ ap (λ (s : Source). record { result = 2; source = s }) code

  tells : act_of net own (Emit (output i) None) ≡ gives 3 1
  tells =
      let at : number own.outputs (output i).name ≡ 1 = rw (same_self (decimal i)) refl in
      ap (λ (k : ℕ). gives (1 + 1 + k) 1) at

  abbrev made : RawRow → Parts
  made raw = (map (cond_of net own) raw.conds, map (act_of net own) raw.acts)

  tick_made : (z v : ℕ) → v < 8 → made (tick_row_at i j z v) ≡ tick_parts_at z v
  tick_made z v small =
      let a : ℕ = draw (after z (2 * v)) 8 in
      let b : ℕ = draw (after z (2 * v + 1)) 8 in
      let p = present in
      let q = absent in
      let r = in_state v small in
      let s = sets a (draw_below _ 8 (omega arith)) in
      let t = sends b (draw_below _ 8 (omega arith)) in
      λ k. (p k ∷ q k ∷ r k ∷ [], s k ∷ t k ∷ [])

  value_made : (z k : ℕ) → k < 7 → made (value_row_at i j z k) ≡ value_parts_at z k
  value_made z k small =
      let a : ℕ = draw (after z k) 8 in
      let p : cond_of net own (Is (valued i) (value (k + 1))) ≡ has_codes 1 (2 ^ (k + 2)) =
      with_value (k + 1) (omega arith)
      ∙ ap (λ (e : ℕ). has_codes 1 (2 ^ e)) (let e : 1 + (k + 1) ≡ k + 2 = omega arith in e) in
      let s = sets a (draw_below _ 8 (omega arith)) in
      let t : act_of net own (emit_value (valued j) (k + 1 - 1)) ≡ gives 2 (1 + k) =
      sends (k + 1 - 1) (omega arith)
      ∙ ap (λ (b : ℕ). gives 2 (1 + b)) (let e : k + 1 - 1 ≡ k = omega arith in e) in
      λ h. (p h ∷ [], s h ∷ t h ∷ [])

  last_made : (a : ℕ) → a < 8 → made (last_row i a) ≡ last_parts a
  last_made a small =
      let p = with_value 0 (omega arith) in
      let s = sets a small in
      let t = tells in
      λ k. (p k ∷ [], s k ∷ t k ∷ [])

  made_rows : (raws : List RawRow) (made_of : List Row) → AllZip (IsRowOf net own) raws made_of
      → map parts_of made_of ≡ map made raws
  made_rows [] [] all = refl
  made_rows [] (r ∷ rs) all = absurd all
  made_rows (w ∷ ws) [] all = absurd all
  made_rows (w ∷ ws) (r ∷ rs) all =
      let rest = made_rows ws rs all.1 in
      λ k. (all.0.conds k, all.0.acts k) ∷ rest k

  same_map : {X : Type 0} (f g : ℕ → X) (m : ℕ) → ((k : ℕ) → k < m → f k ≡ g k)
      → map f (upto m) ≡ map g (upto m)
  same_map f g zero h = refl
  same_map {X} f g (suc m) h =
      map-append f (upto m) (m ∷ [])
      ∙ ap (λ (l : List X). l ++ f m ∷ []) (same_map f g m (λ k less. h k (omega arith)))
      ∙ ap (λ (y : X). map g (upto m) ++ y ∷ []) (h m (omega arith))
      ∙ sym (map-append g (upto m) (m ∷ []))

  pub parts_are : (z : ℕ) → map made (rows i j z) ≡ rows_parts z
  unfolding rows tick_rows value_rows rows_parts
  parts_are z =
      let A : List RawRow = map (tick_row_at i j z) (upto 8) in
      let B : List RawRow = map (value_row_at i j (after z 16)) (upto 7) in
      let C : List RawRow = last_row i (draw (after z 23) 8) ∷ [] in
      let first : map made A ≡ map (tick_parts_at z) (upto 8) =
      map-map made (tick_row_at i j z) (upto 8)
      ∙ same_map (λ v. made (tick_row_at i j z v)) (tick_parts_at z) 8 (tick_made z) in
      let second : map made B ≡ map (value_parts_at (after z 16)) (upto 7) =
      map-map made (value_row_at i j (after z 16)) (upto 7)
      ∙ same_map (λ k. made (value_row_at i j (after z 16) k)) (value_parts_at (after z 16)) 7
      (value_made (after z 16)) in
      let third : map made C ≡ last_parts (draw (after z 23) 8) ∷ [] =
      ap (λ (p : Parts). p ∷ []) (last_made (draw (after z 23) 8) (draw_below _ 8 (omega arith))) in
      map-append made A (B ++ C)
      ∙ ap (λ (l : List Parts). map made A ++ l) (map-append made B C)
      ∙ (λ k. first k ++ second k ++ third k)

-- ---- together

demo_machine : (n x i : ℕ) (m : Machine) → n ≤ 48 → i < n
    → IsMachineOf (ring n x) (machine_at n x i) m
    → IsDemoMachine n i (after x (25 * i)) m
demo_machine n x i m few below is =
    let j : ℕ = next_machine n i in
    let y : ℕ = after x (25 * i) in
    let next : j < n = next_below n i (omega arith) in
    record {
      name = is.name;
      priority = is.priority;
      inputs = is.inputs ∙ rw (tick_number n x i below few, valued_number n x i below few) refl;
      outputs = is.outputs ∙ rw (valued_number n x j next few, output_number n x i below few) refl;
      states = is.states;
      vars = is.vars ∙ sizes n x i j y few below next;
      results = is.results
          ∙ ap (λ (l : List ℕ). 2 ∷ 9 ∷ l) (sent_sizes n x i j y few below next);
      rows = made_rows n x i j y few below next (rows i j (after y 1)) m.rows is.rows
          ∙ parts_are n x i j y few below next (after y 1);
    }

pub demo_machines : (n x : ℕ) (net : Network) (i : ℕ) (m : Machine) → n ≤ 48
    → IsNetworkOf (ring n x) net → slice_get net.machines i ≡ Some m
    → IsDemoMachine n i (after x (25 * i)) m
demo_machines n x net i m few is at =
    let below : i < n =
    let within = slice_get_within net.machines i m at in
    let long = machine_count n x net is in omega arith in
    let found = machine_of n x net is i below in
    let same : found.0 ≡ m = same_Some found.0 m (sym found.1 ∙ at) in
    demo_machine n x i m few below
    (subst (IsMachineOf (ring n x) (machine_at n x i)) same found.2)

pub seeds_have_machines : SeedsHaveMachines
unfolding network
seeds_have_machines seed net i m is at =
    demo_machines (count seed) (after seed 1) net i m
    (let h = draw_below seed 25 (omega arith) in omega arith) is at
