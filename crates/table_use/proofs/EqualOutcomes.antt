-- Outcomes that are equal have one number.
use Rattle.std.proofs.Common.{◌≡◌, ⊎_elim, ℕ, ◌+◌, ◌<◌, Bool, true, false, eqb, List, [], ◌∷◌, ◌++◌, length, map, get_or, slice_get, slice_index, Some, refl, sym, ap, ◌∙◌, arith}
use Rattle.std.specs.Cmp.Lexicographic.{same_text}
use Rattle.std.proofs.lemmas.Bool.{cases_Bool, cases_lt, eq-eqb, eqb-true, false≢true}
use Rattle.std.proofs.lemmas.List.{get_or-map, length-map, length_push}
use Rattle.std.proofs.lemmas.Option.{get_or_from_slice_get, slice_get-get_or, slice_get_within}
use Rattle.polis_base.specs.Index.{Keyed, found}
use Rattle.domains.specs.AllCodes.{all_codes}
use Rattle.domains.specs.Names.{is_same}
use Rattle.domains.specs.Tables.{fits, rank}
use Rattle.domains.proofs.AllCodes.{counts_all}
use Rattle.domains.proofs.Names.{same_self}
use Rattle.outcome_table.specs.Outcomes.{AreResultsOf}
use Rattle.outcome_table.specs.declared.table.Results.{Results}
use Rattle.transition_table.specs.Computed.{result_codes}
use Rattle.transition_table.specs.declared.machine.Machine.{Machine}
use Rattle.table_use.specs.Keys.{AreKeys, strides_of}
use Rattle.table_use.specs.inner.Firsts.{AreFirsts, IsEntered, is_go}
use Rattle.table_use.specs.declared.keys.Keys.{Keys}
use Rattle.table_use.proofs.Looks.{go_fires, outcome_there, outcome_within}
use Rattle.table_use.proofs.Pushed.{before, last}
use Rattle.polis_base.proofs.Places.{some_is}

-- ---- one outcome more

-- the outcomes before place i
pub record AreFirstsBefore (outcomes : List (List ℕ)) (i : ℕ) (firsts : List ℕ)
    (known : Keyed) : Type 0 where
  pub long : length firsts ≡ i
  pub met : (k f : ℕ) → slice_get firsts k ≡ Some f → found known (get_or outcomes k []) ≡ Some f
  pub known_ones : (q : List ℕ) (f : ℕ) → found known q ≡ Some f
      → (f < i) × (get_or outcomes f [] ≡ q)

pub one_first : (outcomes : List (List ℕ)) (i f : ℕ) (codes : List ℕ) (firsts : List ℕ)
    (old new : Keyed) → AreFirstsBefore outcomes i firsts old
    → slice_get outcomes i ≡ Some codes → IsEntered codes i f old new
    → AreFirstsBefore outcomes (i + 1) (firsts ++ f ∷ []) new
one_first outcomes i f codes firsts old new are at is =
    let own : get_or outcomes i [] ≡ codes = get_or_from_slice_get outcomes i codes [] at in
    let size = are.long in
    record {
      long = length_push firsts f ∙ ap (λ (n : ℕ). n + 1) are.long;
      met = λ k g there. ⊎_elim
          (λ low. is.kept (get_or outcomes k []) g
          (are.met k g (sym (before firsts f k low) ∙ there)))
          (λ high.
          let within = slice_get_within (firsts ++ f ∷ []) k g there in
          let more = length_push firsts f in
          let end : k ≡ length firsts = omega arith in
          let number : f ≡ g = some_is f g (sym (last firsts f k end) ∙ there) in
          ap (λ (n : ℕ). found new (get_or outcomes n [])) (end ∙ size)
          ∙ ap (found new) own ∙ is.here ∙ ap (λ (n : ℕ). Some n) number)
          (cases_lt k (length firsts));
      known_ones = λ q g h. ⊎_elim
          (λ was.
          let there = are.known_ones q g was in
          let low = there.0 in
          (omega arith, there.1))
          (λ now.
          let number = now.1 in (
            omega arith,
            ap (λ (n : ℕ). get_or outcomes n []) (sym number) ∙ own ∙ now.0,
          ))
          (is.only q g h);
    }

pub all_firsts : (outcomes : List (List ℕ)) (i : ℕ) (firsts : List ℕ) (known : Keyed)
    → i ≡ length outcomes → AreFirstsBefore outcomes i firsts known → AreFirsts outcomes firsts
all_firsts outcomes i firsts known all are =
    record {
      long = are.long ∙ all;
      equal = λ k f at. (are.known_ones (get_or outcomes k []) f (are.met k f at)).1;
      one = λ j k f g at there same.
          some_is f g (sym (are.met j f at) ∙ ap (found known) same ∙ are.met k g there);
    }

-- ---- and so the keys are

outcome_is : (m : Machine) (r : Results) (s : List ℕ) (q : ℕ) → AreResultsOf m r
    → fits m.vars s ≡ true → slice_get r.numbers (rank m.vars s) ≡ Some q
    → get_or r.outcomes q [] ≡ result_codes m s
outcome_is m r s q table fit at =
    outcome_there m r s q (get_or r.outcomes q []) table fit at
    (slice_get-get_or r.outcomes q [] (outcome_within m r (rank m.vars s) q table at))

module _ (m : Machine) (r : Results) (keys : Keys) (table : AreResultsOf m r)
    (are : AreFirsts r.outcomes keys.firsts) (fires : keys.fires ≡ map is_go r.outcomes) where
  fires_long : length keys.fires ≡ length r.outcomes
  fires_long = ap (λ (l : List Bool). length l) fires ∙ length-map r.outcomes is_go

  first_at : (n k : ℕ) → slice_get r.numbers n ≡ Some k
      → slice_get keys.firsts k ≡ Some (slice_index keys.firsts k)
  first_at n k at =
      let low = outcome_within m r n k table at in
      let long = are.long in
      slice_get-get_or keys.firsts k 0 (omega arith)

  same_first : (s t : List ℕ) (j k : ℕ) → fits m.vars s ≡ true → fits m.vars t ≡ true
      → slice_get r.numbers (rank m.vars s) ≡ Some j
      → slice_get r.numbers (rank m.vars t) ≡ Some k
      → eqb (slice_index keys.firsts j) (slice_index keys.firsts k)
      ≡ is_same (result_codes m s) (result_codes m t)
  same_first s t j k fit fits_too at there =
      let f = slice_index keys.firsts j in
      let g = slice_index keys.firsts k in
      let one = first_at (rank m.vars s) j at in
      let two = first_at (rank m.vars t) k there in
      let here = outcome_is m r s j table fit at in
      let other = outcome_is m r t k table fits_too there in
      ⊎_elim
      (λ on.
      let outcome : result_codes m s ≡ result_codes m t =
      sym here ∙ sym (are.equal j f one)
      ∙ ap (λ (n : ℕ). get_or r.outcomes n []) (eqb-true f g on)
      ∙ are.equal k g two ∙ other in
      on ∙ sym (ap (is_same (result_codes m s)) (sym outcome)
      ∙ same_self (result_codes m s)))
      (λ off. off ∙ ⊎_elim
      (λ alike.
      let outcome : result_codes m s ≡ result_codes m t =
      same_text (result_codes m s) (result_codes m t) (sym alike) in
      absurd (false≢true (sym off
      ∙ eq-eqb f g (are.one j k f g one two (here ∙ outcome ∙ sym other)))))
      (λ apart. sym apart)
      (cases_Bool (is_same (result_codes m s) (result_codes m t))))
      (cases_Bool (eqb f g))

  pub keys_are : keys.strides ≡ strides_of m.vars → AreKeys m r keys
  keys_are strides =
      record {
        long = sym (length-map r.numbers (λ k. get_or r.outcomes k []))
            ∙ ap (λ (l : List (List ℕ)). length l) table.results
            ∙ length-map (all_codes m.vars) (result_codes m)
            ∙ counts_all m.vars;
        fires_within = λ n k at. let low = outcome_within m r n k table at in
            let long = fires_long in omega arith;
        firsts_within = λ n k at. let low = outcome_within m r n k table at in
            let long = are.long in omega arith;
        fires = λ s k fit at.
            ap (λ (l : List Bool). get_or l k false) fires
            ∙ get_or-map is_go r.outcomes k [] false
            (outcome_within m r (rank m.vars s) k table at)
            ∙ ap is_go (outcome_is m r s k table fit at)
            ∙ go_fires m s (result_codes m s) (slice_index (result_codes m s) 0) refl refl;
        same = same_first;
        strides = strides;
      }
