-- The chain of each sender's emissions, with one emission more or changed.
use Rattle.std.specs.Prelude.{◌≡◌, ◌≢◌, ℕ, ◌+◌, ◌-◌, ◌<◌, ◌≤◌, List, [], ◌∷◌, ◌++◌, length, get_or, set}
use Rattle.std.proofs.Common.{refl, sym, ap, ◌∙◌, subst, inl, inr, arith}
use Rattle.std.proofs.lemmas.List.{length-set, length_push, get_or-set_same, get_or-set_other, get_or_past, get_or_append_left, get_or-append_right}
use Rattle.std.proofs.lemmas.Bool.{cases_eq, cases_lt}
use Rattle.net_core.specs.declared.config.emissions.Emission.{Emission}
use Rattle.net_core.specs.Emissions.{nth, no_emission, no_place, IsChain}

-- the item at a place of a list in which one is another
pub at_set : (records : List Emission) (p i : ℕ) (new : Emission) (P : Emission → Type 0)
    → p < length records → (i ≡ p → P new) → (i ≢ p → P (nth records i))
    → P (nth (set records p new) i)
at_set records p i new P within here away =
    elim (cases_eq i p) [
      | inl is ↦ subst P
          (sym (ap (λ k. nth (set records p new) k) is
          ∙ get_or-set_same records p new no_emission within)) (here is)
      | inr other ↦ subst P (sym (get_or-set_other records p i new no_emission other)) (away other)
    ]

-- ---- one changed, but not in its sender or its next

pub chain_same : (records more : List Emission) (last : List ℕ) → length more ≡ length records
    → ((i : ℕ) → (nth more i).from ≡ (nth records i).from)
    → ((i : ℕ) → (nth more i).next ≡ (nth records i).next) → IsChain records last
    → IsChain more last
chain_same records more last size from next chain =
    let chained = chain.chained in
    record {
      chained = record {
        further = λ i within. let old = chained.further i (omega arith) in let same = next i in
            omega arith;
        same = λ i within inside.
            let step = next i in
            from (nth more i).next ∙ ap (λ k. (nth records k).from) step
            ∙ chained.same i (omega arith) (omega arith) ∙ sym (from i);
        none_between = λ i j within low high inside is.
            let step = next i in
            chained.none_between i j (omega arith) low (omega arith) (omega arith)
            (sym (from j) ∙ is ∙ from i);
      };
      few = let old = chain.few in omega arith;
      ends = λ i within past. let step = next i in step ∙ chain.ends i (omega arith) (omega arith);
      senders = λ i. let old = chain.senders i in let same = from i in omega arith;
      long = chain.long;
      own = λ s below. let old = chain.own s below in
          (let inside = old.0 in omega arith, from (get_or last s 0) ∙ old.1);
      none_after = λ s j below low inside is.
          chain.none_after s j below low (omega arith) (sym (from j) ∙ is);
    }

-- ---- one more

-- what is known of the emissions with another at the end, which the last of its sender names
pub record IsLinked (records more : List Emission) (p : ℕ) (r : Emission) : Type 0 where
  pub size : length more ≡ length records + 1
  pub there : nth more (length records) ≡ r
  pub from : (i : ℕ) → i < length records → (nth more i).from ≡ (nth records i).from
  pub left : (i : ℕ) → i < length records → (nth more i).left ≡ (nth records i).left
  pub named : (nth more p).next ≡ length records
  pub others : (i : ℕ) → i < length records → i ≢ p → (nth more i).next ≡ (nth records i).next
  pub nothing : (i : ℕ) → length records < i → nth more i ≡ no_emission

pub linked : (records : List Emission) (p : ℕ) (q r : Emission) → p < length records
    → q ≡ record (nth records p) { next = length records }
    → IsLinked records (set records p q ++ r ∷ []) p r
linked records p q r within is =
    let n = length records in
    let same = length-set records p q in
    let long = length_push (set records p q) r in
    let old : (i : ℕ) → i < n → nth (set records p q ++ r ∷ []) i ≡ nth (set records p q) i =
    λ i below. get_or_append_left (set records p q) (r ∷ []) no_emission i (omega arith) in
    let none : n - n ≡ 0 = omega arith in
    record {
      size = omega arith;
      there = get_or-append_right (set records p q) (r ∷ []) n n no_emission same (omega arith)
          ∙ ap (λ k. get_or (r ∷ []) k no_emission) none;
      from = λ i below. ap (λ (x : Emission). x.from) (old i below)
          ∙ at_set records p i q (λ x. x.from ≡ (nth records i).from) within
          (λ e. ap (λ (x : Emission). x.from) is ∙ ap (λ k. (nth records k).from) (sym e))
          (λ other. refl);
      left = λ i below. ap (λ (x : Emission). x.left) (old i below)
          ∙ at_set records p i q (λ x. x.left ≡ (nth records i).left) within
          (λ e. ap (λ (x : Emission). x.left) is ∙ ap (λ k. (nth records k).left) (sym e))
          (λ other. refl);
      named = ap (λ (x : Emission). x.next)
          (old p within ∙ get_or-set_same records p q no_emission within ∙ is);
      others = λ i below other. ap (λ (x : Emission). x.next)
          (old i below ∙ get_or-set_other records p i q no_emission other);
      nothing = λ i past. get_or_past (set records p q ++ r ∷ []) i no_emission (omega arith);
    }

-- of the sender's emissions only its last may have the new one next
none_past_last : (records : List Emission) (last : List ℕ) (s i : ℕ) → IsChain records last → s < 64
    → i < length records → i ≢ get_or last s 0 → length records ≤ (nth records i).next
    → (nth records i).from ≢ s
none_past_last records last s i chain below within other past is =
    let own = chain.own s below in
    elim (cases_lt i (get_or last s 0)) [
      | inl low ↦ chain.chained.none_between i (get_or last s 0) within low (let inside = own.0 in
          omega arith) own.0 (own.1 ∙ sym is)
      | inr high ↦ chain.none_after s i below (let apart : i ≢ get_or last s 0 = other in
          omega arith) within is
    ]

pub chain_more : (records more : List Emission) (last : List ℕ) (s : ℕ) (r : Emission)
    → IsChain records last → IsLinked records more (get_or last s 0) r → s < 64 → r.from ≡ s
    → r.next ≡ no_place → length records < no_place → IsChain more (set last s (length records))
chain_more records more last s r chain link below from next few =
    let n = length records in
    let p = get_or last s 0 in
    let own = chain.own s below in
    let at_p : p < n = own.0 in
    let size = link.size in
    let long = chain.long in
    let last_is : get_or (set last s n) s 0 ≡ n = get_or-set_same last s n 0 (omega arith) in
    let new_from : (nth more n).from ≡ s = ap (λ (x : Emission). x.from) link.there ∙ from in
    let new_next : (nth more n).next ≡ no_place = ap (λ (x : Emission). x.next) link.there ∙ next in
    let at_end : (i : ℕ) → i < length more → n ≤ i → i ≡ n = λ i within past. omega arith in
    record {
      chained = record {
        further = λ i within. elim (cases_lt i n) [
          | inl inside ↦ elim (cases_eq i p) [
            | inl is ↦ let step : (nth more i).next ≡ n =
                ap (λ k. (nth more k).next) is ∙ link.named in omega arith
            | inr other ↦ let old = chain.chained.further i inside in
                let step = link.others i inside other in omega arith
          ]
          | inr past ↦ let step : (nth more i).next ≡ no_place =
              ap (λ k. (nth more k).next) (at_end i within past) ∙ new_next in omega arith
        ];
        same = λ i within reach. elim (cases_lt i n) [
          | inl inside ↦ elim (cases_eq i p) [
            | inl is ↦
                let step : (nth more i).next ≡ n = ap (λ k. (nth more k).next) is ∙ link.named in
                ap (λ k. (nth more k).from) step ∙ new_from
                ∙ sym (ap (λ k. (nth more k).from) is ∙ link.from p at_p ∙ own.1)
            | inr other ↦
                let step = link.others i inside other in
                elim (cases_lt (nth records i).next n) [
                  | inl near ↦ ap (λ k. (nth more k).from) step
                      ∙ link.from (nth records i).next near ∙ chain.chained.same i inside near
                      ∙ sym (link.from i inside)
                  | inr far ↦ absurd (let end = chain.ends i inside far in omega arith)
                ]
          ]
          | inr past ↦ absurd (let step : (nth more i).next
              ≡ no_place = ap (λ k. (nth more k).next) (at_end i within past) ∙ new_next in
              omega arith)
        ];
        none_between = λ i j within low high inside is. elim (cases_lt i n) [
          | inl old_i ↦ elim (cases_eq i p) [
            | inl here ↦
                let step : (nth more i).next ≡ n = ap (λ k. (nth more k).next) here ∙ link.named in
                let old_j : j < n = omega arith in
                chain.none_after s j below (omega arith) old_j
                (sym (link.from j old_j) ∙ is ∙ ap (λ k. (nth more k).from) here
                ∙ link.from p at_p ∙ own.1)
            | inr other ↦
                let step = link.others i old_i other in
                elim (cases_lt j n) [
                  | inl old_j ↦ chain.chained.none_between i j old_i low (omega arith) old_j
                      (sym (link.from j old_j) ∙ is ∙ link.from i old_i)
                  | inr past ↦
                      none_past_last records last s i chain below old_i other (omega arith)
                      (sym (link.from i old_i) ∙ sym is ∙ ap (λ k. (nth more k).from)
                      (at_end j inside past) ∙ new_from)
                ]
          ]
          | inr past ↦ absurd (omega arith)
        ];
      };
      few = omega arith;
      ends = λ i within reach. elim (cases_lt i n) [
        | inl inside ↦ elim (cases_eq i p) [
          | inl is ↦ absurd (let step : (nth more i).next ≡ n = ap (λ k. (nth more k).next) is
              ∙ link.named in omega arith)
          | inr other ↦ let step = link.others i inside other in
              step ∙ chain.ends i inside (omega arith)
        ]
        | inr past ↦ ap (λ k. (nth more k).next) (at_end i within past) ∙ new_next
      ];
      senders = λ i. elim (cases_lt i n) [
        | inl inside ↦ let old = chain.senders i in let same = link.from i inside in omega arith
        | inr past ↦ elim (cases_eq i n) [
          | inl is ↦ let same : (nth more i).from ≡ s = ap (λ k. (nth more k).from) is ∙ new_from in
              omega arith
          | inr other ↦ let apart : i ≢ n = other in
              subst (λ (x : Emission). x.from < 64) (sym (link.nothing i (omega arith)))
              (omega arith)
        ]
      ];
      long = length-set last s n ∙ chain.long;
      own = λ t small. elim (cases_eq t s) [
        | inl is ↦
            let place : get_or (set last s n) t 0 ≡ n =
            ap (λ k. get_or (set last s n) k 0) is ∙ last_is in
            (omega arith, ap (λ k. (nth more k).from) place ∙ new_from ∙ sym is)
        | inr other ↦
            let place : get_or (set last s n) t 0 ≡ get_or last t 0 =
            get_or-set_other last s t n 0 other in
            let old = chain.own t small in
            let inside = old.0 in (
              omega arith,
              ap (λ k. (nth more k).from) place ∙ link.from (get_or last t 0) old.0
                  ∙ old.1,
            )
      ];
      none_after = λ t j small low inside is. elim (cases_eq t s) [
        | inl same ↦ absurd (let place : get_or (set last s n) t 0
            ≡ n = ap (λ k. get_or (set last s n) k 0) same ∙ last_is in omega arith)
        | inr other ↦
            let place : get_or (set last s n) t 0 ≡ get_or last t 0 =
            get_or-set_other last s t n 0 other in
            elim (cases_lt j n) [
              | inl old_j ↦ chain.none_after t j small (omega arith) old_j
                  (sym (link.from j old_j) ∙ is)
              | inr past ↦ other (sym is ∙ ap (λ k. (nth more k).from) (at_end j inside past)
                  ∙ new_from)
            ]
      ];
    }
