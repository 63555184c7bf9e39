-- The queue before anything is sent.
use Rattle.std.specs.Prelude.{◌≡◌, ℕ, suc, ◌+◌, ◌*◌, ◌/◌, ◌<◌, List, [], ◌∷◌, ◌++◌, map, length, get_or}
use Rattle.std.proofs.Common.{sym, ap, ◌∙◌, subst, inl, inr, arith}
use Rattle.std.proofs.lemmas.List.{get_or_past, map-append}
use Rattle.std.proofs.lemmas.Bool.{cases_lt}
use Rattle.polis_base.specs.Lists.{upto}
use Rattle.net_core.specs.declared.config.emissions.Emission.{Emission}
use Rattle.net_core.specs.Emissions.{nth, no_emission, no_place, IsQueue}
use Rattle.journals.proofs.MomentsAfter.{length_table, get_or_table}
use Rattle.net_core.proofs.IsQueue.{waits_struck}

-- the record with which a sender's chain begins
abbrev pub sentinel : ℕ → Emission
sentinel s = record { from = s; event = 0; code = 0; left = 0; next = no_place }

-- a table with one entry more
pub table_more : {X : Type 0} (f : ℕ → X) (n : ℕ) (old new : List X) → old ≡ map f (upto n)
    → new ≡ old ++ f n ∷ [] → new ≡ map f (upto (n + 1))
table_more f n old new are pushed =
    let next : suc n ≡ n + 1 = omega arith in
    pushed ∙ ap (λ l. l ++ f n ∷ []) are ∙ sym (map-append f (upto n) (n ∷ []))
    ∙ ap (λ k. map f (upto k)) next

pub first_queue : (records : List Emission) (cursors last : List ℕ) (n k : ℕ) → n ≡ 64 → k ≡ 4096
    → records ≡ map sentinel (upto n) → last ≡ map (λ s. s) (upto n)
    → cursors ≡ map (λ k. k / 64) (upto k) → IsQueue records 64 cursors last
first_queue records cursors last n k is_n is_k are lasts starts =
    let size : length records ≡ 64 = ap length are ∙ length_table sentinel n ∙ is_n in
    let at : (i : ℕ) → i < 64 → nth records i ≡ sentinel i =
    λ i below. ap (λ (l : List Emission). nth l i) are
    ∙ get_or_table sentinel n i no_emission (omega arith) in
    let from : (i : ℕ) → i < 64 → (nth records i).from ≡ i =
    λ i below. ap (λ (r : Emission). r.from) (at i below) in
    let next : (i : ℕ) → i < 64 → (nth records i).next ≡ no_place =
    λ i below. ap (λ (r : Emission). r.next) (at i below) in
    let last_at : (s : ℕ) → s < 64 → get_or last s 0 ≡ s =
    λ s below. ap (λ (l : List ℕ). get_or l s 0) lasts
    ∙ get_or_table (λ s. s) n s 0 (omega arith) in
    let start : (s m : ℕ) → s < 64 → m < 64 → get_or cursors (64 * s + m) 0 ≡ s =
    λ s m below narrow.
    let whole : (64 * s + m) / 64 ≡ s = omega arith in
    ap (λ (l : List ℕ). get_or l (64 * s + m) 0) starts
    ∙ get_or_table (λ k. k / 64) k (64 * s + m) 0 (omega arith) ∙ whole in
    let struck : (i : ℕ) → (nth records i).left ≡ 0 = λ i. elim (cases_lt i 64) [
      | inl below ↦ ap (λ (r : Emission). r.left) (at i below)
      | inr past ↦ ap (λ (r : Emission). r.left) (get_or_past records i no_emission (omega arith))
    ] in
    record {
      chain = record {
        chained = record {
          further = λ i within. let far = next i (omega arith) in omega arith;
          same = λ i within near. absurd (let far = next i (omega arith) in omega arith);
          none_between = λ i j within low high inside is.
              absurd (let a = from i (omega arith) in let b = from j (omega arith) in omega arith);
        };
        few = omega arith;
        ends = λ i within past. next i (omega arith);
        senders = λ i. elim (cases_lt i 64) [
          | inl below ↦ let is = from i below in omega arith
          | inr past ↦ subst (λ (r : Emission). r.from < 64)
              (sym (get_or_past records i no_emission (omega arith))) (omega arith)
        ];
        long = ap length lasts ∙ length_table (λ s. s) n ∙ is_n;
        own = λ s below. let place = last_at s below in
            (omega arith, ap (λ i. (nth records i).from) place ∙ from s below);
        none_after = λ s j below low inside is. let place = last_at s below in
            let other = from j (omega arith) in absurd (omega arith);
      };
      within = omega arith;
      front_waits = λ h. absurd (omega arith);
      struck = λ i below. struck i;
      long = ap length starts ∙ length_table (λ k. k / 64) k ∙ is_k;
      starts = λ s m below narrow. let place = start s m below narrow in
          (omega arith, ap (λ i. (nth records i).from) place ∙ from s below);
      passed = λ s m i below narrow under. waits_struck s m (nth records i) (struck i);
    }
