-- What a walk leaves where numbers rise.
use Rattle.std.proofs.Common.{◌≡◌, ◌⊎◌, inl, inr, ⊎_elim, ℕ, zero, suc, ◌+◌, ◌<◌, ◌≤◌, true, false, List, [], ◌∷◌, length, slice_index, refl, sym, ◌∙◌, arith, eqb}
use Rattle.std.proofs.lemmas.Bool.{cases_Bool, eqb-true, eq-eqb, true≢false, false_from_ne_true, or_cases, or_left, or_right}
use Rattle.transition_table.specs.NetworkFacts.{has}
use Rattle.sgraph.specs.Graphs.{each, left_after}
use Rattle.sgraph.proofs.LeftAfter.{Closed, visit_there, visit_new}

module _ (next : ℕ → List ℕ) (total : ℕ) (rises : (k i : ℕ) → i < length (next k)
    → (k < slice_index (next k) i) × (slice_index (next k) i < total)) where
  pub record Beyond (left : List ℕ) (k : ℕ) (result : List ℕ) : Type 0 where
    pub keeps : (m : ℕ) → has left m ≡ true → has result m ≡ true
    pub here : has result k ≡ true
    pub new : (m : ℕ) → has result m ≡ true → (has left m ≡ true) ⊎ (k ≤ m)
    pub closed : Closed next left → Closed next result

  record AllBeyond (left ks : List ℕ) (bound : ℕ) (result : List ℕ) : Type 0 where
    keeps : (m : ℕ) → has left m ≡ true → has result m ≡ true
    here : (i : ℕ) → i < length ks → has result (slice_index ks i) ≡ true
    new : (m : ℕ) → has result m ≡ true → (has left m ≡ true) ⊎ (bound < m)
    closed : Closed next left → Closed next result

  all_beyond : (more bound : ℕ)
      → ((left : List ℕ) (k : ℕ) → bound < k → k < total
      → Beyond left k (left_after more next left k)) → (ks left : List ℕ)
      → ((i : ℕ) → i < length ks → (bound < slice_index ks i) × (slice_index ks i < total))
      → AllBeyond left ks bound (each (left_after more next) left ks)
  all_beyond more bound one [] left low =
      record {
        keeps = λ m h. h;
        here = λ i less. absurd (omega arith);
        new = λ m h. inl h;
        closed = λ h. h;
      }
  all_beyond more bound one (k ∷ ks) left low =
      let at = low 0 (omega arith) in
      let up : bound < k = at.0 in
      let first = one left k at.0 at.1 in
      let rest = all_beyond more bound one ks (left_after more next left k)
      (λ i less. low (suc i) (omega arith)) in
      record {
        keeps = λ m h. rest.keeps m (first.keeps m h);
        here = λ i less. each_here first rest i less;
        new = λ m h. ⊎_elim
            (λ before. ⊎_elim (λ old. inl old) (λ large. inr (omega arith)) (first.new m before))
            (λ large. inr large) (rest.new m h);
        closed = λ h. rest.closed (first.closed h);
      }
    where
      each_here : Beyond left k (left_after more next left k)
          → AllBeyond (left_after more next left k) ks bound
          (each (left_after more next) (left_after more next left k) ks) → (i : ℕ)
          → i < length (k ∷ ks)
          → has (each (left_after more next) (left_after more next left k) ks)
          (slice_index (k ∷ ks) i) ≡ true
      each_here first rest zero less = rest.keeps k first.here
      each_here first rest (suc i) less = rest.here i (omega arith)

  pub visit_beyond : (fuel : ℕ) (left : List ℕ) (k : ℕ) → total ≤ k + fuel → k < total
      → Beyond left k (left_after fuel next left k)
  visit_beyond zero left k enough low = absurd (omega arith)
  visit_beyond (suc more) left k enough low =
      ⊎_elim
      (λ there. rw (visit_there next more left k there)
      (record { keeps = λ m h. h; here = there; new = λ m h. inl h; closed = λ h. h }))
      (λ fresh.
      let all = all_beyond more k (λ l j up inside. visit_beyond more l j (omega arith) inside)
      (next k) left (rises k) in
      let result = each (left_after more next) left (next k) in
      let apart : has result k ≡ false =
      false_from_ne_true (has result k) (λ on.
      ⊎_elim (λ old. true≢false (sym old ∙ fresh)) (λ large. absurd (omega arith))
      (all.new k on)) in
      rw (visit_new next more left k fresh) (record {
        keeps = λ m h. or_right (eqb k m) (has result m) (all.keeps m h);
        here = or_left (eqb k k) (has result k) (eq-eqb k k refl);
        new = λ m h. ⊎_elim (λ own. let e = eqb-true k m own in
            inr (omega arith))
            (λ old. ⊎_elim (λ l. inl l) (λ large. inr (omega arith)) (all.new m old))
            (or_cases (eqb k m) (has result m) h);
        closed = λ h. (all.here, apart, all.closed h);
      }))
      (cases_Bool (has left k))
