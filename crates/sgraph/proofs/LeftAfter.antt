-- What a depth-first walk leaves.
use Rattle.std.proofs.Common.{◌≡◌, ◌⊎◌, inl, inr, ⊎_elim, ℕ, zero, suc, ◌+◌, ◌<◌, ◌≤◌, Bool, true, false, cond, ◌||◌, List, [], ◌∷◌, map, length, slice_index, refl, ap, sym, subst, ◌∙◌, arith, eqb}
use Rattle.std.specs.Prelude.{⊤}
use Rattle.std.proofs.lemmas.Bool.{cases_eq, cases_Bool, eqb-true, eq-eqb, ne_eqb, true≢false, false_from_ne_true, or_cases, or_left, or_right}
use Rattle.transition_table.specs.NetworkFacts.{has}
use Rattle.domains.specs.Orders.{place}
use Rattle.sgraph.specs.Graphs.{each, left_after}
use Rattle.decision_diagram.proofs.Distinct.{Every}

module _ (next : ℕ → List ℕ) where
  -- each stands once, and before what follows on it
  abbrev pub Closed : List ℕ → Type 0
  Closed [] = ⊤
  Closed (m ∷ left) = ((i : ℕ) → i < length (next m) → has left (slice_index (next m) i) ≡ true)
      × (has left m ≡ false) × Closed left

  pub record After (left : List ℕ) (k : ℕ) (result : List ℕ) : Type 0 where
    pub keeps : (m : ℕ) → has left m ≡ true → has result m ≡ true
    pub here : has result k ≡ true
    pub new : (m : ℕ) → has result m ≡ true → (has left m ≡ true) ⊎ (m ≤ k)
    pub closed : Closed left → Closed result

  pub record AfterAll (left ks : List ℕ) (bound : ℕ) (result : List ℕ) : Type 0 where
    keeps : (m : ℕ) → has left m ≡ true → has result m ≡ true
    here : (i : ℕ) → i < length ks → has result (slice_index ks i) ≡ true
    new : (m : ℕ) → has result m ≡ true → (has left m ≡ true) ⊎ (m < bound)
    closed : Closed left → Closed result

  pub visit_there : (more : ℕ) (left : List ℕ) (k : ℕ) → has left k ≡ true
      → left_after (suc more) next left k ≡ left
  visit_there more left k h =
      ap (λ (b : Bool). elim b as (λ c. List ℕ)
      [ true ↦ left | false ↦ k ∷ each (left_after more next) left (next k) ]) h

  pub visit_new : (more : ℕ) (left : List ℕ) (k : ℕ) → has left k ≡ false
      → left_after (suc more) next left k ≡ k ∷ each (left_after more next) left (next k)
  visit_new more left k h =
      ap (λ (b : Bool). elim b as (λ c. List ℕ)
      [ true ↦ left | false ↦ k ∷ each (left_after more next) left (next k) ]) h

  pub all_after : (more : ℕ)
      → ((left : List ℕ) (k : ℕ) → k < more → After left k (left_after more next left k))
      → (ks left : List ℕ) (bound : ℕ) → bound ≤ more
      → ((i : ℕ) → i < length ks → slice_index ks i < bound)
      → AfterAll left ks bound (each (left_after more next) left ks)
  all_after more one [] left bound within low =
      record {
        keeps = λ m h. h;
        here = λ i less. absurd (omega arith);
        new = λ m h. inl h;
        closed = λ h. h;
      }
  all_after more one (k ∷ ks) left bound within low =
      let first_low : k < bound = low 0 (omega arith) in
      let first = one left k (omega arith) in
      let rest = all_after more one ks (left_after more next left k) bound within
      (λ i less. low (suc i) (omega arith)) in
      record {
        keeps = λ m h. rest.keeps m (first.keeps m h);
        here = λ i less. each_here first rest i less;
        new = λ m h. ⊎_elim
            (λ before. ⊎_elim (λ old. inl old) (λ small. inr (omega arith)) (first.new m before))
            (λ small. inr small) (rest.new m h);
        closed = λ h. rest.closed (first.closed h);
      }
    where
      each_here : After left k (left_after more next left k)
          → AfterAll (left_after more next left k) ks bound
          (each (left_after more next) (left_after more next left k) ks) → (i : ℕ)
          → i < length (k ∷ ks)
          → has (each (left_after more next) (left_after more next left k) ks)
          (slice_index (k ∷ ks) i) ≡ true
      each_here first rest zero less = rest.keeps k first.here
      each_here first rest (suc i) less = rest.here i (omega arith)

  pub visit_after : ((k i : ℕ) → i < length (next k) → slice_index (next k) i < k)
      → (fuel : ℕ) (left : List ℕ) (k : ℕ) → k < fuel → After left k (left_after fuel next left k)
  visit_after falls zero left k less = absurd (omega arith)
  visit_after falls (suc more) left k less =
      ⊎_elim
      (λ there. rw (visit_there more left k there)
      (record { keeps = λ m h. h; here = there; new = λ m h. inl h; closed = λ h. h }))
      (λ fresh.
      let all = all_after more (λ l j low. visit_after falls more l j low) (next k) left k
      (omega arith) (λ i low. falls k i low) in
      let result = each (left_after more next) left (next k) in
      let apart : has result k ≡ false =
      false_from_ne_true (has result k) (λ on.
      ⊎_elim (λ old. true≢false (sym old ∙ fresh)) (λ small. absurd (omega arith))
      (all.new k on)) in
      rw (visit_new more left k fresh) (record {
        keeps = λ m h. or_right (eqb k m) (has result m) (all.keeps m h);
        here = or_left (eqb k k) (has result k) (eq-eqb k k refl);
        new = λ m h. ⊎_elim (λ own. let e = eqb-true k m own in
            inr (omega arith))
            (λ old. ⊎_elim (λ l. inl l) (λ small. inr (omega arith)) (all.new m old))
            (or_cases (eqb k m) (has result m) h);
        closed = λ h. (all.here, apart, all.closed h);
      }))
      (cases_Bool (has left k))

  -- ---- places in a closed list
  pub in_place : (xs : List ℕ) (n : ℕ) → has xs n ≡ true → place xs n < length xs
  in_place [] n h = absurd (true≢false (sym h))
  in_place (x ∷ xs) n h =
      ⊎_elim
      (λ own. let e = ap (λ (b : Bool). cond {A = ℕ} b 0 (place xs n + 1)) own in omega arith)
      (λ other.
      let rest = in_place xs n (sym (ap (λ (b : Bool). b || has xs n) other) ∙ h) in
      let e = ap (λ (b : Bool). cond {A = ℕ} b 0 (place xs n + 1)) other in
      omega arith)
      (cases_Bool (eqb x n))

  pub has_at : (xs : List ℕ) (i : ℕ) → i < length xs → has xs (slice_index xs i) ≡ true
  has_at [] i low = absurd (omega arith)
  has_at (x ∷ xs) zero low = or_left (eqb x x) (has xs x) (eq-eqb x x refl)
  has_at (x ∷ xs) (suc i) low =
      or_right (eqb x (slice_index xs i)) (has xs (slice_index xs i)) (has_at xs i (omega arith))

  pub not_same : (xs : List ℕ) (m n : ℕ) → has xs m ≡ false → has xs n ≡ true → eqb m n ≡ false
  not_same xs m n off on = ne_eqb m n (λ e. true≢false (sym on ∙ ap (has xs) (sym e) ∙ off))

  pub place_at : (xs : List ℕ) (i : ℕ) → Closed xs → i < length xs → place xs (slice_index xs i) ≡ i
  place_at [] i closed low = absurd (omega arith)
  place_at (x ∷ xs) zero closed low =
      ap (λ (b : Bool). cond {A = ℕ} b 0 (place xs x + 1)) (eq-eqb x x refl)
  place_at (x ∷ xs) (suc i) closed low =
      let rest = place_at xs i closed.2 (omega arith) in
      let e = ap (λ (b : Bool). cond {A = ℕ} b 0 (place xs (slice_index xs i) + 1))
      (not_same xs x (slice_index xs i) closed.1 (has_at xs i (omega arith))) in
      omega arith

  pub closed_next : (xs : List ℕ) (n i : ℕ) → Closed xs → has xs n ≡ true → i < length (next n)
      → (has xs (slice_index (next n) i) ≡ true) × (place xs n < place xs (slice_index (next n) i))
  closed_next [] n i closed h low = absurd (true≢false (sym h))
  closed_next (x ∷ xs) n i closed h low =
      ⊎_elim
      (λ own.
      let same : x ≡ n = eqb-true x n own in
      let j = slice_index (next n) i in
      let there : has xs j ≡ true = ap (has xs) (ap (λ (k : ℕ). slice_index (next k) i) (sym same))
      ∙ closed.0 i (let e = ap (λ (k : ℕ). length (next k)) same in omega arith) in
      let a = ap (λ (b : Bool). cond {A = ℕ} b 0 (place xs n + 1)) own in
      let b = ap (λ (b : Bool). cond {A = ℕ} b 0 (place xs j + 1))
      (not_same xs x j closed.1 there) in
      (or_right (eqb x j) (has xs j) there, omega arith))
      (λ other.
      let j = slice_index (next n) i in
      let rest = closed_next xs n i closed.2 (sym (ap (λ (b : Bool). b || has xs n) other) ∙ h)
      low in
      let later : place xs n < place xs j = rest.1 in
      let a = ap (λ (b : Bool). cond {A = ℕ} b 0 (place xs n + 1)) other in
      let b = ap (λ (b : Bool). cond {A = ℕ} b 0 (place xs j + 1))
      (not_same xs x j closed.1 rest.0) in
      (or_right (eqb x j) (has xs j) rest.0, omega arith))
      (cases_Bool (eqb x n))

-- ---- enough fuel

pub each_same : (f g : List ℕ → ℕ → List ℕ) (ks left : List ℕ)
    → ((l : List ℕ) (i : ℕ) → i < length ks → f l (slice_index ks i) ≡ g l (slice_index ks i))
    → each f left ks ≡ each g left ks
each_same f g [] left same = refl
each_same f g (k ∷ ks) left same =
    ap (λ (l : List ℕ). each f l ks) (same left 0 (omega arith))
    ∙ each_same f g ks (g left k) (λ l i low. same l (suc i) (omega arith))

-- where numbers rise to a total
pub enough : (next : ℕ → List ℕ) (total : ℕ)
    → ((k i : ℕ) → i < length (next k)
    → (k < slice_index (next k) i) × (slice_index (next k) i < total))
    → (fuel more : ℕ) (left : List ℕ) (k : ℕ) → total ≤ k + fuel → total ≤ k + more → k < total
    → left_after fuel next left k ≡ left_after more next left k
enough next total rises zero more left k a b low = absurd (omega arith)
enough next total rises (suc fuel) zero left k a b low = absurd (omega arith)
enough next total rises (suc fuel) (suc more) left k a b low =
    ⊎_elim
    (λ there. visit_there next fuel left k there ∙ sym (visit_there next more left k there))
    (λ fresh.
    visit_new next fuel left k fresh
    ∙ ap (λ (xs : List ℕ). k ∷ xs)
    (each_same (left_after fuel next) (left_after more next) (next k) left (λ l i inside.
    let r = rises k i inside in
    let higher : k < slice_index (next k) i = r.0 in
    enough next total rises fuel more l (slice_index (next k) i) (omega arith) (omega arith) r.1))
    ∙ sym (visit_new next more left k fresh))
    (cases_Bool (has left k))

-- where numbers fall
pub enough_down : (next : ℕ → List ℕ)
    → ((k i : ℕ) → i < length (next k) → slice_index (next k) i < k)
    → (fuel more : ℕ) (left : List ℕ) (k : ℕ) → k < fuel → k < more
    → left_after fuel next left k ≡ left_after more next left k
enough_down next falls zero more left k a b = absurd (omega arith)
enough_down next falls (suc fuel) zero left k a b = absurd (omega arith)
enough_down next falls (suc fuel) (suc more) left k a b =
    ⊎_elim
    (λ there. visit_there next fuel left k there ∙ sym (visit_there next more left k there))
    (λ fresh.
    visit_new next fuel left k fresh
    ∙ ap (λ (xs : List ℕ). k ∷ xs)
    (each_same (left_after fuel next) (left_after more next) (next k) left (λ l i inside.
    let lower : slice_index (next k) i < k = falls k i inside in
    enough_down next falls fuel more l (slice_index (next k) i) (omega arith) (omega arith)))
    ∙ sym (visit_new next more left k fresh))
    (cases_Bool (has left k))

-- ---- other numbers

module _ (next other : ℕ → List ℕ) (number : ℕ → ℕ) (In : ℕ → Type 0) (same : (a b : ℕ) → In a
    → In b → number a ≡ number b → a ≡ b) (follows : (k : ℕ) → In k
    → other (number k) ≡ map number (next k)) (inside : (k i : ℕ) → In k → i < length (next k)
    → In (slice_index (next k) i)) where
  pub has_renamed : (left : List ℕ) (k : ℕ) → Every In left → In k
      → has (map number left) (number k) ≡ has left k
  has_renamed [] k all in_k = refl
  has_renamed (m ∷ left) k all in_k =
      ap (λ (b : Bool). b || has (map number left) (number k))
      (⊎_elim
      (λ e. eq-eqb (number m) (number k) (ap number e) ∙ sym (eq-eqb m k e))
      (λ differ. ne_eqb (number m) (number k) (λ e. differ (same m k all.0 in_k e))
      ∙ sym (ne_eqb m k differ))
      (cases_eq m k))
      ∙ ap (λ (b : Bool). eqb m k || b) (has_renamed left k all.1 in_k)

  abbrev pub Renamed : List ℕ → List ℕ → Type 0
  Renamed mine others = (others ≡ map number mine) × Every In mine

  pub each_renamed : (more : ℕ)
      → ((left : List ℕ) (k : ℕ) → Every In left → In k
      → Renamed (left_after more next left k) (left_after more other (map number left) (number k)))
      → (ks left : List ℕ) → Every In left → ((i : ℕ) → i < length ks → In (slice_index ks i))
      → Renamed (each (left_after more next) left ks)
      (each (left_after more other) (map number left) (map number ks))
  each_renamed more one [] left all in_ks = (refl, all)
  each_renamed more one (k ∷ ks) left all in_ks =
      let first = one left k all (in_ks 0 (omega arith)) in
      let rest = each_renamed more one ks (left_after more next left k) first.1
      (λ i low. in_ks (suc i) (omega arith)) in
      (ap (λ (l : List ℕ). each (left_after more other) l (map number ks)) first.0 ∙ rest.0, rest.1)

  pub renamed : (fuel : ℕ) (left : List ℕ) (k : ℕ) → Every In left → In k
      → Renamed (left_after fuel next left k) (left_after fuel other (map number left) (number k))
  renamed zero left k all in_k = (refl, all)
  renamed (suc more) left k all in_k =
      ⊎_elim
      (λ there.
      let mine = visit_there next more left k there in (
        visit_there other more (map number left) (number k) (has_renamed left k all in_k ∙ there)
            ∙ ap (map number) (sym mine),
        subst (Every In) (sym mine) all,
      ))
      (λ fresh.
      let mine = visit_new next more left k fresh in
      let rest = each_renamed more (λ l j all_l in_j. renamed more l j all_l in_j) (next k) left all
      (λ i low. inside k i in_k low) in
      let whole : Every In (k ∷ each (left_after more next) left (next k)) = (in_k, rest.1) in (
        visit_new other more (map number left) (number k) (has_renamed left k all in_k ∙ fresh)
            ∙ ap (λ (xs : List ℕ). number k ∷ each (left_after more other) (map number left) xs)
            (follows k in_k)
            ∙ ap (λ (xs : List ℕ). number k ∷ xs) rest.0
            ∙ ap (map number) (sym mine),
        subst (Every In) (sym mine) whole,
      ))
      (cases_Bool (has left k))

-- what holds of the first and of what follows holds of all

pub each_every : (next : ℕ → List ℕ) (P : ℕ → Type 0) (more : ℕ)
    → ((left : List ℕ) (k : ℕ) → Every P left → P k → Every P (left_after more next left k))
    → (ks left : List ℕ) → Every P left → ((i : ℕ) → i < length ks → P (slice_index ks i))
    → Every P (each (left_after more next) left ks)
each_every next P more one [] left all in_ks = all
each_every next P more one (k ∷ ks) left all in_ks =
    each_every next P more one ks (left_after more next left k)
    (one left k all (in_ks 0 (omega arith))) (λ i low. in_ks (suc i) (omega arith))

pub every_left : (next : ℕ → List ℕ) (P : ℕ → Type 0)
    → ((k i : ℕ) → P k → i < length (next k) → P (slice_index (next k) i))
    → (fuel : ℕ) (left : List ℕ) (k : ℕ) → Every P left → P k
    → Every P (left_after fuel next left k)
every_left next P inside zero left k all p = all
every_left next P inside (suc more) left k all p =
    ⊎_elim
    (λ there. subst (Every P) (sym (visit_there next more left k there)) all)
    (λ fresh.
    let whole : Every P (k ∷ each (left_after more next) left (next k)) = (
      p,
      each_every next P more (λ l j all_l p_j. every_left next P inside more l j all_l p_j)
          (next k) left all (λ i low. inside k i p low),
    ) in
    subst (Every P) (sym (visit_new next more left k fresh)) whole)
    (cases_Bool (has left k))
