-- What a machine's levels are counted from, by its table.
use Rattle.std.proofs.Common.{◌≡◌, ⊎_elim, ℕ, zero, suc, ◌+◌, ◌-◌, ◌*◌, ◌<◌, ◌≤◌, true, false, not, ◌&&◌, ◌||◌, ◌==◌, eqb, nat_lt, nat_le, List, [], ◌∷◌, ◌++◌, length, take, drop, get_or, slice_index, slice_set, slice_get, Some, refl, ap, sym, ◌∙◌, arith, subst}
use Rattle.std.specs.Prelude.{◌↔◌}
use Rattle.std.specs.List.{list_all, list_any}
use Rattle.std.proofs.lemmas.Bool.{and_parts, cases_eq, cases_lt, eq-eqb, ne_eqb, ltb-true, le-leb, leb-true, false_from_ne_true}
use Rattle.std.proofs.lemmas.List.{ext_get_or, get_or-map, length-map, get_or_append_left, get_or-append-add}
use Rattle.std.proofs.lemmas.List.Folds.{list_any-append}
use Rattle.std.proofs.lemmas.Option.{get_or_from_slice_get}
use Rattle.std.proofs.Math.Seq.{take-append_seam, drop-append_seam}
use Rattle.polis_base.specs.Lists.{upto}
use Rattle.domains.specs.AllCodes.{all_codes}
use Rattle.domains.specs.Names.{is_same}
use Rattle.domains.specs.Tables.{fits, product, are_sizes}
use Rattle.transition_table.specs.declared.machine.Machine.{Machine}
use Rattle.transition_table.specs.Computed.{char, result_code, result_codes}
use Rattle.transition_table.specs.Orders.{sizes_of}
use Rattle.outcome_table.specs.Outcomes.{IsTableOf}
use Rattle.outcome_table.specs.declared.table.Table.{Table}
use Rattle.order_sift.specs.inner.Below.{Below}
use Rattle.order_sift.specs.inner.Classes.{snapshot_at, point_at, matters}
use Rattle.order_sift.specs.inner.Points.{AreOutcomes, AreVariables}
use Rattle.char_function.proofs.Char.{same_self}
use Rattle.order_sift.proofs.Different.{any_item}
use Rattle.order_sift.proofs.TruePoints.{point, snapshot_fits}
use Rattle.order_sift.proofs.AreClasses.{neighbours}
use Rattle.domains.proofs.Ranks.{length_fits}
use Rattle.transition_table.proofs.Ranges.{below_size}
use Rattle.domains.proofs.Names.{same_texts}
use Rattle.polis_base.proofs.ListTests.{any_same_below}
use Rattle.polis_base.proofs.Places.{index_set}
use Rattle.polis_base.proofs.UptoPlaces.{get_upto}

-- ---- lists
set_first : (xs ys : List ℕ) (v c : ℕ) → v < length xs
    → slice_set (xs ++ ys) v c ≡ slice_set xs v c ++ ys
set_first [] ys v c low = absurd (omega arith)
set_first (x ∷ xs) ys zero c low = refl
set_first (x ∷ xs) ys (suc v) c low =
    ap (λ (zs : List ℕ). x ∷ zs) (set_first xs ys v c (omega arith))

set_second : (xs ys : List ℕ) (k y c : ℕ) → k ≡ length xs + y
    → slice_set (xs ++ ys) k c ≡ xs ++ slice_set ys y c
set_second [] ys k y c e = ap (λ (n : ℕ). slice_set ys n c) (let f : k ≡ y = omega arith in f)
set_second (x ∷ xs) ys zero y c e = absurd (omega arith)
set_second (x ∷ xs) ys (suc k) y c e =
    ap (λ (zs : List ℕ). x ∷ zs) (set_second xs ys k y c (omega arith))

pub none_upto : (n : ℕ) → list_any (λ (c : ℕ). false) (upto n) ≡ false
none_upto zero = refl
none_upto (suc n) = list_any-append (λ (c : ℕ). false) (upto n) (n ∷ [])
    ∙ ap (λ b. b || (false || false)) (none_upto n)

-- with one code changed it is the same exactly where the code was that
same_with : (xs : List ℕ) (y c : ℕ) → y < length xs
    → is_same xs (slice_set xs y c) ≡ eqb (slice_index xs y) c
same_with xs y c low =
    ⊎_elim
    (λ e. subst (λ (zs : List ℕ). is_same xs zs ≡ true) (sym (set_own xs y c e)) (same_self xs)
    ∙ sym (eq-eqb (slice_index xs y) c e))
    (λ apart.
    false_from_ne_true (is_same xs (slice_set xs y c))
    (λ on. apart (ap (λ (zs : List ℕ). slice_index zs y) (same_texts xs (slice_set xs y c) on)
    ∙ index_set xs y c low)) ∙ sym (ne_eqb (slice_index xs y) c apart))
    (cases_eq (slice_index xs y) c)
  where
    set_own : (xs : List ℕ) (k c : ℕ) → slice_index xs k ≡ c → slice_set xs k c ≡ xs
    set_own [] k c e = refl
    set_own (x ∷ xs) zero c e = ap (λ (n : ℕ). n ∷ xs) (sym e)
    set_own (x ∷ xs) (suc k) c e = ap (λ (ns : List ℕ). x ∷ ns) (set_own xs k c e)

-- what holds of each item of a list and of one more
pub pushed : {X : Type 0} (d : X) (P : ℕ → X → Type 0) (xs : List X) (x : X)
    → ((k : ℕ) → k < length xs → P k (get_or xs k d)) → P (length xs) x → (k : ℕ)
    → k < length xs + 1 → P k (get_or (xs ++ x ∷ []) k d)
pushed d P xs x each here k low =
    ⊎_elim
    (λ less. subst (P k) (sym (get_or_append_left xs (x ∷ []) d k less)) (each k less))
    (λ more.
    let e : length xs ≡ k = omega arith in
    subst (λ (n : ℕ). P n (get_or (xs ++ x ∷ []) n d)) e
    (subst (P (length xs)) (sym (at_last xs x d)) here))
    (cases_lt k (length xs))
  where
    at_last : {X : Type 0} (xs : List X) (x d : X) → get_or (xs ++ x ∷ []) (length xs) d ≡ x
    at_last [] x d = refl
    at_last (y ∷ xs) x d = at_last xs x d

size_few : (sizes : List ℕ) (k : ℕ) → are_sizes sizes ≡ true → k < length sizes
    → slice_index sizes k ≤ 33
size_few [] k h low = absurd (omega arith)
size_few (size ∷ sizes) zero h low =
    leb-true size 33
    (and_parts (nat_le 1 size) (nat_le size 33)
    (and_parts (nat_le 1 size && nat_le size 33) (are_sizes sizes) h).0).1
size_few (size ∷ sizes) (suc k) h low =
    size_few sizes k (and_parts (nat_le 1 size && nat_le size 33) (are_sizes sizes) h).1
    (omega arith)

-- one more result tells snapshots apart
pub tell_result : (n y : ℕ) (before next codes : List ℕ) (R : ℕ → ℕ → ℕ)
    → ((i j : ℕ) → i < n → j < n → (slice_index before i ≡ slice_index before j)
    ↔ ((z : ℕ) → z < y → R z i ≡ R z j)) → ((i : ℕ) → i < n → slice_index codes i ≡ R y i)
    → ((i j : ℕ) → i < n → j < n → (slice_index next i ≡ slice_index next j)
    ↔ ((slice_index before i ≡ slice_index before j) × (slice_index codes i ≡ slice_index codes j)))
    → (i j : ℕ) → i < n → j < n → (slice_index next i ≡ slice_index next j)
    ↔ ((z : ℕ) → z < y + 1 → R z i ≡ R z j)
tell_result n y before next codes R so_far is both i j li lj = (
  λ h z lz.
      let parts = (both i j li lj).0 h in
      ⊎_elim
      (λ less. (so_far i j li lj).0 parts.0 z less)
      (λ more.
      let e : y ≡ z = omega arith in
      subst (λ (k : ℕ). R k i ≡ R k j) e (sym (is i li) ∙ parts.1 ∙ is j lj))
      (cases_lt z y),
  λ each. (both i j li lj).1 (
    (so_far i j li lj).1 (λ z lz. each z (omega arith)),
    is i li
        ∙ each y (omega arith) ∙ sym (is j lj),
  ),
)

module _ (m : Machine) (below : Below) where
  pub codes_long : (i : ℕ) → i < product m.vars
      → length (result_codes m (snapshot_at m i)) ≡ length m.results
  codes_long i low = let hs = snapshot_fits m below i low in
      length_fits m.results (result_codes m (snapshot_at m i))
      (below.results_fit m (snapshot_at m i) hs)

  pub code_low : (y i : ℕ) → are_sizes m.results ≡ true → y < length m.results → i < product m.vars
      → result_code m y (snapshot_at m i) < 33
  code_low y i sized ly li =
      let low = below_size m.results (result_codes m (snapshot_at m i)) y
      (below.results_fit m (snapshot_at m i) (snapshot_fits m below i li)) ly in
      let few = size_few m.results y sized ly in
      omega arith

  -- ---- the table
  module _ (t : Table) (tabled : IsTableOf m t) where
    pub numbers_long : length t.numbers ≡ product m.vars
    numbers_long =
        let a = length-map t.numbers (λ k. get_or t.outcomes k []) in
        let b = length-map (all_codes m.vars) (result_codes m) in
        let d = ap (λ (xs : List (List ℕ)). length xs) tabled.results in
        let e = below.counts_all m.vars in
        omega arith

    pub number_low : (i : ℕ) → i < product m.vars → slice_index t.numbers i < length t.outcomes
    number_low i low =
        let n = numbers_long in
        ltb-true (slice_index t.numbers i) (length t.outcomes)
        (all_at t.numbers i (omega arith) tabled.within)
      where
        all_at : (xs : List ℕ) (i : ℕ) → i < length xs
            → list_all (λ k. nat_lt k (length t.outcomes)) xs ≡ true
            → nat_lt (slice_index xs i) (length t.outcomes) ≡ true
        all_at [] i low h = absurd (omega arith)
        all_at (x ∷ xs) zero low h =
            (and_parts (nat_lt x (length t.outcomes))
            (list_all (λ k. nat_lt k (length t.outcomes)) xs) h).0
        all_at (x ∷ xs) (suc i) low h =
            all_at xs i (omega arith)
            (and_parts (nat_lt x (length t.outcomes))
            (list_all (λ k. nat_lt k (length t.outcomes)) xs) h).1

    pub outcome_at : (i : ℕ) → i < product m.vars
        → get_or t.outcomes (slice_index t.numbers i) [] ≡ result_codes m (snapshot_at m i)
    outcome_at i low =
        let n = numbers_long in
        let e = below.counts_all m.vars in
        sym (get_or-map (λ k. get_or t.outcomes k []) t.numbers i 0 [] (omega arith))
        ∙ ap (λ (xs : List (List ℕ)). get_or xs i []) tabled.results
        ∙ get_or-map (result_codes m) (all_codes m.vars) i [] [] (omega arith)

    pub outcome_read : (i number : ℕ) (outcome : List ℕ) → i < product m.vars
        → slice_get t.numbers i ≡ Some number → slice_get t.outcomes number ≡ Some outcome
        → outcome ≡ result_codes m (snapshot_at m i)
    outcome_read i number outcome low at there =
        sym (get_or_from_slice_get t.outcomes number outcome [] there)
        ∙ ap (λ (k : ℕ). get_or t.outcomes k [])
        (sym (get_or_from_slice_get t.numbers i number 0 at))
        ∙ outcome_at i low

    pub variables_of : AreVariables m t.codes
    variables_of = record {
      wide = tabled.codes.wide;
      long = λ v low. ap (λ (xs : List ℕ). length xs) (tabled.codes.each v low)
          ∙ length-map (all_codes m.vars) (λ codes. slice_index codes v) ∙ below.counts_all m.vars;
      code = λ v i low li.
          let e = below.counts_all m.vars in
          ap (λ (xs : List ℕ). slice_index xs i) (tabled.codes.each v low)
          ∙ get_or-map (λ codes. slice_index codes v) (all_codes m.vars) i [] 0 (omega arith);
    }

  -- ---- outcomes
  pub same_outcomes : (i j : ℕ) → i < product m.vars → j < product m.vars
      → ((y : ℕ) → y < length m.results → result_code m y (snapshot_at m i)
      ≡ result_code m y (snapshot_at m j))
      → result_codes m (snapshot_at m i) ≡ result_codes m (snapshot_at m j)
  same_outcomes i j li lj each =
      let a = codes_long i li in
      let b = codes_long j lj in
      ext_get_or 0 (result_codes m (snapshot_at m i)) (result_codes m (snapshot_at m j))
      (omega arith) (λ y low. each y (omega arith))

  -- ---- where an item matters
  char_with_var : (s : List ℕ) (v c : ℕ) → fits m.vars s ≡ true → v < length m.vars
      → char m (slice_set (point m s) v c)
      ≡ is_same (result_codes m (slice_set s v c)) (result_codes m s)
  char_with_var s v c hs low =
      let l = length_fits m.vars s hs in
      let r = result_codes m s in
      let set = set_first s r v c (omega arith) in
      let long : length (slice_set s v c) ≡ length m.vars = set_long s v c ∙ l in
      let t : take (length m.vars) (slice_set s v c ++ r) ≡ slice_set s v c =
      ap (λ k. take k (slice_set s v c ++ r)) (sym long)
      ∙ take-append_seam (slice_set s v c) r in
      let d : drop (length m.vars) (slice_set s v c ++ r) ≡ r =
      ap (λ k. drop k (slice_set s v c ++ r)) (sym long)
      ∙ drop-append_seam (slice_set s v c) r in
      ap (char m) set
      ∙ ap (λ (xs : List ℕ). is_same (result_codes m xs)
      (drop (length m.vars) (slice_set s v c ++ r))) t
      ∙ ap (λ (xs : List ℕ). is_same (result_codes m (slice_set s v c)) xs) d
    where
      set_long : (xs : List ℕ) (v c : ℕ) → length (slice_set xs v c) ≡ length xs
      set_long [] v c = refl
      set_long (x ∷ xs) zero c = refl
      set_long (x ∷ xs) (suc v) c = ap suc (set_long xs v c)

  char_with_result : (s : List ℕ) (y c : ℕ) → fits m.vars s ≡ true
      → char m (slice_set (point m s) (length m.vars + y) c)
      ≡ is_same (result_codes m s) (slice_set (result_codes m s) y c)
  char_with_result s y c hs =
      let l = length_fits m.vars s hs in
      let r = result_codes m s in
      let set = set_second s r (length m.vars + y) y c (ap (λ k. k + y) (sym l)) in
      let t : take (length m.vars) (s ++ slice_set r y c) ≡ s =
      ap (λ k. take k (s ++ slice_set r y c)) (sym l) ∙ take-append_seam s (slice_set r y c) in
      let d : drop (length m.vars) (s ++ slice_set r y c) ≡ slice_set r y c =
      ap (λ k. drop k (s ++ slice_set r y c)) (sym l) ∙ drop-append_seam s (slice_set r y c) in
      ap (char m) set
      ∙ ap (λ (xs : List ℕ). is_same (result_codes m xs)
      (drop (length m.vars) (s ++ slice_set r y c))) t
      ∙ ap (λ (xs : List ℕ). is_same r xs) d

  pub matters_var : (outcomes codes : List ℕ) (v i : ℕ) → AreOutcomes m outcomes → v < length m.vars
      → i < product m.vars → slice_index codes i ≡ slice_index (snapshot_at m i) v → (stride : ℕ)
      → stride ≡ product (drop (v + 1) m.vars) → (size : ℕ) → size ≡ slice_index m.vars v
      → list_any (λ code.
      not (slice_index outcomes (i + code * stride - slice_index codes i * stride) == slice_index
      outcomes i)) (upto size) ≡ matters m v i
  matters_var outcomes codes v i are lv li code stride is size has =
      let wide : slice_index (sizes_of m) v ≡ slice_index m.vars v =
      get_or_append_left m.vars m.results 0 v lv in
      any_same_below (λ c. not
      (slice_index outcomes (i + c * stride - slice_index codes i * stride) == slice_index
      outcomes i)) (λ c. not (char m (slice_set (point_at m i) v c))) size
      (λ c lc. ap not (each c (omega arith)))
      ∙ ap (λ (n : ℕ). list_any (λ c. not (char m (slice_set (point_at m i) v c))) (upto n))
      (has ∙ sym wide)
    where
      each : (c : ℕ) → c < slice_index m.vars v
          → (slice_index outcomes (i + c * stride - slice_index codes i * stride) == slice_index
          outcomes i) ≡ char m (slice_set (point_at m i) v c)
      each c lc =
          let s = snapshot_at m i in
          let hs = snapshot_fits m below i li in
          let n = neighbours m below i v c li lv lc in
          let k = i + c * product (drop (v + 1) m.vars) - slice_index s v * product
          (drop (v + 1) m.vars) in
          let at : i + c * stride - slice_index codes i * stride ≡ k =
          ap (λ p. i + c * p - slice_index codes i * p) is
          ∙ ap (λ p. i + c * product (drop (v + 1) m.vars) - p * product
          (drop (v + 1) m.vars)) code in
          let both = are.same k i n.within li in
          let char_is = char_with_var s v c hs lv in
          let same : result_codes m (snapshot_at m k) ≡ result_codes m (slice_set s v c) =
          ap (result_codes m) n.is in
          ap (λ (p : ℕ). slice_index outcomes p == slice_index outcomes i) at
          ∙ ⊎_elim
          (λ e. eq-eqb (slice_index outcomes k) (slice_index outcomes i) e
          ∙ sym (char_is ∙ subst (λ (q : List ℕ). is_same (result_codes m (slice_set s v c)) q
          ≡ true) (sym same ∙ both.0 e) (same_self (result_codes m (slice_set s v c)))))
          (λ apart.
          ne_eqb (slice_index outcomes k) (slice_index outcomes i) apart
          ∙ sym (char_is ∙ false_from_ne_true
          (is_same (result_codes m (slice_set s v c)) (result_codes m s))
          (λ on. apart (both.1
          (same ∙ same_texts (result_codes m (slice_set s v c)) (result_codes m s) on)))))
          (cases_eq (slice_index outcomes k) (slice_index outcomes i))

  pub matters_result : (y i size : ℕ) → y < length m.results → i < product m.vars
      → size ≡ slice_index m.results y → nat_le 2 size ≡ matters m (length m.vars + y) i
  matters_result y i size ly li has =
      let s = snapshot_at m i in
      let hs = snapshot_fits m below i li in
      let r = result_codes m s in
      let long = codes_long i li in
      let code = slice_index r y in
      let low : code < slice_index m.results y =
      below_size m.results r y (below.results_fit m s hs) ly in
      let wide : slice_index (sizes_of m) (length m.vars + y) ≡ slice_index m.results y =
      get_or-append-add m.vars m.results y 0 in
      two size code (omega arith)
      ∙ any_same_below (λ c. not (eqb code c))
      (λ c. not (char m (slice_set (point_at m i) (length m.vars + y) c))) size
      (λ c lc. ap not (sym (char_with_result s y c hs ∙ same_with r y c (omega arith))))
      ∙ ap (λ (n : ℕ). list_any (λ c. not (char m (slice_set (point_at m i) (length m.vars + y) c)))
      (upto n)) (has ∙ sym wide)
    where
      two : (size code : ℕ) → code < size
          → nat_le 2 size ≡ list_any (λ c. not (eqb code c)) (upto size)
      two zero code low = absurd (omega arith)
      two (suc zero) code low = let e : code ≡ 0 = omega arith in
          subst (λ (k : ℕ). nat_le 2 1 ≡ list_any (λ c. not (eqb k c)) (upto 1)) (sym e) refl
      two (suc (suc n)) zero low =
          le-leb 2 (suc (suc n)) (omega arith)
          ∙ sym (any_item (λ c. not (eqb 0 c)) (upto (suc (suc n))) 1 1
          (get_upto (suc (suc n)) 1 (omega arith)) refl)
      two (suc (suc n)) (suc code) low =
          le-leb 2 (suc (suc n)) (omega arith)
          ∙ sym (any_item (λ c. not (eqb (suc code) c)) (upto (suc (suc n))) 0 0
          (get_upto (suc (suc n)) 0 (omega arith))
          (ap not (ne_eqb (suc code) 0 (λ e. omega arith))))
