-- What is left of a machine's characteristic function where one more item of an order is fixed.
use Rattle.std.proofs.Common.{◌≡◌, ⊎_elim, ℕ, zero, suc, ◌+◌, ◌-◌, ◌*◌, ◌<◌, Bool, true, false, cond, ◌&&◌, ◌||◌, ◌==◌, eqb, ltb, List, [], ◌∷◌, length, take, drop, get_or, slice_index, slice_get, slice_set, Some, refl, ap, sym, subst, ◌∙◌, arith, length-append}
use Rattle.std.proofs.lemmas.Bool.{and_parts, cases_Bool, cases_lt, cases_eq, eqb-true, eq-eqb, ne_eqb, false≢true}
use Rattle.std.proofs.lemmas.List.{ext_get_or, get_or-take, get_or-set_same, get_or-drop, length-drop, length-take}
use Rattle.domains.specs.AllCodes.{all_codes, StandsOnce}
use Rattle.domains.specs.Names.{is_same}
use Rattle.domains.specs.Orders.{place}
use Rattle.domains.specs.Tables.{fits, product, rank}
use Rattle.decision_diagram.specs.Sets.{stands, taking}
use Rattle.transition_table.specs.declared.machine.Machine.{Machine}
use Rattle.transition_table.specs.Computed.{char, result_code, result_codes, supports}
use Rattle.transition_table.specs.Laws.{ResultsFit, SameOnSupport}
use Rattle.transition_table.specs.Orders.{sizes_of}
use Rattle.std.specs.Cmp.Lexicographic.{same_text}
use Rattle.char_function.specs.inner.Known.{OnlyResults}
use Rattle.char_function.specs.inner.Left.{left_from, IsFirst, IsOrdered}
use Rattle.char_function.specs.inner.Points.{at_point, point, points}
use Rattle.char_function.proofs.ListItems.{at_map, index_second}
use Rattle.decision_diagram.proofs.ListItems.{read, read_some, read_within}
use Rattle.transition_table.proofs.SupportByTest.{char_there}
use Rattle.domains.proofs.Places.{place_of_item, at_place, place_below}
use Rattle.char_function.proofs.FixedCodes.{at_stands, cond_step, set_else, stands_at, stands_more, taking_at, taking_fits, taking_is, taking_long, taking_same}
use Rattle.char_function.proofs.CodesByRank.{at_rank}
use Rattle.decision_diagram.proofs.AllCodes.{lists_fit}
use Rattle.domains.proofs.Ranks.{length_fits}
use Rattle.domains.proofs.FittingCodes.{fits_both, fits_prefix, fits_set_any}
use Rattle.polis_base.proofs.ListTests.{all_get_or}
use Rattle.polis_base.proofs.Places.{index_append, length_map}

-- with another code the rank is as many strides further
pub rank_set : (sizes codes : List ℕ) (v code : ℕ) → v < length sizes → fits sizes codes ≡ true
    → rank sizes (slice_set codes v code) + slice_index codes v * product (drop (v + 1) sizes)
    ≡ rank sizes codes + code * product (drop (v + 1) sizes)
rank_set [] codes v code low h = absurd (omega arith)
rank_set (size ∷ sizes) [] v code low h = absurd (false≢true h)
rank_set (size ∷ sizes) (c ∷ codes) zero code low h = omega arith
rank_set (size ∷ sizes) (c ∷ codes) (suc v) code low h =
    let parts = and_parts (ltb c size) (fits sizes codes) h in
    let rest = rank_set sizes codes v code (omega arith) parts.1 in
    let e : suc v + 1 ≡ suc (v + 1) = omega arith in
    let d : product (drop (suc v + 1) (size ∷ sizes)) ≡ product (drop (v + 1) sizes) =
    ap (λ k. product (drop k (size ∷ sizes))) e in
    let one : slice_index codes v * product (drop (suc v + 1) (size ∷ sizes))
    ≡ slice_index codes v * product (drop (v + 1) sizes) =
    ap (λ k. slice_index codes v * k) d in
    let two : code * product (drop (suc v + 1) (size ∷ sizes))
    ≡ code * product (drop (v + 1) sizes) = ap (λ k. code * k) d in
    omega arith

-- a snapshot by its number
abbrev pub snapshot : Machine → ℕ → List ℕ
snapshot m i = get_or (all_codes m.vars) i []

module _ (m : Machine) where
  lists_long : length (points m) ≡ length (all_codes m.vars)
  lists_long = length_map (point m) (all_codes m.vars)

  pub snapshot_fits : (i : ℕ) → i < length (points m) → fits m.vars (snapshot m i) ≡ true
  snapshot_fits i low = let b = lists_long in
      all_get_or (fits m.vars) (all_codes m.vars) i [] (lists_fit m.vars) (omega arith)

  point_is : (i : ℕ) → i < length (points m) → at_point (points m) i ≡ point m (snapshot m i)
  point_is i low = let b = lists_long in at_map (point m) (all_codes m.vars) i [] [] (omega arith)

  pub var_of : (i w : ℕ) → i < length (points m) → w < length m.vars
      → slice_index (at_point (points m) i) w ≡ slice_index (snapshot m i) w
  var_of i w low inside =
      let l = length_fits m.vars (snapshot m i) (snapshot_fits i low) in
      ap (λ (p : List ℕ). slice_index p w) (point_is i low)
      ∙ index_append (snapshot m i) (result_codes m (snapshot m i)) w (omega arith)

  pub result_of : (i y : ℕ) → i < length (points m)
      → slice_index (at_point (points m) i) (length m.vars + y) ≡ result_code m y (snapshot m i)
  result_of i y low =
      let l = length_fits m.vars (snapshot m i) (snapshot_fits i low) in
      ap (λ (p : List ℕ). slice_index p (length m.vars + y)) (point_is i low)
      ∙ ap (λ (k : ℕ). slice_index (point m (snapshot m i)) (k + y)) (sym l)
      ∙ index_second (snapshot m i) (result_codes m (snapshot m i)) y

  pub point_fits : ResultsFit → (i : ℕ) → i < length (points m)
      → fits (sizes_of m) (at_point (points m) i) ≡ true
  point_fits law i low =
      ap (fits (sizes_of m)) (point_is i low)
      ∙ fits_both m.vars m.results (snapshot m i) (result_codes m (snapshot m i))
      (snapshot_fits i low) (law m (snapshot m i) (snapshot_fits i low))

  module _ (order : List ℕ) (ordered : IsOrdered m order) where
    pub sizes_long : length (sizes_of m) ≡ length m.vars + length m.results
    sizes_long = length-append m.vars m.results

    -- one more item is fixed
    pub left_step : (p i j : ℕ) (codes : List ℕ) → p < length order
        → length codes ≡ length (sizes_of m)
        → ((w : ℕ) → w < length (sizes_of m) → stands (take p order) w ≡ true
        → slice_index (at_point (points m) i) w ≡ slice_index (at_point (points m) j) w)
        → slice_index codes (slice_index order p)
        ≡ slice_index (at_point (points m) j) (slice_index order p)
        → left_from m order p i codes ≡ left_from m order (suc p) j codes
    left_step p i j codes low long same here =
        ap (char m)
        (taking_same (stands (take p order)) (stands (take (suc p) order)) (at_point (points m) i)
        codes (at_point (points m) j) codes refl (λ w inside.
        cond_step (stands (take p order) w) (eqb (slice_index order p) w)
        (slice_index (at_point (points m) i) w) (slice_index codes w)
        (slice_index (at_point (points m) j) w) (λ on. same w (omega arith) on) (λ off is.
        let e = eqb-true (slice_index order p) w is in
        subst (λ (v : ℕ). slice_index codes v ≡ slice_index (at_point (points m) j) v) e here)
        ∙ ap (λ (b : Bool). cond b (slice_index (at_point (points m) j) w) (slice_index codes w))
        (sym (stands_more order p w low))))

    -- it doesn't stand before its own place
    pub not_before : (p w : ℕ) → p < length order → slice_index order p ≡ w
        → stands (take p order) w ≡ false
    not_before p w low is =
        ⊎_elim
        (λ on.
        let r = stands_at order p w on in
        absurd (ordered.permutation.distinct r.0 p r.1 low (r.3 ∙ sym is)))
        (λ off. off)
        (cases_Bool (stands (take p order) w))

    -- what stands at an earlier place stands before
    pub place_before : (p w : ℕ) → stands (take p order) w ≡ true → place order w < p
    place_before p w on =
        let r = stands_at order p w on in
        let e : place order w ≡ r.0 = ap (place order) (sym r.3)
        ∙ place_of_item order ordered.permutation r.0 r.2 in
        let l = r.1 in
        omega arith

    pub before_place : (p w : ℕ) → w < length order → place order w < p
        → stands (take p order) w ≡ true
    before_place p w inside low =
        let l = place_below order ordered.permutation w inside in
        at_stands order p (place order w) w low l (at_place order w l)

    -- a support stands before
    pub support_before : (p y v : ℕ) → p < length order
        → slice_index order p ≡ length m.vars + y → y < length m.results → v < length m.vars
        → supports m y v ≡ true → stands (take p order) v ≡ true
    support_before p y v low is y_low v_low sup =
        let l = ordered.after y v y_low v_low sup in
        let e : place order (length m.vars + y) ≡ p =
        ap (place order) (sym is) ∙ place_of_item order ordered.permutation p low in
        let s = sizes_long in
        let n = ordered.long in
        before_place p v (omega arith) (omega arith)

    -- ---- a variable
    pub record IsNext (p v i c j : ℕ) : Type 0 where
      pub low : j < length (points m)
      pub snap : snapshot m j ≡ slice_set (snapshot m i) v c
      pub first : IsFirst m order (suc p) j

    pub next_first : StandsOnce → (p v i c j : ℕ) → p < length order → slice_index order p ≡ v
        → v < length m.vars → i < length (points m) → c < slice_index m.vars v
        → IsFirst m order p i → j ≡ i + c * product (drop (v + 1) m.vars) → IsNext p v i c j
    next_first once p v i c j low is inside i_low c_low zeros at =
        let b = lists_long in
        let s = snapshot m i in
        let hs = snapshot_fits i i_low in
        let t = slice_set s v c in
        let ht = fits_set_any m.vars s hs v c c_low in
        let got = read_some (all_codes m.vars) i [] (omega arith) in
        let own = (once m.vars s i got).1 in
        let none : slice_index s v ≡ 0 =
        sym (var_of i v i_low inside) ∙ zeros v inside (not_before p v low is) in
        let zero_times : slice_index s v * product (drop (v + 1) m.vars) ≡ 0 =
        ap (λ (k : ℕ). k * product (drop (v + 1) m.vars)) none
        ∙ (let z : 0 * product (drop (v + 1) m.vars) ≡ 0 = omega arith in z) in
        let r = rank_set m.vars s v c inside hs in
        let rank_is : rank m.vars t ≡ j = omega arith in
        let found : slice_get (all_codes m.vars) j ≡ Some t =
        ap (slice_get (all_codes m.vars)) (sym rank_is) ∙ at_rank m.vars t ht in
        let within = read_within (all_codes m.vars) j t found in
        let j_low : j < length (points m) = omega arith in
        let snap : snapshot m j ≡ t = read (all_codes m.vars) j t [] found in
        record {
          low = j_low;
          snap = snap;
          first = λ w w_low off.
              let parts = not_or (stands (take p order) w) (eqb (slice_index order p) w)
              (sym (stands_more order p w low) ∙ off) in
              let other : w ≡ v → ⊥ = λ e. false≢true (sym parts.1
              ∙ eq-eqb (slice_index order p) w (is ∙ sym e)) in
              var_of j w j_low w_low
              ∙ ap (λ (xs : List ℕ). slice_index xs w) snap
              ∙ set_else s v w c other
              ∙ sym (var_of i w i_low w_low)
              ∙ zeros w w_low parts.0;
        }
      where
        not_or : (a b : Bool) → (a || b) ≡ false → (a ≡ false) × (b ≡ false)
        not_or true b h = absurd (false≢true (sym h))
        not_or false b h = (refl, h)

    pub first_more : (p i : ℕ) → p < length order → IsFirst m order p i → IsFirst m order (suc p) i
    first_more p i low first w w_low off =
        first w w_low (off_before (stands (take p order) w) (eqb (slice_index order p) w)
        (sym (stands_more order p w low) ∙ off))
      where
        off_before : (a b : Bool) → (a || b) ≡ false → a ≡ false
        off_before true b h = absurd (false≢true (sym h))
        off_before false b h = refl

    pub var_step : SameOnSupport → (p v i c j : ℕ) (codes : List ℕ) → p < length order
        → slice_index order p ≡ v → v < length m.vars → i < length (points m) → IsNext p v i c j
        → c < slice_index m.vars v → length codes ≡ length (sizes_of m) → slice_index codes v ≡ c
        → left_from m order (suc p) j codes ≡ left_from m order p i codes
    var_step same p v i c j codes low is inside i_low next c_low long code =
        sym (left_step p i j codes low long agree here)
      where
        set_here : slice_index (snapshot m j) v ≡ c
        set_here =
            let l = length_fits m.vars (snapshot m i) (snapshot_fits i i_low) in
            ap (λ (xs : List ℕ). slice_index xs v) next.snap
            ∙ get_or-set_same (snapshot m i) v c 0 (omega arith)

        set_there : (w : ℕ) → (w ≡ v → ⊥)
            → slice_index (snapshot m i) w ≡ slice_index (snapshot m j) w
        set_there w other =
            sym (ap (λ (xs : List ℕ). slice_index xs w) next.snap
            ∙ set_else (snapshot m i) v w c other)

        here : slice_index codes (slice_index order p)
            ≡ slice_index (at_point (points m) j) (slice_index order p)
        here = subst (λ (k : ℕ). slice_index codes k ≡ slice_index (at_point (points m) j) k)
            (sym is) (code ∙ sym set_here ∙ sym (var_of j v next.low inside))

        apart : (w : ℕ) → stands (take p order) w ≡ true → w ≡ v → ⊥
        apart w on e = false≢true (sym (not_before p v low is)
            ∙ subst (λ (k : ℕ). stands (take p order) k ≡ true) e on)

        result_same : (y : ℕ) → y < length m.results
            → stands (take p order) (length m.vars + y) ≡ true
            → result_code m y (snapshot m i) ≡ result_code m y (snapshot m j)
        result_same y y_low on =
            same m y (snapshot m i) (snapshot m j) (snapshot_fits i i_low)
            (snapshot_fits j next.low) (λ u u_low sup.
            set_there u (λ e.
            let a = ordered.after y u y_low u_low sup in
            let b = place_before p (length m.vars + y) on in
            let d : place order u ≡ p = ap (place order) (e ∙ sym is)
            ∙ place_of_item order ordered.permutation p low in
            omega arith))

        agree : (w : ℕ) → w < length (sizes_of m) → stands (take p order) w ≡ true
            → slice_index (at_point (points m) i) w ≡ slice_index (at_point (points m) j) w
        agree w w_low on =
            ⊎_elim
            (λ less. var_of i w i_low less ∙ set_there w (apart w on)
            ∙ sym (var_of j w next.low less))
            (λ more.
            let s = sizes_long in
            let y : ℕ = w - length m.vars in
            let e : length m.vars + y ≡ w = omega arith in
            subst (λ (k : ℕ). slice_index (at_point (points m) i) k
            ≡ slice_index (at_point (points m) j) k) e
            (result_of i y i_low
            ∙ result_same y (omega arith)
            (subst (λ (k : ℕ). stands (take p order) k ≡ true) (sym e) on)
            ∙ sym (result_of j y next.low)))
            (cases_lt w (length m.vars))

    -- ---- a result
    pub result_step : ResultsFit → SameOnSupport → (p y i : ℕ) (codes : List ℕ) → p < length order
        → slice_index order p ≡ length m.vars + y → y < length m.results → i < length (points m)
        → fits (sizes_of m) codes ≡ true
        → (slice_index codes (length m.vars + y)
        == slice_index (at_point (points m) i) (length m.vars + y)
        && left_from m order (suc p) i codes) ≡ left_from m order p i codes
    result_step results_fit same p y i codes low is y_low i_low fit =
        ⊎_elim
        (λ on. ap (λ (b : Bool). b && left_from m order (suc p) i codes)
        (eq-eqb (slice_index codes item) (slice_index (at_point (points m) i) item) on)
        ∙ sym (left_step p i i codes low long (λ w w_low before. refl)
        (subst (λ (k : ℕ). slice_index codes k ≡ slice_index (at_point (points m) i) k) (sym is)
        on)))
        (λ off. ap (λ (b : Bool). b && left_from m order (suc p) i codes)
        (ne_eqb (slice_index codes item) (slice_index (at_point (points m) i) item) off)
        ∙ sym (never off))
        (cases_eq (slice_index codes item) (slice_index (at_point (points m) i) item))
      where
        item : ℕ
        item = length m.vars + y

        long : length codes ≡ length (sizes_of m)
        long = length_fits (sizes_of m) codes fit

        list : List ℕ
        list = taking (stands (take p order)) (at_point (points m) i) codes

        list_fits : fits (sizes_of m) list ≡ true
        list_fits = taking_fits (sizes_of m) (stands (take p order)) (at_point (points m) i) codes
            (point_fits results_fit i i_low) fit

        front_fits : fits m.vars (take (length m.vars) list) ≡ true
        front_fits = fits_prefix m.vars m.results list list_fits

        own : slice_index list item ≡ slice_index codes item
        own =
            let s = sizes_long in
            let l = long in
            taking_at (stands (take p order)) (at_point (points m) i) codes item (omega arith)
            ∙ ap (λ (b : Bool). cond b (slice_index (at_point (points m) i) item)
            (slice_index codes item)) (not_before p item low is)

        support_same : (u : ℕ) → u < length m.vars → supports m y u ≡ true
            → slice_index (take (length m.vars) list) u ≡ slice_index (snapshot m i) u
        support_same u u_low sup =
            let s = sizes_long in
            let l = long in
            get_or-take (length m.vars) list u 0 u_low
            ∙ taking_at (stands (take p order)) (at_point (points m) i) codes u (omega arith)
            ∙ ap (λ (b : Bool). cond b (slice_index (at_point (points m) i) u)
            (slice_index codes u)) (support_before p y u low is y_low u_low sup)
            ∙ var_of i u i_low u_low

        never : (slice_index codes item ≡ slice_index (at_point (points m) i) item → ⊥)
            → left_from m order p i codes ≡ false
        never off =
            ⊎_elim
            (λ on.
            let e : result_codes m (take (length m.vars) list) ≡ drop (length m.vars) list =
            same_text (result_codes m (take (length m.vars) list)) (drop (length m.vars) list)
            (sym on) in
            let f : slice_index (drop (length m.vars) list) y ≡ slice_index list item =
            get_or-drop (length m.vars) list y 0 in
            absurd (off (sym own ∙ sym f ∙ ap (λ (xs : List ℕ). slice_index xs y) (sym e)
            ∙ same m y (take (length m.vars) list) (snapshot m i) front_fits
            (snapshot_fits i i_low) support_same
            ∙ sym (result_of i y i_low))))
            (λ no. no)
            (cases_Bool (left_from m order p i codes))

    -- ---- where all items stand before, and where none does
    pub left_end : ResultsFit → (p i : ℕ) (codes : List ℕ) → p ≡ length order
        → i < length (points m) → fits (sizes_of m) codes ≡ true
        → left_from m order p i codes ≡ true
    left_end results_fit p i codes end i_low fit =
        let long = length_fits (sizes_of m) codes fit in
        let own = length_fits (sizes_of m) (at_point (points m) i)
        (point_fits results_fit i i_low) in
        let o = ordered.long in
        ap (char m)
        (taking_is (stands (take p order)) (at_point (points m) i) codes (at_point (points m) i)
        (omega arith) (λ w w_low.
        ap (λ (b : Bool). cond b (slice_index (at_point (points m) i) w) (slice_index codes w))
        (before_place p w (omega arith)
        (let l = place_below order ordered.permutation w (omega arith) in omega arith))))
        ∙ ap (char m) (point_is i i_low)
        ∙ char_there m (snapshot m i)
        (length_fits m.vars (snapshot m i) (snapshot_fits i i_low))

    pub left_start : (i : ℕ) (codes : List ℕ) → left_from m order 0 i codes ≡ char m codes
    left_start i codes =
        ap (char m)
        (taking_is (stands (take 0 order)) (at_point (points m) i) codes codes refl
        (λ w low. refl))

    -- ---- where only results are left
    pub left_outcome : ResultsFit → (p i j : ℕ) (codes : List ℕ)
        → OnlyResults (length m.vars) order p
        → i < length (points m) → j < length (points m) → fits (sizes_of m) codes ≡ true
        → result_codes m (snapshot m i) ≡ result_codes m (snapshot m j)
        → left_from m order p i codes ≡ left_from m order p j codes
    left_outcome results_fit p i j codes only i_low j_low fit same =
        ap (λ (xs : List ℕ). is_same (result_codes m xs) (drop (length m.vars) (list i)))
        (front i i_low)
        ∙ ap (λ (xs : List ℕ). is_same xs (drop (length m.vars) (list i))) same
        ∙ ap (is_same (result_codes m (snapshot m j))) back
        ∙ ap (λ (xs : List ℕ). is_same (result_codes m xs) (drop (length m.vars) (list j)))
        (sym (front j j_low))
      where
        list : ℕ → List ℕ
        list k = taking (stands (take p order)) (at_point (points m) k) codes

        long : length codes ≡ length (sizes_of m)
        long = length_fits (sizes_of m) codes fit

        list_long : (k : ℕ) → length (list k) ≡ length codes
        list_long k = taking_long (stands (take p order)) (at_point (points m) k) codes

        fixed : (u : ℕ) → u < length m.vars → stands (take p order) u ≡ true
        fixed u low =
            let s = sizes_long in
            let o = ordered.long in
            let within = place_below order ordered.permutation u (omega arith) in
            let at = at_place order u within in
            before_place p u (omega arith)
            (⊎_elim (λ less. less) (λ more.
            let r = only (place order u) more within in
            absurd (omega arith))
            (cases_lt (place order u) p))

        front : (k : ℕ) → k < length (points m) → take (length m.vars) (list k) ≡ snapshot m k
        front k low =
            let s = sizes_long in
            let l = list_long k in
            let c = long in
            let own = length_fits m.vars (snapshot m k) (snapshot_fits k low) in
            let t = length-take (length m.vars) (list k) in
            ext_get_or 0 (take (length m.vars) (list k)) (snapshot m k) (omega arith) (λ u u_in.
            let u_low : u < length m.vars = omega arith in
            get_or-take (length m.vars) (list k) u 0 u_low
            ∙ taking_at (stands (take p order)) (at_point (points m) k) codes u (omega arith)
            ∙ ap (λ (b : Bool). cond b (slice_index (at_point (points m) k) u)
            (slice_index codes u)) (fixed u u_low)
            ∙ var_of k u low u_low)

        back : drop (length m.vars) (list i) ≡ drop (length m.vars) (list j)
        back =
            let s = sizes_long in
            let a = list_long i in
            let b = list_long j in
            let e = long in
            let c = length-drop (length m.vars) (list i) in
            let d = length-drop (length m.vars) (list j) in
            ext_get_or 0 (drop (length m.vars) (list i)) (drop (length m.vars) (list j))
            (omega arith) (λ y y_in.
            let y_low : length m.vars + y < length codes = omega arith in
            get_or-drop (length m.vars) (list i) y 0
            ∙ taking_at (stands (take p order)) (at_point (points m) i) codes
            (length m.vars + y) y_low
            ∙ ap (λ (x : ℕ). cond (stands (take p order) (length m.vars + y)) x
            (slice_index codes (length m.vars + y)))
            (result_of i y i_low ∙ ap (λ (xs : List ℕ). slice_index xs y) same
            ∙ sym (result_of j y j_low))
            ∙ sym (taking_at (stands (take p order)) (at_point (points m) j) codes
            (length m.vars + y) y_low)
            ∙ sym (get_or-drop (length m.vars) (list j) y 0))
