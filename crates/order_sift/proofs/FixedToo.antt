-- What is left of the characteristic function where one more item is fixed.
use Rattle.std.proofs.Common.{◌≡◌, ⊎_elim, ℕ, zero, suc, ◌+◌, ◌-◌, ◌<◌, Bool, true, false, cond, ◌||◌, eqb, List, [], ◌∷◌, map, length, take, slice_index, slice_set, refl, ap, sym, ◌∙◌, arith, subst, length-append}
use Rattle.std.specs.List.{list_all}
use Rattle.std.proofs.lemmas.Bool.{and_parts, cases_eq, cases_lt, cases_Bool, eq-eqb, ne_eqb, true≢false}
use Rattle.std.proofs.lemmas.List.{get_or_append_left}
use Rattle.domains.specs.AllCodes.{all_codes}
use Rattle.domains.specs.Tables.{fits}
use Rattle.transition_table.specs.declared.machine.Machine.{Machine}
use Rattle.transition_table.specs.Computed.{char, result_code, supports}
use Rattle.transition_table.specs.Orders.{sizes_of}
use Rattle.decision_diagram.specs.Sets.{taking, arising}
use Rattle.decision_diagram.specs.Truths.{same_truth}
use Rattle.order_sift.specs.inner.Below.{Below}
use Rattle.order_sift.specs.inner.Classes.{fixed_too, IsNextItem}
use Rattle.order_sift.proofs.ListUpdates.{cond_same}
use Rattle.char_function.proofs.FixedCodes.{set_else, taking_same, taking_is, taking_at, taking_fits}
use Rattle.order_sift.proofs.Different.{map_values}
use Rattle.order_sift.proofs.TruePoints.{point, point_fits, point_var, point_result, point_true, true_point, snapshot_of}
use Rattle.domains.proofs.Ranks.{length_fits}
use Rattle.transition_table.proofs.Ranges.{below_size}
use Rattle.decision_diagram.proofs.Distinct.{truth_same}
use Rattle.domains.proofs.FittingCodes.{fits_set}
use Rattle.polis_base.proofs.Bools.{same_truth as iff_same}
use Rattle.polis_base.proofs.Places.{index_set, length_set}

-- two functions are the same where their values on all codes that fit are
map_on : (p : List ℕ → Bool) (g h : List ℕ → Bool) (xs : List (List ℕ)) → list_all p xs ≡ true
    → ((x : List ℕ) → p x ≡ true → g x ≡ h x) → map g xs ≡ map h xs
map_on p g h [] all same = refl
map_on p g h (x ∷ xs) all same =
    let parts = and_parts (p x) (list_all p xs) all in
    ap (λ (y : Bool). y ∷ map g xs) (same x parts.0)
    ∙ ap (λ (ys : List Bool). h x ∷ ys) (map_on p g h xs parts.1 same)

module _ (m : Machine) (below : Below) where
  -- the value where these items are fixed as the first list has them
  abbrev pub value : (ℕ → Bool) → List ℕ → List ℕ → Bool
  value fixed a b = char m (taking fixed a b)

  pub same_from : (one other : ℕ → Bool) (a c : List ℕ)
      → ((b : List ℕ) → fits (sizes_of m) b ≡ true → value one a b ≡ value other c b)
      → arising (char m) (sizes_of m) one a ≡ arising (char m) (sizes_of m) other c
  same_from one other a c each =
      map_on (fits (sizes_of m)) (value one a) (value other c) (all_codes (sizes_of m))
      (below.lists_fit (sizes_of m)) each

  pub same_to : (one other : ℕ → Bool) (a c : List ℕ)
      → arising (char m) (sizes_of m) one a ≡ arising (char m) (sizes_of m) other c → (b : List ℕ)
      → fits (sizes_of m) b ≡ true → value one a b ≡ value other c b
  same_to one other a c h b fit =
      truth_same (value one a b) (value other c b)
      (below.lists_all (sizes_of m) (λ x. same_truth (value one a x) (value other c x))
      (map_values (value one a) (value other c) (all_codes (sizes_of m)) h) b fit)

  itself : (fixed : ℕ → Bool) (a : List ℕ) → taking fixed a a ≡ a
  itself fixed a = taking_is fixed a a a refl (λ w low. cond_same (fixed w) (slice_index a w))

  -- the codes of a list that are fixed decide what is left
  pub same_where_fixed : (fixed : ℕ → Bool) (a c : List ℕ)
      → ((w : ℕ) → w < length (sizes_of m) → fixed w ≡ true → slice_index a w ≡ slice_index c w)
      → arising (char m) (sizes_of m) fixed a ≡ arising (char m) (sizes_of m) fixed c
  same_where_fixed fixed a c each =
      same_from fixed fixed a c (λ b fit.
      ap (char m) (taking_same fixed fixed a b c b refl (λ w low.
      let lb = length_fits (sizes_of m) b fit in
      ⊎_elim
      (λ on. ap (λ (n : ℕ). cond (fixed w) n (slice_index b w)) (each w (omega arith) on))
      (λ off. ap (λ t. cond t (slice_index a w) (slice_index b w)) off
      ∙ sym (ap (λ t. cond t (slice_index c w) (slice_index b w)) off))
      (cases_Bool (fixed w)))))

  -- where all is fixed, the points leave the same
  pub all_fixed : (fixed : ℕ → Bool) (s t : List ℕ) → fits m.vars s ≡ true → fits m.vars t ≡ true
      → ((w : ℕ) → w < length (sizes_of m) → fixed w ≡ true)
      → arising (char m) (sizes_of m) fixed (point m s)
      ≡ arising (char m) (sizes_of m) fixed (point m t)
  all_fixed fixed s t hs ht all =
      same_from fixed fixed (point m s) (point m t)
      (λ b fit. whole s hs b fit ∙ sym (whole t ht b fit))
    where
      whole : (s : List ℕ) → fits m.vars s ≡ true → (b : List ℕ) → fits (sizes_of m) b ≡ true
          → value fixed (point m s) b ≡ true
      whole s hs b fit =
          let lb = length_fits (sizes_of m) b fit in
          let lp = length_fits (sizes_of m) (point m s) (point_fits m below s hs) in
          ap (char m) (taking_is fixed (point m s) b (point m s) (omega arith)
          (λ w low. ap (λ t. cond t (slice_index (point m s) w) (slice_index b w))
          (all w (omega arith)))) ∙ point_true m below s hs

  -- ---- a result
  module _ (fixed : ℕ → Bool) (y : ℕ) (ly : y < length m.results)
      (next : IsNextItem m fixed (length m.vars + y)) where
    items : length (sizes_of m) ≡ length m.vars + length m.results
    items = length-append m.vars m.results

    -- fixing it too is setting its code
    fixing : (s b : List ℕ) → fits m.vars s ≡ true → fits (sizes_of m) b ≡ true
        → value (fixed_too fixed (length m.vars + y)) (point m s) b
        ≡ value fixed (point m s)
        (slice_set b (length m.vars + y) (slice_index (point m s) (length m.vars + y)))
    fixing s b hs fit =
        let x = length m.vars + y in
        let p = slice_index (point m s) x in
        let lb = length_fits (sizes_of m) b fit in
        let n = items in
        ap (char m) (taking_same (fixed_too fixed x) fixed (point m s) b (point m s)
        (slice_set b x p) (sym (length_set b x p)) (λ w low.
        ⊎_elim
        (λ here.
        let e : slice_index (slice_set b x p) w ≡ p =
        ap (slice_index (slice_set b x p)) (sym here) ∙ index_set b x p (omega arith) in
        let off : fixed w ≡ false = ap fixed (sym here) ∙ next.free in
        let on : (fixed w || eqb x w) ≡ true = ap (λ t. t || eqb x w) off ∙ eq-eqb x w here in
        ap (λ t. cond t (slice_index (point m s) w) (slice_index b w)) on
        ∙ ap (slice_index (point m s)) (sym here)
        ∙ sym (ap (λ t. cond t (slice_index (point m s) w) (slice_index (slice_set b x p) w))
        off ∙ e))
        (λ other.
        let e : slice_index (slice_set b x p) w ≡ slice_index b w =
        set_else b x w p (λ same. other (sym same)) in
        let same : (fixed w || eqb x w) ≡ fixed w =
        ap (λ t. fixed w || t) (ne_eqb x w other) ∙ or_false (fixed w) in
        ap (λ t. cond t (slice_index (point m s) w) (slice_index b w)) same
        ∙ ap (λ (k : ℕ). cond (fixed w) (slice_index (point m s) w) k) (sym e))
        (cases_eq x w)))
      where
        or_false : (t : Bool) → (t || false) ≡ t
        or_false true = refl
        or_false false = refl

    -- where it is true, the result's code is that of the snapshot
    decided : (s b : List ℕ) → fits m.vars s ≡ true → fits (sizes_of m) b ≡ true
        → value fixed (point m s) b ≡ true
        → slice_index b (length m.vars + y) ≡ slice_index (point m s) (length m.vars + y)
    decided s b hs fit on =
        let x = length m.vars + y in
        let q = taking fixed (point m s) b in
        let lb = length_fits (sizes_of m) b fit in
        let n = items in
        let fit_q = taking_fits (sizes_of m) fixed (point m s) b (point_fits m below s hs) fit in
        let t = take (length m.vars) q in
        let ht = snapshot_of m below q fit_q in
        let is : q ≡ point m t = true_point m below q on in
        let code : result_code m y t ≡ result_code m y s =
        below.same_on_support m y t s ht hs (λ v lv support.
        let f = next.stands_on y v ly lv refl support in
        sym (point_var m below t v ht lv)
        ∙ ap (λ (xs : List ℕ). slice_index xs v) (sym is)
        ∙ taking_at fixed (point m s) b v (omega arith)
        ∙ ap (λ t. cond t (slice_index (point m s) v) (slice_index b v)) f
        ∙ point_var m below s v hs lv)
        in
        sym (taking_at fixed (point m s) b x (omega arith)
        ∙ ap (λ t. cond t (slice_index (point m s) x) (slice_index b x)) next.free)
        ∙ ap (λ (xs : List ℕ). slice_index xs x) is
        ∙ point_result m below t y ht
        ∙ code
        ∙ sym (point_result m below s y hs)

    pub result_step : (s t : List ℕ) → fits m.vars s ≡ true → fits m.vars t ≡ true
        → (arising (char m) (sizes_of m) fixed (point m s)
        ≡ arising (char m) (sizes_of m) fixed (point m t)
        → (slice_index (point m s) (length m.vars + y)
        ≡ slice_index (point m t) (length m.vars + y))
        × (arising (char m) (sizes_of m) (fixed_too fixed (length m.vars + y)) (point m s)
        ≡ arising (char m) (sizes_of m) (fixed_too fixed (length m.vars + y)) (point m t)))
        × (slice_index (point m s) (length m.vars + y) ≡ slice_index (point m t) (length m.vars + y)
        → arising (char m) (sizes_of m) (fixed_too fixed (length m.vars + y)) (point m s)
        ≡ arising (char m) (sizes_of m) (fixed_too fixed (length m.vars + y)) (point m t)
        → arising (char m) (sizes_of m) fixed (point m s)
        ≡ arising (char m) (sizes_of m) fixed (point m t))
    result_step s t hs ht = (
      λ h.
          let x = length m.vars + y in
          let each = same_to fixed fixed (point m s) (point m t) h in
          let own : value fixed (point m s) (point m s) ≡ true =
          ap (char m) (itself fixed (point m s)) ∙ point_true m below s hs in
          let fit_s = point_fits m below s hs in
          let code : slice_index (point m s) x ≡ slice_index (point m t) x =
          decided t (point m s) ht fit_s (sym (each (point m s) fit_s) ∙ own) in (
            code,
            same_from (fixed_too fixed x) (fixed_too fixed x) (point m s) (point m t) (λ b fit.
                let n = items in
                let p = slice_index (point m s) x in
                fixing s b hs fit
                ∙ each (slice_set b x p)
                (fits_set (sizes_of m) b x p fit
                (below_size (sizes_of m) (point m s) x fit_s (omega arith)))
                ∙ ap (λ (k : ℕ). value fixed (point m t) (slice_set b x k)) code
                ∙ sym (fixing t b ht fit)),
          ),
      λ code h.
          let x = length m.vars + y in
          let each = same_to (fixed_too fixed x) (fixed_too fixed x) (point m s) (point m t) h in
          same_from fixed fixed (point m s) (point m t) (λ b fit.
          ⊎_elim
          (λ at.
          let own : slice_set b x (slice_index (point m s) x) ≡ b =
          set_same b x (slice_index (point m s) x) at in
          let other : slice_set b x (slice_index (point m t) x) ≡ b =
          set_same b x (slice_index (point m t) x) (at ∙ code) in
          ap (value fixed (point m s)) (sym own) ∙ sym (fixing s b hs fit) ∙ each b fit
          ∙ fixing t b ht fit ∙ ap (value fixed (point m t)) other)
          (λ apart.
          iff_same (value fixed (point m s) b) (value fixed (point m t) b)
          (λ on. absurd (apart (decided s b hs fit on)))
          (λ on. absurd (apart (decided t b ht fit on ∙ sym code))))
          (cases_eq (slice_index b x) (slice_index (point m s) x))),
    )
      where
        set_same : (xs : List ℕ) (v code : ℕ) → slice_index xs v ≡ code → slice_set xs v code ≡ xs
        set_same [] v code h = refl
        set_same (x ∷ xs) zero code h = ap (λ (n : ℕ). n ∷ xs) (sym h)
        set_same (x ∷ xs) (suc v) code h = ap (λ (ns : List ℕ). x ∷ ns) (set_same xs v code h)

  -- ---- a variable
  module _ (fixed : ℕ → Bool) (v : ℕ) (lv : v < length m.vars) (next : IsNextItem m fixed v) where
    -- fixing it too is setting its code
    fixing_var : (s b : List ℕ) (code : ℕ) → fits m.vars s ≡ true → fits (sizes_of m) b ≡ true
        → code < slice_index m.vars v → value (fixed_too fixed v) (point m (slice_set s v code)) b
        ≡ value fixed (point m s) (slice_set b v code)
    fixing_var s b code hs fit low_code =
        let lb = length_fits (sizes_of m) b fit in
        let ls = length_fits m.vars s hs in
        let n : length (sizes_of m) ≡ length m.vars + length m.results =
        length-append m.vars m.results in
        let hc = fits_set m.vars s v code hs low_code in
        let other_point = point m (slice_set s v code) in
        ap (char m) (taking_same (fixed_too fixed v) fixed other_point b (point m s)
        (slice_set b v code) (sym (length_set b v code)) (λ w low.
        ⊎_elim
        (λ here.
        let e : slice_index (slice_set b v code) w ≡ code =
        ap (slice_index (slice_set b v code)) (sym here) ∙ index_set b v code (omega arith) in
        let off : fixed w ≡ false = ap fixed (sym here) ∙ next.free in
        let on : (fixed w || eqb v w) ≡ true = ap (λ t. t || eqb v w) off ∙ eq-eqb v w here in
        ap (λ t. cond t (slice_index other_point w) (slice_index b w)) on
        ∙ ap (slice_index other_point) (sym here)
        ∙ point_var m below (slice_set s v code) v hc lv
        ∙ index_set s v code (omega arith)
        ∙ sym (ap (λ t. cond t (slice_index (point m s) w) (slice_index (slice_set b v code) w))
        off ∙ e))
        (λ other.
        let e : slice_index (slice_set b v code) w ≡ slice_index b w =
        set_else b v w code (λ same. other (sym same)) in
        let same : (fixed w || eqb v w) ≡ fixed w =
        ap (λ t. fixed w || t) (ne_eqb v w other) ∙ or_false (fixed w) in
        ⊎_elim
        (λ on.
        let at : slice_index other_point w ≡ slice_index (point m s) w = ⊎_elim
        (λ is_var. point_var m below (slice_set s v code) w hc is_var
        ∙ set_else s v w code (λ k. other (sym k)) ∙ sym (point_var m below s w hs is_var))
        (λ is_result.
        let y = w - length m.vars in
        let ey : w ≡ length m.vars + y = omega arith in
        let ly : y < length m.results = omega arith in
        let unsupported : supports m y v ≡ true → ⊥ =
        λ h. true≢false (sym on ∙ ap fixed ey ∙ next.carries y ly lv h) in
        ap (slice_index other_point) ey
        ∙ point_result m below (slice_set s v code) y hc
        ∙ below.same_on_support m y (slice_set s v code) s hc hs
        (λ u lu h. set_else s v u code (λ k.
        unsupported (subst (λ (z : ℕ). supports m y z ≡ true) k h)))
        ∙ sym (point_result m below s y hs)
        ∙ ap (slice_index (point m s)) (sym ey))
        (cases_lt w (length m.vars))
        in
        ap (λ t. cond t (slice_index other_point w) (slice_index b w)) (same ∙ on)
        ∙ at
        ∙ sym (ap (λ t. cond t (slice_index (point m s) w)
        (slice_index (slice_set b v code) w)) on))
        (λ off.
        ap (λ t. cond t (slice_index other_point w) (slice_index b w)) (same ∙ off)
        ∙ sym (ap (λ t. cond t (slice_index (point m s) w) (slice_index (slice_set b v code) w))
        off ∙ e))
        (cases_Bool (fixed w)))
        (cases_eq v w)))
      where
        or_false : (t : Bool) → (t || false) ≡ t
        or_false true = refl
        or_false false = refl

    size_here : slice_index (sizes_of m) v ≡ slice_index m.vars v
    size_here = get_or_append_left m.vars m.results 0 v lv

    pub var_to : (s t : List ℕ) → fits m.vars s ≡ true → fits m.vars t ≡ true
        → arising (char m) (sizes_of m) fixed (point m s)
        ≡ arising (char m) (sizes_of m) fixed (point m t) → (code : ℕ) → code < slice_index m.vars v
        → arising (char m) (sizes_of m) (fixed_too fixed v) (point m (slice_set s v code))
        ≡ arising (char m) (sizes_of m) (fixed_too fixed v) (point m (slice_set t v code))
    var_to s t hs ht h code low =
        let each = same_to fixed fixed (point m s) (point m t) h in
        let size = size_here in
        same_from (fixed_too fixed v) (fixed_too fixed v) (point m (slice_set s v code))
        (point m (slice_set t v code)) (λ b fit.
        fixing_var s b code hs fit low
        ∙ each (slice_set b v code) (fits_set (sizes_of m) b v code fit (omega arith))
        ∙ sym (fixing_var t b code ht fit low))

    pub var_from : (s t : List ℕ) → fits m.vars s ≡ true → fits m.vars t ≡ true
        → ((code : ℕ) → code < slice_index m.vars v
        → arising (char m) (sizes_of m) (fixed_too fixed v) (point m (slice_set s v code))
        ≡ arising (char m) (sizes_of m) (fixed_too fixed v) (point m (slice_set t v code)))
        → arising (char m) (sizes_of m) fixed (point m s)
        ≡ arising (char m) (sizes_of m) fixed (point m t)
    var_from s t hs ht every =
        let size = size_here in
        let n : length (sizes_of m) ≡ length m.vars + length m.results =
        length-append m.vars m.results in
        same_from fixed fixed (point m s) (point m t) (λ b fit.
        let code = slice_index b v in
        let at = below_size (sizes_of m) b v fit (omega arith) in
        let low : code < slice_index m.vars v = omega arith in
        let own : slice_set b v code ≡ b = set_own b v in
        ap (value fixed (point m s)) (sym own)
        ∙ sym (fixing_var s b code hs fit low)
        ∙ same_to (fixed_too fixed v) (fixed_too fixed v) (point m (slice_set s v code))
        (point m (slice_set t v code)) (every code low) b fit
        ∙ fixing_var t b code ht fit low
        ∙ ap (value fixed (point m t)) own)
      where
        set_own : (xs : List ℕ) (k : ℕ) → slice_set xs k (slice_index xs k) ≡ xs
        set_own [] k = refl
        set_own (x ∷ xs) zero = refl
        set_own (x ∷ xs) (suc k) = ap (λ (ns : List ℕ). x ∷ ns) (set_own xs k)
