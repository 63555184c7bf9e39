-- Numbers for what is left after one more item is fixed, and before.
use Rattle.std.proofs.Common.{◌≡◌, ℕ, ◌+◌, ◌-◌, ◌*◌, ◌<◌, ◌≤◌, Bool, List, [], length, drop, get_or, slice_index, slice_set, ap, sym, ◌∙◌, arith, subst}
use Rattle.domains.specs.Tables.{product, rank}
use Rattle.transition_table.specs.declared.machine.Machine.{Machine}
use Rattle.transition_table.specs.Computed.{char, result_code}
use Rattle.transition_table.specs.Orders.{sizes_of}
use Rattle.decision_diagram.specs.Sets.{arising}
use Rattle.order_sift.specs.inner.Below.{Below}
use Rattle.order_sift.specs.inner.Classes.{snapshot_at, AreClasses, IsNextItem, fixed_too}
use Rattle.order_sift.specs.inner.Pairs.{AreBelow}
use Rattle.order_sift.specs.inner.Points.{AreVariables, are_within}
use Rattle.order_sift.proofs.FixedToo.{result_step, var_to, var_from}
use Rattle.order_sift.proofs.TruePoints.{point, point_result, snapshot_fits, snapshot_rank, at_rank, rank_low}
use Rattle.char_function.proofs.LeftFrom.{rank_set}
use Rattle.domains.proofs.FittingCodes.{fits_set}

-- the snapshot with another code of a variable
pub record IsNeighbour (m : Machine) (i v code : ℕ) : Type 0 where
  pub from : slice_index (snapshot_at m i) v * product (drop (v + 1) m.vars)
      ≤ i + code * product (drop (v + 1) m.vars)
  pub to : i + code * product (drop (v + 1) m.vars)
      < product m.vars + slice_index (snapshot_at m i) v * product (drop (v + 1) m.vars)
  pub within : i + code * product (drop (v + 1) m.vars) - slice_index (snapshot_at m i) v * product
      (drop (v + 1) m.vars) < product m.vars
  pub is : snapshot_at m
      (i + code * product (drop (v + 1) m.vars) - slice_index (snapshot_at m i) v * product
      (drop (v + 1) m.vars)) ≡ slice_set (snapshot_at m i) v code

-- its number
abbrev place_of : Machine → ℕ → ℕ → ℕ → ℕ
place_of m v i c =
    i + c * product (drop (v + 1) m.vars) - slice_index (snapshot_at m i) v * product
    (drop (v + 1) m.vars)

pub neighbours : (m : Machine) (below : Below) (i v code : ℕ) → i < product m.vars
    → v < length m.vars → code < slice_index m.vars v → IsNeighbour m i v code
neighbours m below i v code li lv lc =
    let s = snapshot_at m i in
    let hs = snapshot_fits m below i li in
    let t = slice_set s v code in
    let ht = fits_set m.vars s v code hs lc in
    let r = rank_set m.vars s v code lv hs in
    let own = snapshot_rank m below i li in
    let low = rank_low m below t ht in
    let a = slice_index s v * product (drop (v + 1) m.vars) in
    let b = code * product (drop (v + 1) m.vars) in
    let e : rank m.vars t + a ≡ i + b = r ∙ ap (λ k. k + b) own in
    let f : i + b - a ≡ rank m.vars t = minus (rank m.vars t) a (i + b) e in
    record {
      from = at_least (rank m.vars t) a (i + b) e;
      to = under (rank m.vars t) a (i + b) (product m.vars) e low;
      within = subst (λ k. k < product m.vars) (sym f) low;
      is = ap (snapshot_at m) f ∙ at_rank m below t ht;
    }
  where
    minus : (r a s : ℕ) → r + a ≡ s → s - a ≡ r
    minus r a s e = omega arith

    at_least : (r a s : ℕ) → r + a ≡ s → a ≤ s
    at_least r a s e = omega arith

    under : (r a s n : ℕ) → r + a ≡ s → r < n → s < n + a
    under r a s n e low = omega arith

-- each code that the variable has leads to a snapshot
pub within_of : (m : Machine) (below : Below) (codes : List (List ℕ)) (vars : AreVariables m codes)
    (v code stride : ℕ) (shown : List ℕ) → v < length m.vars → code < slice_index m.vars v
    → stride ≡ product (drop (v + 1) m.vars) → get_or codes v [] ≡ shown
    → are_within shown stride code
within_of m below codes vars v code stride shown lv lc is column =
    subst (λ (k : ℕ). are_within shown k code) (sym is)
    (subst (λ (xs : List ℕ). are_within xs (product (drop (v + 1) m.vars)) code) column
    (λ i li.
    let l = vars.long v lv in
    let low : i < product m.vars = omega arith in
    let n = neighbours m below i v code low lv lc in
    let e : slice_index (get_or codes v []) i * product (drop (v + 1) m.vars)
    ≡ slice_index (snapshot_at m i) v * product (drop (v + 1) m.vars) =
    ap (λ k. k * product (drop (v + 1) m.vars)) (vars.code v i lv low) in
    let a = n.from in
    let b = n.to in
    (omega arith, omega arith)))

pub result_freed : (m : Machine) (below : Below) (y : ℕ) (classes codes made : List ℕ)
    → y < length m.results
    → ((i : ℕ) → i < product m.vars → slice_index codes i ≡ result_code m y (snapshot_at m i))
    → length made ≡ product m.vars → AreBelow (product m.vars) made
    → ((i j : ℕ) → i < product m.vars → j < product m.vars
    → (slice_index made i ≡ slice_index made j
    → (slice_index classes i ≡ slice_index classes j) × (slice_index codes i ≡ slice_index codes j))
    × ((slice_index classes i ≡ slice_index classes j) × (slice_index codes i ≡ slice_index codes j)
    → slice_index made i ≡ slice_index made j)) → (fixed : ℕ → Bool)
    → IsNextItem m fixed (length m.vars + y)
    → AreClasses m (fixed_too fixed (length m.vars + y)) classes → AreClasses m fixed made
result_freed m below y classes codes made ly code long small same fixed next are = record {
  long = long;
  below = small;
  same = λ i j li lj.
      let s = snapshot_at m i in
      let t = snapshot_at m j in
      let hs = snapshot_fits m below i li in
      let ht = snapshot_fits m below j lj in
      let step = result_step m below fixed y ly next s t hs ht in
      let one = sym (point_result m below s y hs) in
      let other = sym (point_result m below t y ht) in (
        λ h.
            let both = (same i j li lj).0 h in
            step.1 (point_result m below s y hs ∙ sym (code i li) ∙ both.1 ∙ code j lj ∙ other)
            ((are.same i j li lj).0 both.0),
        λ h.
            let both = step.0 h in
            (same i j li lj).1 (
              (are.same i j li lj).1 both.1,
              code i li ∙ one ∙ both.0
                  ∙ point_result m below t y ht ∙ sym (code j lj),
            ),
      );
}

pub variable_freed : (m : Machine) (below : Below) (v : ℕ) (classes codes made : List ℕ)
    (stride : ℕ) → v < length m.vars
    → ((i : ℕ) → i < product m.vars → slice_index codes i ≡ slice_index (snapshot_at m i) v)
    → stride ≡ product (drop (v + 1) m.vars) → length made ≡ product m.vars
    → AreBelow (product m.vars) made
    → ((i j : ℕ) → i < product m.vars → j < product m.vars
    → (slice_index made i ≡ slice_index made j → (c : ℕ) → c < slice_index m.vars v
    → slice_index classes (i + c * stride - slice_index codes i * stride)
    ≡ slice_index classes (j + c * stride - slice_index codes j * stride))
    × (((c : ℕ) → c < slice_index m.vars v
    → slice_index classes (i + c * stride - slice_index codes i * stride)
    ≡ slice_index classes (j + c * stride - slice_index codes j * stride))
    → slice_index made i ≡ slice_index made j)) → (fixed : ℕ → Bool) → IsNextItem m fixed v
    → AreClasses m (fixed_too fixed v) classes → AreClasses m fixed made
variable_freed m below v classes codes made stride lv code is long small same fixed next are =
    record {
      long = long;
      below = small;
      same = λ i j li lj.
          let s = snapshot_at m i in
          let t = snapshot_at m j in
          let hs = snapshot_fits m below i li in
          let ht = snapshot_fits m below j lj in (
            λ h.
                var_from m below fixed v lv next s t hs ht (λ c lc.
                let one = neighbours m below i v c li lv lc in
                let other = neighbours m below j v c lj lv lc in
                let equal = (same i j li lj).0 h c lc in
                let e = at i c li in
                let f = at j c lj in
                let left = (are.same (place_of m v i c) (place_of m v j c) one.within other.within).0
                (sym e ∙ equal ∙ f) in
                ap (λ (q : List ℕ). arising (char m) (sizes_of m) (fixed_too fixed v) (point m q))
                (sym one.is) ∙ left
                ∙ ap (λ (q : List ℕ). arising (char m) (sizes_of m) (fixed_too fixed v) (point m q))
                other.is),
            λ h.
                (same i j li lj).1 (λ c lc.
                let one = neighbours m below i v c li lv lc in
                let other = neighbours m below j v c lj lv lc in
                let each = var_to m below fixed v lv next s t hs ht h c lc in
                at i c li
                ∙ (are.same (place_of m v i c) (place_of m v j c) one.within other.within).1
                (ap (λ (q : List ℕ). arising (char m) (sizes_of m) (fixed_too fixed v) (point m q))
                one.is ∙ each ∙ ap
                (λ (q : List ℕ). arising (char m) (sizes_of m) (fixed_too fixed v) (point m q))
                (sym other.is))
                ∙ sym (at j c lj)),
          );
    }
  where
    at : (i c : ℕ) → i < product m.vars
        → slice_index classes (i + c * stride - slice_index codes i * stride)
        ≡ slice_index classes
        (i + c * product (drop (v + 1) m.vars) - slice_index (snapshot_at m i) v * product
        (drop (v + 1) m.vars))
    at i c li = ap (λ k. slice_index classes (i + c * k - slice_index codes i * k)) is
        ∙ ap (λ k. slice_index classes
        (i + c * product (drop (v + 1) m.vars) - k * product (drop (v + 1) m.vars))) (code i li)
