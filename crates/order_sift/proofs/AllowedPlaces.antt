-- The allowed places of an item.
use Rattle.std.proofs.Common.{◌≡◌, ⊎_elim, ℕ, ◌+◌, ◌-◌, ◌<◌, ◌≤◌, true, List, [], length, get_or, slice_index, ap, sym, ◌∙◌, arith, subst}
use Rattle.std.proofs.lemmas.Bool.{cases_eq}
use Rattle.domains.specs.Orders.{place, HavePlaces, OnePlace}
use Rattle.transition_table.specs.declared.machine.Machine.{Machine}
use Rattle.transition_table.specs.Orders.{Allowed, Support}
use Rattle.decision_diagram.specs.Sets.{stands}
use Rattle.char_function.specs.Supported.{AreSupports}
use Rattle.order_sift.specs.Moves.{moved}
use Rattle.order_sift.specs.inner.Turns.{AreAllowedPlaces}
use Rattle.order_sift.proofs.MovedPlaces.{shift, shift_here, shift_low, shift_high, shift_rises, length_moved, moved_permutation, moved_place}
use Rattle.transition_table.proofs.MachineCounts.{order_length}

module _ (m : Machine) (supports : List (List ℕ)) (order : List ℕ) (have : HavePlaces)
    (one : OnePlace) (are : AreSupports m supports) (allowed : Allowed m order) where
  apart : (a b : ℕ) → a < length order → b < length order → (a ≡ b → ⊥)
      → place order a ≡ place order b → ⊥
  apart a b la lb other same =
      other (sym (have order a allowed.permutation la).1 ∙ ap (slice_index order) same
      ∙ (have order b allowed.permutation lb).1)

  module _ (x : ℕ) (lx : x < length order) where
    li : place order x < length order
    li = (have order x allowed.permutation lx).0

    there : (j w : ℕ) → j < length order → w < length order
        → place (moved order (place order x) j) w ≡ shift j (place order x) (place order w)
    there j w lj lw = moved_place order (place order x) j li lj have one allowed.permutation w lw

    here : (j : ℕ) → j < length order → place (moved order (place order x) j) x ≡ j
    here j lj = there j x lj lx ∙ shift_here j (place order x)

    from_after : (j : ℕ) → j < length order
        → ((y v : ℕ) → y < length m.results → v < length m.vars → Support m y v
        → place (moved order (place order x) j) v
        < place (moved order (place order x) j) (length m.vars + y))
        → Allowed m (moved order (place order x) j)
    from_after j lj after = record {
      permutation = moved_permutation order (place order x) j li lj allowed.permutation;
      long = length_moved order (place order x) j li lj ∙ allowed.long;
      after = after;
    }

    -- both aren't the item
    others : (j y v : ℕ) → j < length order → y < length m.results → v < length m.vars
        → Support m y v → (v ≡ x → ⊥) → (length m.vars + y ≡ x → ⊥)
        → place (moved order (place order x) j) v
        < place (moved order (place order x) j) (length m.vars + y)
    others j y v lj ly lv support one_not other_not =
        let n = order_length m order allowed in
        let lvo : v < length order = omega arith in
        let lyo : length m.vars + y < length order = omega arith in
        let a = there j v lj lvo in
        let b = there j (length m.vars + y) lj lyo in
        let r = shift_rises j (place order x) (place order v) (place order (length m.vars + y))
        (apart v x lvo lx one_not) (apart (length m.vars + y) x lyo lx other_not)
        (allowed.after y v ly lv support) in
        omega arith

    pub var_within : (before : ℕ) → x < length m.vars
        → ((k : ℕ) → k ≤ length order
        → ((y : ℕ) → y < length supports → stands (get_or supports y []) x ≡ true
        → k ≤ place order (length m.vars + y)) → k ≤ before) → place order x < before
    var_within before low greatest =
        let l = li in
        let h = greatest (place order x + 1) (omega arith) (λ y ly on.
        let lyr : y < length m.results = let e = are.long in omega arith in
        let s = (are.exact y x lyr).0 on in
        let less = allowed.after y x lyr low s.1 in
        omega arith) in
        omega arith

    pub var_places : (before : ℕ) → x < length m.vars → before ≤ length order
        → ((y : ℕ) → y < length supports → stands (get_or supports y []) x ≡ true
        → before ≤ place order (length m.vars + y))
        → ((k : ℕ) → k ≤ length order
        → ((y : ℕ) → y < length supports → stands (get_or supports y []) x ≡ true
        → k ≤ place order (length m.vars + y)) → k ≤ before)
        → AreAllowedPlaces m order (place order x) 0 (before - 1)
    var_places before low within least greatest j lj =
        let some = var_within before low greatest in
        let n = order_length m order allowed in (
          λ ok.
              let h = greatest (j + 1) (omega arith) (λ y ly on.
              let lyr : y < length m.results = let e = are.long in omega arith in
              let s = (are.exact y x lyr).0 on in
              let less = ok.after y x lyr low s.1 in
              let before_it = allowed.after y x lyr low s.1 in
              let a = here j lj in
              let b = there j (length m.vars + y) lj (omega arith) in
              let high = (shift_high j (place order x) (place order (length m.vars + y))
              before_it).0 (omega arith) in
              omega arith) in
              (omega arith, omega arith),
          λ h.
              from_after j lj (λ y v ly lv s.
              ⊎_elim
              (λ same.
              let sx : Support m y x = subst (Support m y) same s in
              let lys : y < length supports = let e = are.long in omega arith in
              let on = (are.exact y x ly).1 (low, sx) in
              let bound = least y lys on in
              let before_it = allowed.after y x ly low sx in
              let a = here j lj in
              let b = there j (length m.vars + y) lj (omega arith) in
              let bj = h.1 in
              let high = (shift_high j (place order x) (place order (length m.vars + y))
              before_it).1 (omega arith) in
              let e : place (moved order (place order x) j) v
              ≡ place (moved order (place order x) j) x =
              ap (place (moved order (place order x) j)) same in
              omega arith)
              (λ other. others j y v lj ly lv s other (λ same. omega arith))
              (cases_eq v x)),
        )

    pub result_places : (y after : ℕ) → y < length m.results → x ≡ length m.vars + y
        → ((v : ℕ) → stands (get_or supports y []) v ≡ true → place order v < after)
        → ((k : ℕ) → ((v : ℕ) → stands (get_or supports y []) v ≡ true → place order v < k)
        → after ≤ k) → AreAllowedPlaces m order (place order x) after (length order - 1)
    result_places y after ly is each least j lj =
        let n = order_length m order allowed in (
          λ ok.
              let h = least j (λ v on.
              let s = (are.exact y v ly).0 on in
              let less = ok.after y v ly s.0 s.1 in
              let before_it = allowed.after y v ly s.0 s.1 in
              let lv : v < length m.vars = s.0 in
              let a = here j lj in
              let b = there j v lj (omega arith) in
              let e : place order x ≡ place order (length m.vars + y) = ap (place order) is in
              let f : place (moved order (place order x) j) x
              ≡ place (moved order (place order x) j) (length m.vars + y) =
              ap (place (moved order (place order x) j)) is in
              (shift_low j (place order x) (place order v) (omega arith)).0 (omega arith)) in
              (h, omega arith),
          λ h.
              from_after j lj (λ z v lz lv s.
              ⊎_elim
              (λ same.
              let sy : Support m y v = subst (λ k. Support m k v) same s in
              let on = (are.exact y v ly).1 (lv, sy) in
              let low = each v on in
              let before_it = allowed.after y v ly lv sy in
              let a = here j lj in
              let b = there j v lj (omega arith) in
              let e : place order x ≡ place order (length m.vars + y) = ap (place order) is in
              let item : length m.vars + z ≡ x = omega arith in
              let f : place (moved order (place order x) j) (length m.vars + z)
              ≡ place (moved order (place order x) j) x =
              ap (place (moved order (place order x) j)) item in
              let aj = h.0 in
              let g = (shift_low j (place order x) (place order v) (omega arith)).1 (omega arith) in
              omega arith)
              (λ other. others j z v lj lz lv s (λ same. omega arith) (λ same. other (omega arith)))
              (cases_eq z y)),
        )

    pub result_first : (y after : ℕ) → y < length m.results → x ≡ length m.vars + y
        → ((k : ℕ) → ((v : ℕ) → stands (get_or supports y []) v ≡ true → place order v < k)
        → after ≤ k) → after ≤ place order x
    result_first y after ly is least =
        least (place order x) (λ v on.
        let s = (are.exact y v ly).0 on in
        let before_it = allowed.after y v ly s.0 s.1 in
        let e : place order x ≡ place order (length m.vars + y) = ap (place order) is in
        omega arith)
