-- The walk through an order.
use Rattle.std.proofs.Common.{◌≡◌, ⊎_elim, ℕ, suc, ◌+◌, ◌<◌, ◌≤◌, Bool, true, false, ◌||◌, eqb, nat_lt, List, length, take, slice_index, refl, ap, sym, ◌∙◌, arith}
use Rattle.std.proofs.lemmas.Bool.{cases_eq, cases_lt, eq-eqb, le-ltb, lt-ltb, ne_eqb}
use Rattle.decision_diagram.specs.Sets.{stands}
use Rattle.char_function.proofs.FixedCodes.{stands_more}

-- the variables of the first places stand by their numbers, and are those below the next
pub record RisesTo (vars : ℕ) (order : List ℕ) (place next : ℕ) : Type 0 where
  pub each : (p v : ℕ) → p < place → slice_index order p < vars → v < vars
      → stands (take p order) v ≡ nat_lt v (slice_index order p)
  pub so_far : (v : ℕ) → v < vars → stands (take place order) v ≡ nat_lt v next

each_more : (vars : ℕ) (order : List ℕ) (place next : ℕ) → RisesTo vars order place next
    → (slice_index order place < vars → slice_index order place ≡ next) → (p v : ℕ)
    → p < place + 1 → slice_index order p < vars → v < vars
    → stands (take p order) v ≡ nat_lt v (slice_index order p)
each_more vars order place next rises is p v p_low below v_low =
    ⊎_elim
    (λ less. rises.each p v less below v_low)
    (λ more.
    let e : p ≡ place = omega arith in
    let f = ap (slice_index order) e in
    ap (λ (k : ℕ). stands (take k order) v) e
    ∙ rises.so_far v v_low
    ∙ ap (nat_lt v) (sym (f ∙ is (omega arith))))
    (cases_lt p place)

pub rises_var : (vars : ℕ) (order : List ℕ) (place next : ℕ) → RisesTo vars order place next
    → place < length order → slice_index order place ≡ next
    → RisesTo vars order (place + 1) (next + 1)
rises_var vars order place next rises low is = record {
  each = each_more vars order place next rises (λ below. is);
  so_far = λ v v_low.
      let e : place + 1 ≡ suc place = omega arith in
      ap (λ (k : ℕ). stands (take k order) v) e
      ∙ stands_more order place v low
      ∙ ap (λ (b : Bool). b || eqb (slice_index order place) v) (rises.so_far v v_low)
      ∙ ap (λ (k : ℕ). nat_lt v next || eqb k v) is
      ∙ one_more v next;
}
  where
    or_true : (a b : Bool) → b ≡ true → (a || b) ≡ true
    or_true true b h = refl
    or_true false b h = h

    or_first : (a b : Bool) → b ≡ false → (a || b) ≡ a
    or_first true b h = refl
    or_first false b h = h

    one_more : (v next : ℕ) → (nat_lt v next || eqb next v) ≡ nat_lt v (next + 1)
    one_more v next =
        ⊎_elim
        (λ same. or_true (nat_lt v next) (eqb next v) (eq-eqb next v same)
        ∙ sym (lt-ltb v (next + 1) (omega arith)))
        (λ other. or_first (nat_lt v next) (eqb next v) (ne_eqb next v other)
        ∙ ⊎_elim
        (λ less. lt-ltb v next less ∙ sym (lt-ltb v (next + 1) (omega arith)))
        (λ more. le-ltb v next more ∙ sym (le-ltb v (next + 1) (above v next more other)))
        (cases_lt v next))
        (cases_eq next v)
      where
        above : (v next : ℕ) → next ≤ v → (next ≡ v → ⊥) → next + 1 ≤ v
        above v next more other =
            ⊎_elim (λ less. omega arith) (λ same. absurd (other (omega arith)))
            (cases_lt next v)

pub rises_result : (vars : ℕ) (order : List ℕ) (place next : ℕ) → RisesTo vars order place next
    → place < length order → vars ≤ slice_index order place
    → RisesTo vars order (place + 1) next
rises_result vars order place next rises low high = record {
  each = each_more vars order place next rises (λ below. absurd (omega arith));
  so_far = λ v v_low.
      let e : place + 1 ≡ suc place = omega arith in
      ap (λ (k : ℕ). stands (take k order) v) e
      ∙ stands_more order place v low
      ∙ or_none (stands (take place order) v) (eqb (slice_index order place) v)
      (ne_eqb (slice_index order place) v (λ same. omega arith))
      ∙ rises.so_far v v_low;
}
  where
    or_none : (a b : Bool) → b ≡ false → (a || b) ≡ a
    or_none true b h = refl
    or_none false b h = h
