-- The codes of a set that conditions allow.
use Rattle.std.proofs.Common.{◌≡◌, ◌≢◌, ◌⊎◌, ◌<◌, ◌≤◌, ◌+◌, ℕ, suc, Bool, true, false, ◌&&◌, ◌==◌, List, ◌∷◌, length, get_or, slice_get, slice_index, slice_set, Some, drop, arith, refl, sym, ◌∙◌, ap, inl, inr, add-one}
use Rattle.std.proofs.Math.Seq.{drop-cons}
use Rattle.std.specs.List.{list_all}
use Rattle.std.specs.Int.{bit_at}
use Rattle.std.proofs.lemmas.List.{get_or-set_same, get_or-set_other}
use Rattle.std.proofs.lemmas.Bool.{ne_eqb}
use Rattle.std.proofs.lemmas.Bool.Decides.{eqb_tells}
use Rattle.std.proofs.lemmas.Option.{get_or_from_slice_get}
use Rattle.transition_table.specs.declared.row.Cond.{Cond}
use Rattle.transition_table.specs.RowCodes.{allows_code}

and_grouped : (a b c : Bool) → (a && (b && c)) ≡ ((a && b) && c)
and_grouped true b c = refl
and_grouped false b c = refl

pub alike : (a b : ℕ) → a ≡ b → a == b ≡ true
alike a b h =
    elim (eqb_tells a b) [
      | inl here ↦ here.0
      | inr apart ↦ absurd (apart.1 h)
    ]

-- a condition on the variable takes codes away
pub taken : (left next var code : ℕ) (item : Cond) (rest : List Cond) → item.var == var ≡ true
    → (bit_at next code == 1) ≡ (bit_at left code == 1 && bit_at item.codes code == 1)
    → (bit_at left code == 1 && list_all (allows_code var code) (item ∷ rest))
    ≡ (bit_at next code == 1 && list_all (allows_code var code) rest)
taken left next var code item rest here both =
    let own : allows_code var code item ≡ (bit_at item.codes code == 1) = rw here refl in
    ap (λ b. bit_at left code == 1 && (b && list_all (allows_code var code) rest)) own
    ∙ and_grouped (bit_at left code == 1) (bit_at item.codes code == 1)
    (list_all (allows_code var code) rest)
    ∙ ap (λ b. b && list_all (allows_code var code) rest) (sym both)

-- and one on another doesn't
pub passed : (left var code : ℕ) (item : Cond) (rest : List Cond) → item.var == var ≡ false
    → (bit_at left code == 1 && list_all (allows_code var code) (item ∷ rest))
    ≡ (bit_at left code == 1 && list_all (allows_code var code) rest)
passed left var code item rest elsewhere =
    let own : allows_code var code item ≡ true = rw elsewhere refl in
    ap (λ b. bit_at left code == 1 && (b && list_all (allows_code var code) rest)) own

-- the next condition leaves what it allows, and what the others leave of that is what all leave
pub next_leaves : (left var code i next : ℕ) (conds : List Cond) (d : Cond) → i < length conds
    → (((get_or conds i d).var ≡ var) × ((bit_at next code == 1)
    ≡ (bit_at left code == 1 && bit_at (get_or conds i d).codes code == 1)))
    ⊎ (((get_or conds i d).var ≢ var) × (next ≡ left))
    → (bit_at next code == 1 && list_all (allows_code var code) (drop (i + 1) conds))
    ≡ (bit_at left code == 1 && list_all (allows_code var code) (drop i conds))
next_leaves left var code i next conds d below (inl h) =
    rw (drop-cons conds i d below, add-one)
    (sym (taken left next var code (get_or conds i d) (drop (suc i) conds)
    (alike (get_or conds i d).var var h.0) h.1))
next_leaves left var code i next conds d below (inr h) =
    rw (drop-cons conds i d below, add-one, h.1)
    (sym (passed left var code (get_or conds i d) (drop (suc i) conds)
    (ne_eqb (get_or conds i d).var var h.0)))

-- the next condition takes codes away from the set of its variable
pub set_leaves : (masks : List ℕ) (var code i left next : ℕ) (conds : List Cond) (d : Cond)
    → i < length conds → slice_get masks (get_or conds i d).var ≡ Some left
    → (get_or conds i d).var < length masks
    → (bit_at next code == 1)
    ≡ (bit_at left code == 1 && bit_at (get_or conds i d).codes code == 1)
    → (bit_at (slice_index (slice_set masks (get_or conds i d).var next) var) code == 1
    && list_all (allows_code var code) (drop (i + 1) conds))
    ≡ (bit_at (slice_index masks var) code == 1
    && list_all (allows_code var code) (drop i conds))
set_leaves masks var code i left next conds d below at within both =
    let own = (get_or conds i d).var in
    let codes = (get_or conds i d).codes in
    elim (eqb_tells own var) [
      | inl here ↦
          next_leaves (slice_index masks var) var code i
          (slice_index (slice_set masks own next) var) conds d below (inl (
            here.1,
            ap (λ k. bit_at (slice_index (slice_set masks own next) k) code == 1) (sym here.1)
                ∙ ap (λ n. bit_at n code == 1) (get_or-set_same masks own next 0 within)
                ∙ both
                ∙ ap (λ n. bit_at n code == 1 && bit_at codes code == 1)
                (sym (get_or_from_slice_get masks own left 0 at) ∙ ap (slice_index masks) here.1),
          ))
      | inr apart ↦ next_leaves (slice_index masks var) var code i
          (slice_index (slice_set masks own next) var) conds d below
          (inr (apart.1, get_or-set_other masks own var next 0 (λ e. apart.1 (sym e))))
    ]

-- and one on a variable that there isn't doesn't
pub passes : (masks : List ℕ) (var code i : ℕ) (conds : List Cond) (d : Cond) → i < length conds
    → var < length masks → length masks ≤ (get_or conds i d).var
    → (bit_at (slice_index masks var) code == 1
    && list_all (allows_code var code) (drop (i + 1) conds))
    ≡ (bit_at (slice_index masks var) code == 1
    && list_all (allows_code var code) (drop i conds))
passes masks var code i conds d below within past =
    next_leaves (slice_index masks var) var code i (slice_index masks var) conds d below
    (inr (λ e. omega (arith, e), refl))

-- the bits of two items together
pub bits_at : (xs ys : List ℕ) (k x y set code : ℕ) → slice_get xs k ≡ Some x
    → slice_get ys k ≡ Some y
    → (bit_at set code == 1) ≡ (bit_at x code == 1 && bit_at y code == 1)
    → (bit_at set code == 1)
    ≡ (bit_at (slice_index xs k) code == 1 && bit_at (slice_index ys k) code == 1)
bits_at xs ys k x y set code at_x at_y both =
    both
    ∙ ap (λ n. bit_at n code == 1 && bit_at y code == 1) (sym (get_or_from_slice_get xs k x 0 at_x))
    ∙ ap (λ n. bit_at (slice_index xs k) code == 1 && bit_at n code == 1)
    (sym (get_or_from_slice_get ys k y 0 at_y))
