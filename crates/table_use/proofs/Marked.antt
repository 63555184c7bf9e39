-- A row that allows a code which another doesn't isn't enabled only where the other is.
use Rattle.std.proofs.Common.{◌≡◌, ◌≢◌, ⊎_elim, ℕ, ◌+◌, ◌-◌, ◌<◌, Bool, true, false, true≢false, not, ◌&&◌, ◌||◌, eqb, nat_lt, nat_le, List, length, slice_index, slice_set, Option, refl, sym, ap, ◌∙◌, inl, inr, arith}
use Rattle.std.specs.List.{list_all, list_any}
use Rattle.std.specs.Int.{bit_at}
use Rattle.std.proofs.lemmas.Bool.{and_from, and_parts, cases_Bool, cases_eq, cases_lt, false≢true, leb-true, ltb-true, ne_eqb, not-false}
use Rattle.std.proofs.lemmas.List.{get_or-set_other, get_or-set_same, length-set}
use Rattle.polis_base.proofs.SmallSets.{same_members}
use Rattle.domains.specs.Tables.{fits}
use Rattle.domains.proofs.Ranks.{length_fits}
use Rattle.transition_table.specs.RowCodes.{allows_code}
use Rattle.transition_table.specs.declared.machine.Machine.{Machine}
use Rattle.transition_table.specs.declared.row.Row.{Row}
use Rattle.table_use.specs.Lint.{amount, enables_only, seen_ones}
use Rattle.journals.specs.Seen.{is_present, is_seen}
use Rattle.table_use.specs.Use.{enables}
use Rattle.table_use.specs.inner.Boxes.{allowed, allowed_by, passes}
use Rattle.table_use.specs.inner.Marks.{HasMore, is_kept}
use Rattle.table_use.proofs.Emitted.{none_any}
use Rattle.table_use.proofs.RowBoxes.{each_passes, enables_inside, passes_each, row_stands}
use Rattle.table_use.proofs.Turning.{has_seen, seen_has, seen_too}
use Rattle.journals.proofs.Upto.{any_found}
use Rattle.domains.proofs.FittingCodes.{fits_set}

-- a code that a row allows is one of the variable
allowed_low : (m : Machine) (r v c : ℕ) → r < length m.rows → allowed m r v c ≡ true
    → c < slice_index m.vars v
allowed_low m r v c low has =
    let row = row_stands m.rows r low in
    ltb-true c (slice_index m.vars v)
    (and_parts (nat_lt c (slice_index m.vars v)) (list_all (allows_code v c) row.0.conds)
    (sym (ap (λ (o : Option Row). allowed_by m.vars o v c) row.1) ∙ has)).0

-- ---- a snapshot with a code that is kept in the place of another

-- it still has an input
still_seen : (m : Machine) (s : List ℕ) (v c : ℕ) → fits m.vars s ≡ true → v < length m.vars
    → is_kept m v c ≡ true → is_seen m s ≡ true → is_seen m (slice_set s v c) ≡ true
still_seen m s v c fit inside kept seen =
    let long = length_fits m.vars s fit in
    ⊎_elim
    (λ less.
    any_found (λ i. is_present i (slice_set s v c)) (length m.inputs) v less
    (ap (λ (n : ℕ). not (eqb n 0)) (get_or-set_same s v c 0 (omega arith))
    ∙ present (nat_le (length m.inputs) v) (not (eqb c 0)) kept
    (λ on. let most = leb-true (length m.inputs) v on in omega arith)))
    (λ more.
    let e : v ≡ length m.inputs + (v - length m.inputs) = omega arith in
    ap (λ (k : ℕ). is_seen m (slice_set s k c)) e
    ∙ seen_too m s (v - length m.inputs) c
    ∙ seen)
    (cases_lt v (length m.inputs))
  where
    present : (a b : Bool) → (a || b) ≡ true → (a ≡ true → ⊥) → b ≡ true
    present true b h never = absurd (never refl)
    present false b h never = h

-- the row is enabled there as well, if it allows the code, and no row is that doesn't
module _ (m : Machine) (s : List ℕ) (v c : ℕ) (fit : fits m.vars s ≡ true)
    (var : v < length m.vars) (code : c < slice_index m.vars v) where
  pub still_enabled : (r : ℕ) → r < length m.rows → enables m r s ≡ true
      → allowed m r v c ≡ true → enables m r (slice_set s v c) ≡ true
  still_enabled r low on allows =
      let there = row_stands m.rows r low in
      let long = length_fits m.vars s fit in
      let size : length (slice_set s v c) ≡ length s = length-set s v c in
      let was : passes (allowed m r) 0 s ≡ true =
      sym (enables_inside m r there.0 s there.1 fit) ∙ on in
      enables_inside m r there.0 (slice_set s v c) there.1 (fits_set m.vars s v c fit code)
      ∙ each_passes (allowed m r) 0 (slice_set s v c) (λ w inside.
      let e : 0 + w ≡ w = omega arith in
      ap (λ (k : ℕ). allowed m r k (slice_index (slice_set s v c) w)) e
      ∙ ⊎_elim
      (λ same.
      ap (λ (k : ℕ). allowed m r k (slice_index (slice_set s v c) k)) same
      ∙ ap (allowed m r v) (get_or-set_same s v c 0 (omega arith)) ∙ allows)
      (λ other.
      ap (allowed m r w) (get_or-set_other s v w c 0 other)
      ∙ ap (λ (k : ℕ). allowed m r k (slice_index s w)) (sym e)
      ∙ passes_each (allowed m r) 0 s w was (omega arith))
      (cases_eq w v))

  pub not_enabled : (k : ℕ) → k < length m.rows → allowed m k v c ≡ false
      → enables m k (slice_set s v c) ≡ false
  not_enabled k low lacks =
      let there = row_stands m.rows k low in
      let long = length_fits m.vars s fit in
      let size : length (slice_set s v c) ≡ length s = length-set s v c in
      let is = enables_inside m k there.0 (slice_set s v c) there.1
      (fits_set m.vars s v c fit code) in
      ⊎_elim
      (λ on.
      let e : 0 + v ≡ v = omega arith in
      absurd (false≢true
      (sym lacks
      ∙ ap (allowed m k v) (sym (get_or-set_same s v c 0 (omega arith)))
      ∙ ap (λ (n : ℕ). allowed m k n (slice_index (slice_set s v c) v)) (sym e)
      ∙ passes_each (allowed m k) 0 (slice_set s v c) v (sym is ∙ on) (omega arith))))
      (λ off. off)
      (cases_Bool (enables m k (slice_set s v c)))

some_enabled : (m : Machine) (r k v c : ℕ) → r < length m.rows → k < length m.rows
    → 0 < amount m (enables m r) → v < length m.vars → is_kept m v c ≡ true
    → allowed m r v c ≡ true → allowed m k v c ≡ false
    → eqb (amount m (enables_only m r k)) 0 ≡ false
some_enabled m r k v c low less some var kept has lacks =
    let code = allowed_low m r v c low has in
    let any : list_any (enables m r) (seen_ones m) ≡ true =
    not-false (list_any (enables m r) (seen_ones m))
    (sym (none_any (enables m r) (seen_ones m))
    ∙ ne_eqb (amount m (enables m r)) 0 (λ e. absurd (omega arith))) in
    let found = has_seen m (enables m r) any in
    let s = found.one in
    let t = slice_set s v c in
    let on = still_enabled m s v c found.fit var code r low found.holds has in
    let off = not_enabled m s v c found.fit var code k less lacks in
    none_any (enables_only m r k) (seen_ones m)
    ∙ ap not (seen_has m (enables_only m r k) t (fits_set m.vars s v c found.fit code)
    (still_seen m s v c found.fit var kept found.seen)
    (and_from (enables m r t) (not (enables m k t)) on (ap not off)))

pub enabled_only : (m : Machine) (r k : ℕ) → r < length m.rows → k < length m.rows
    → 0 < amount m (enables m r) → HasMore m r k
    → eqb (amount m (enables_only m r k)) 0 ≡ false
enabled_only m r k low less some more =
    elim (cases_Bool (eqb (amount m (enables_only m r k)) 0)) [
      | inl none ↦ absurd (more.more (λ code kept has.
          elim (cases_Bool (allowed m k more.var code)) [
            | inl allowed_too ↦ allowed_too
            | inr lacks ↦ absurd (true≢false (sym none
                ∙ some_enabled m r k more.var code low less some more.within kept has lacks))
          ]))
      | inr other ↦ other
    ]

-- ---- by sets

-- where the one isn't what both have, it has a code that the other hasn't
pub has_other : (m : Machine) (r k v one other own both : ℕ) → v < length m.vars
    → ((c : ℕ) → eqb (bit_at one c) 1 ≡ allowed m r v c)
    → ((c : ℕ) → eqb (bit_at other c) 1 ≡ allowed m k v c)
    → ((c : ℕ) → eqb (bit_at own c) 1 ≡ (is_kept m v c && eqb (bit_at one c) 1))
    → ((c : ℕ) → eqb (bit_at both c) 1 ≡ (eqb (bit_at own c) 1 && eqb (bit_at other c) 1))
    → both ≢ own → HasMore m r k
has_other m r k v one other own both within of_r of_k kept common differ = record {
  var = v;
  within = within;
  more = λ all. differ (same_members both own (λ c.
      common c ∙ (elim (cases_Bool (eqb (bit_at own c) 1)) [
        | inl there ↦
            let parts = and_parts (is_kept m v c) (eqb (bit_at one c) 1) (sym (kept c) ∙ there) in
            let has = of_k c ∙ all c parts.0 (sym (of_r c) ∙ parts.1) in
            and_from (eqb (bit_at own c) 1) (eqb (bit_at other c) 1) there has ∙ sym there
        | inr lacks ↦ ap (λ b. b && eqb (bit_at other c) 1) lacks ∙ sym lacks
      ])));
}
