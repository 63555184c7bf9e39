-- Snapshots with inputs absent, and what a machine gives on them.
use Rattle.std.proofs.Common.{◌≡◌, ◌↔◌, ℕ, zero, suc, ◌<◌, ◌≤◌, Bool, true, false, not, eqb, ◌&&◌, nat_lt, List, [], ◌∷◌, ◌++◌, drop, length, replicate, slice_get, slice_index, slice_set, Some, refl, ap, sym, ◌∙◌, ⊎_elim, inl, inr, arith}
use Rattle.std.specs.Cmp.Derive.{both_true}
use Rattle.std.specs.Cmp.Lexicographic.{same_text}
use Rattle.std.proofs.lemmas.Bool.{and_parts, cases_Bool, cases_lt, eq-eqb, false≢true, lt-ltb, ltb-true, ne_eqb}
use Rattle.std.proofs.lemmas.Option.{get_or_from_slice_get}
use Rattle.domains.specs.Names.{is_same}
use Rattle.domains.specs.Tables.{fits}
use Rattle.domains.proofs.FittingCodes.{fits_set}
use Rattle.domains.proofs.Names.{same_self}
use Rattle.domains.proofs.Ranks.{length_fits}
use Rattle.transition_table.specs.Computed.{outcome_by, result_codes}
use Rattle.transition_table.specs.Orders.{codes_of}
use Rattle.transition_table.specs.Transitions.{reading, is_enabled, IsDeterministic, Transition}
use Rattle.transition_table.specs.declared.machine.Machine.{Machine}
use Rattle.transition_table.specs.declared.snapshot.Outcome.{Outcome}
use Rattle.transition_table.proofs.Computed.{outcome_by_rows, only_by_rows}
use Rattle.transition_table.proofs.Determinism.{have_widths}
use Rattle.transition_table.proofs.Ranges.{below_size, vars_length}
use Rattle.transition_table.proofs.Rows.{past_rows}
use Rattle.transition_table.proofs.SameCodes.{by_codes}
use Rattle.journals.proofs.Upto.{any_found, found_below}
use Rattle.journals.specs.Seen.{is_present, is_seen}
use Rattle.table_use.specs.Use.{alone, can_fire, enables, fires_alone, is_unused, without}

-- ---- codes of inputs

pub present : (s : List ℕ) (i code : ℕ) → slice_get s i ≡ Some code → (code ≡ 0 → ⊥)
    → is_present i s ≡ true
present s i code at some =
    ap (λ (n : ℕ). not (eqb n 0)) (get_or_from_slice_get s i code 0 at)
    ∙ ap not (ne_eqb code 0 some)

pub absent : (s : List ℕ) (i code : ℕ) → slice_get s i ≡ Some code → code ≡ 0
    → is_present i s ≡ false
absent s i code at none =
    ap (λ (n : ℕ). not (eqb n 0)) (get_or_from_slice_get s i code 0 at)
    ∙ ap not (eq-eqb code 0 none)

-- one more code is 0
pub zero_next : (k : ℕ) (s : List ℕ) → k < length s
    → slice_set (replicate k 0 ++ drop k s) k 0 ≡ replicate (suc k) 0 ++ drop (suc k) s
zero_next zero [] low = absurd (omega arith)
zero_next zero (c ∷ s) low = refl
zero_next (suc k) [] low = absurd (omega arith)
zero_next (suc k) (c ∷ s) low = ap (λ (l : List ℕ). 0 ∷ l) (zero_next k s (omega arith))

-- ---- snapshots that fit

pub fits_without : (sizes s : List ℕ) (i : ℕ) → fits sizes s ≡ true
    → fits sizes (without s i) ≡ true
fits_without [] [] i h = refl
fits_without [] (code ∷ s) i h = absurd (false≢true h)
fits_without (size ∷ sizes) [] i h = absurd (false≢true h)
fits_without (size ∷ sizes) (code ∷ s) zero h =
    let parts = and_parts (nat_lt code size) (fits sizes s) h in
    let below = ltb-true code size parts.0 in
    both_true (lt-ltb 0 size (omega arith)) parts.1
fits_without (size ∷ sizes) (code ∷ s) (suc i) h =
    let parts = and_parts (nat_lt code size) (fits sizes s) h in
    both_true parts.0 (fits_without sizes s i parts.1)

fits_zeros : (n : ℕ) (sizes s : List ℕ) → n ≤ length s → fits sizes s ≡ true
    → fits sizes (replicate n 0 ++ drop n s) ≡ true
fits_zeros zero sizes s most h = h
fits_zeros (suc n) sizes [] most h = absurd (omega arith)
fits_zeros (suc n) [] (code ∷ s) most h = absurd (false≢true h)
fits_zeros (suc n) (size ∷ sizes) (code ∷ s) most h =
    let parts = and_parts (nat_lt code size) (fits sizes s) h in
    let below = ltb-true code size parts.0 in
    both_true (lt-ltb 0 size (omega arith)) (fits_zeros n sizes s (omega arith) parts.1)

pub fits_alone : (m : Machine) (s : List ℕ) (i : ℕ) → fits m.vars s ≡ true
    → i < length m.inputs → fits m.vars (alone m s i) ≡ true
fits_alone m s i fit low =
    let long = length_fits m.vars s fit in
    let parts = vars_length m in
    fits_set m.vars (replicate (length m.inputs) 0 ++ drop (length m.inputs) s) i (slice_index s i)
    (fits_zeros (length m.inputs) m.vars s (omega arith) fit)
    (below_size m.vars s i fit (omega arith))

-- ---- some row is enabled, or none is

fires_by : (m : Machine) (r : ℕ) (s : List ℕ) → is_enabled m r (reading s) ≡ true
    → can_fire m s ≡ true
fires_by m r s on =
    ⊎_elim
    (λ low. any_found (λ k. enables m k s) (length m.rows) r low on)
    (λ high. absurd (false≢true (sym (past_rows m r (reading s) high) ∙ on)))
    (cases_lt r (length m.rows))

idle_by : (m : Machine) (s : List ℕ) → ((r : ℕ) → is_enabled m r (reading s) ≡ false)
    → can_fire m s ≡ false
idle_by m s none =
    ⊎_elim
    (λ on.
    let row = found_below (λ k. enables m k s) (length m.rows) on in
    absurd (false≢true (sym (none row.0) ∙ row.2)))
    (λ off. off)
    (cases_Bool (can_fire m s))

-- an outcome fires where some row is enabled
pub fires_of : (m : Machine) (s : List ℕ) (o : Outcome) → Transition m (reading s) o
    → o.fires ≡ can_fire m s
fires_of m s o (inl (r, on, is)) = ap (λ (o : Outcome). o.fires) is ∙ sym (fires_by m r s on)
fires_of m s o (inr (none, is)) = ap (λ (o : Outcome). o.fires) is ∙ sym (idle_by m s none)

pub not_from : (b : Bool) → b ≡ false → not b ≡ true
not_from true h = absurd (false≢true (sym h))
not_from false h = refl

-- ---- what the parts of the tests say

pub unused_is : (m : Machine) (i : ℕ) (s : List ℕ) (p f n e : Bool) → i < length m.inputs
    → is_present i s ≡ p → can_fire m s ≡ f → is_seen m (without s i) ≡ n
    → is_same (result_codes m s) (result_codes m (without s i)) ≡ e
    → is_unused m i s ≡ (p && f && n && e)
unused_is m i s p f n e low a b c d =
    λ j. lt-ltb i (length m.inputs) low j && a j && b j && c j && d j

pub alone_is : (m : Machine) (s : List ℕ) (i : ℕ) (p f : Bool) → is_present i s ≡ p
    → can_fire m (alone m s i) ≡ f → fires_alone m s i ≡ (p && f)
alone_is m s i p f a b = λ j. a j && b j

-- where the input isn't present, or no other is, it isn't unused
pub unused_unless_present : (m : Machine) (i : ℕ) (s : List ℕ) → i < length m.inputs
    → is_present i s ≡ false → is_unused m i s ≡ false
unused_unless_present m i s low off =
    unused_is m i s false (can_fire m s) (is_seen m (without s i))
    (is_same (result_codes m s) (result_codes m (without s i))) low off refl refl refl

pub unused_unless_seen : (m : Machine) (i : ℕ) (s : List ℕ) → i < length m.inputs
    → is_seen m (without s i) ≡ false → is_unused m i s ≡ false
unused_unless_seen m i s low off =
    unused_is m i s (is_present i s) (can_fire m s) false
    (is_same (result_codes m s) (result_codes m (without s i))) low refl refl off refl
    ∙ never (is_present i s) (can_fire m s)
    (is_same (result_codes m s) (result_codes m (without s i)))
  where
    never : (p f e : Bool) → (p && f && false && e) ≡ false
    never true true e = refl
    never true false e = refl
    never false f e = refl

pub unused_where_seen : (m : Machine) (i : ℕ) (s : List ℕ) → i < length m.inputs
    → is_present i s ≡ true → is_seen m (without s i) ≡ true
    → is_unused m i s
    ≡ (can_fire m s && is_same (result_codes m s) (result_codes m (without s i)))
unused_where_seen m i s low on seen =
    unused_is m i s true (can_fire m s) true
    (is_same (result_codes m s) (result_codes m (without s i))) low on refl seen refl
    ∙ both (can_fire m s) (is_same (result_codes m s) (result_codes m (without s i)))
  where
    both : (f e : Bool) → (true && f && true && e) ≡ (f && e)
    both true e = refl
    both false e = refl

-- two transitions are the same where the codes of the results are
pub same_given : (m : Machine) (s t : List ℕ) (here there : Outcome) (same : Bool)
    → IsDeterministic m → fits m.vars s ≡ true → fits m.vars t ≡ true
    → Transition m (reading s) here → Transition m (reading t) there
    → (same ≡ true) ↔ (here ≡ there)
    → same ≡ is_same (result_codes m s) (result_codes m t)
same_given m s t here there same sure fit other first second is = cases same is
  where
    one : here ≡ outcome_by m m.rows s
    one = only_by_rows m s here sure fit first

    two : there ≡ outcome_by m m.rows t
    two = only_by_rows m t there sure other second

    long : length (outcome_by m m.rows s).next ≡ length (outcome_by m m.rows t).next
    long = (have_widths m (reading s) (outcome_by m m.rows s) (outcome_by_rows m s)).next
        ∙ sym (have_widths m (reading t) (outcome_by m m.rows t) (outcome_by_rows m t)).next

    cases : (b : Bool) → (b ≡ true) ↔ (here ≡ there)
        → b ≡ is_same (result_codes m s) (result_codes m t)
    cases true both =
        let equal : result_codes m s ≡ result_codes m t =
        ap codes_of (sym one ∙ both.0 refl ∙ two) in
        sym (ap (is_same (result_codes m s)) (sym equal) ∙ same_self (result_codes m s))
    cases false both = decide (is_same (result_codes m s) (result_codes m t)) refl
      where
        decide : (b : Bool) → is_same (result_codes m s) (result_codes m t) ≡ b
            → false ≡ is_same (result_codes m s) (result_codes m t)
        decide false off = sym off
        decide true on =
            absurd (false≢true (both.1 (one
            ∙ by_codes (outcome_by m m.rows s) (outcome_by m m.rows t) long
            (same_text (result_codes m s) (result_codes m t) (sym on)) ∙ sym two)))
