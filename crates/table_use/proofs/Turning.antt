-- State variables that change something, by the code 0 alone.
use Rattle.std.proofs.Common.{◌≡◌, ⊎_elim, ℕ, zero, suc, ◌+◌, ◌<◌, Bool, true, false, cond, not, ◌&&◌, ◌||◌, eqb, List, [], ◌∷◌, ◌++◌, length, map, slice_index, slice_set, refl, sym, ap, ◌∙◌, arith}
use Rattle.std.specs.Cmp.Lexicographic.{same_text}
use Rattle.std.specs.List.{filter, list_any}
use Rattle.std.proofs.lemmas.Bool.{and_from, and_parts, cases_Bool, false≢true, not-true, not-false}
use Rattle.std.proofs.lemmas.List.{get_or-set_other, map-append}
use Rattle.polis_base.specs.Lists.{upto}
use Rattle.polis_base.proofs.Lists.{none_all, some_item}
use Rattle.domains.specs.AllCodes.{all_codes}
use Rattle.domains.specs.Names.{is_same}
use Rattle.domains.specs.Tables.{fits}
use Rattle.domains.proofs.AllCodes.{lists_all, lists_fit}
use Rattle.domains.proofs.Names.{same_self}
use Rattle.domains.proofs.Ranks.{length_fits}
use Rattle.transition_table.specs.Computed.{result_codes}
use Rattle.transition_table.specs.declared.machine.Machine.{Machine}
use Rattle.transition_table.proofs.Ranges.{below_size, vars_length}
use Rattle.table_use.specs.Lint.{amount, seen_ones, turns}
use Rattle.journals.specs.Seen.{is_present, is_seen}
use Rattle.table_use.specs.inner.Walking.{differs, is_none}
use Rattle.table_use.proofs.Emitted.{none_any}
use Rattle.journals.proofs.Upto.{any_found, found_below}
use Rattle.domains.proofs.FittingCodes.{fits_set}
use Rattle.polis_base.proofs.Bools.{same_truth}
use Rattle.polis_base.proofs.ListTests.{any_same_below}

-- ---- something is so of a snapshot that is seen

any_filter : (p q : List ℕ → Bool) (xs : List (List ℕ))
    → list_any p (filter q xs) ≡ list_any (λ s. q s && p s) xs
any_filter p q [] = refl
any_filter p q (x ∷ xs) = cases (q x) (any_filter p q xs)
  where
    cases : (b : Bool) → list_any p (filter q xs) ≡ list_any (λ s. q s && p s) xs
        → list_any p (cond b (x ∷ filter q xs) (filter q xs))
        ≡ ((b && p x) || list_any (λ s. q s && p s) xs)
    cases true rest = ap (λ (b : Bool). p x || b) rest
    cases false rest = rest

pub seen_has : (m : Machine) (p : List ℕ → Bool) (s : List ℕ) → fits m.vars s ≡ true
    → is_seen m s ≡ true → p s ≡ true → list_any p (seen_ones m) ≡ true
seen_has m p s fit seen on =
    any_filter p (is_seen m) (all_codes m.vars)
    ∙ ⊎_elim (λ yes_some. yes_some)
    (λ none.
    let off = lists_all m.vars (λ t. not (is_seen m t && p t))
    (none_all (λ t. is_seen m t && p t) (all_codes m.vars) none) s fit in
    absurd (false≢true
    (sym (not-true (is_seen m s && p s) off) ∙ and_from (is_seen m s) (p s) seen on)))
    (cases_Bool (list_any (λ t. is_seen m t && p t) (all_codes m.vars)))

pub record HasSeen (m : Machine) (p : List ℕ → Bool) : Type 0 where
  pub one : List ℕ
  pub fit : fits m.vars one ≡ true
  pub seen : is_seen m one ≡ true
  pub holds : p one ≡ true

pub has_seen : (m : Machine) (p : List ℕ → Bool) → list_any p (seen_ones m) ≡ true → HasSeen m p
has_seen m p some =
    let found = some_item (fits m.vars) (λ t. is_seen m t && p t) (all_codes m.vars)
    (lists_fit m.vars) (sym (any_filter p (is_seen m) (all_codes m.vars)) ∙ some) in
    let parts = and_parts (is_seen m found.0) (p found.0) found.2 in
    record { one = found.0; fit = found.1; seen = parts.0; holds = parts.1 }

-- ---- another code of a state variable

set_twice : (xs : List ℕ) (i a b : ℕ) → slice_set (slice_set xs i a) i b ≡ slice_set xs i b
set_twice [] i a b = refl
set_twice (x ∷ xs) zero a b = refl
set_twice (x ∷ xs) (suc i) a b = ap (λ (l : List ℕ). x ∷ l) (set_twice xs i a b)

-- leaves the inputs
pub seen_too : (m : Machine) (s : List ℕ) (x code : ℕ)
    → is_seen m (slice_set s (length m.inputs + x) code) ≡ is_seen m s
seen_too m s x code =
    any_same_below (λ i. is_present i (slice_set s (length m.inputs + x) code)) (λ i. is_present i s)
    (length m.inputs) (λ i low.
    ap (λ (n : ℕ). not (eqb n 0))
    (get_or-set_other s (length m.inputs + x) i code 0 (λ same. absurd (omega arith))))

same_codes : (m : Machine) (x : ℕ) (s : List ℕ) → differs m x s ≡ false
    → result_codes m s ≡ result_codes m (slice_set s (length m.inputs + x) 0)
same_codes m x s off =
    let t = slice_set s (length m.inputs + x) 0 in
    same_text (result_codes m s) (result_codes m t)
    (sym (not-false (is_same (result_codes m s) (result_codes m t)) off))

turned_differs : (m : Machine) (x : ℕ) → x < length m.states
    → list_any (turns m x) (seen_ones m) ≡ true → list_any (differs m x) (seen_ones m) ≡ true
turned_differs m x low some =
    let v = length m.inputs + x in
    let found = has_seen m (turns m x) some in
    let s = found.one in
    let other = found_below (λ code. not (is_same (result_codes m s)
    (result_codes m (slice_set s v code)))) (slice_index m.vars v) found.holds in
    let code = other.0 in
    let t = slice_set s v code in
    let fit = fits_set m.vars s v code found.fit other.1 in
    ⊎_elim
    (λ on. seen_has m (differs m x) s found.fit found.seen on)
    (λ off. ⊎_elim
    (λ on. seen_has m (differs m x) t fit (seen_too m s x code ∙ found.seen) on)
    (λ off_too.
    let same : result_codes m s ≡ result_codes m t =
    same_codes m x s off
    ∙ ap (result_codes m) (sym (set_twice s v code 0))
    ∙ sym (same_codes m x t off_too) in
    absurd (false≢true
    (sym (ap not (ap (is_same (result_codes m s)) (sym same) ∙ same_self (result_codes m s)))
    ∙ other.2)))
    (cases_Bool (differs m x t)))
    (cases_Bool (differs m x s))

differs_turned : (m : Machine) (x : ℕ) → x < length m.states
    → list_any (differs m x) (seen_ones m) ≡ true → list_any (turns m x) (seen_ones m) ≡ true
differs_turned m x low some =
    let v = length m.inputs + x in
    let found = has_seen m (differs m x) some in
    let s = found.one in
    let long = length_fits m.vars s found.fit in
    let parts = vars_length m in
    let below = below_size m.vars s v found.fit (omega arith) in
    seen_has m (turns m x) s found.fit found.seen
    (any_found (λ code. not (is_same (result_codes m s) (result_codes m (slice_set s v code))))
    (slice_index m.vars v) 0 (omega arith) found.holds)

-- it changes nothing where the code 0 changes nothing
ignored_state : (m : Machine) (x : ℕ) → x < length m.states
    → is_none m (differs m x) (all_codes m.vars) ≡ eqb (amount m (turns m x)) 0
ignored_state m x low =
    none_any (differs m x) (seen_ones m)
    ∙ ap not (same_truth (list_any (differs m x) (seen_ones m)) (list_any (turns m x) (seen_ones m))
    (differs_turned m x low) (turned_differs m x low))
    ∙ sym (none_any (turns m x) (seen_ones m))

maps_same : {X : Type 0} (f g : ℕ → X) (n : ℕ) → ((k : ℕ) → k < n → f k ≡ g k)
    → map f (upto n) ≡ map g (upto n)
maps_same f g zero same = refl
maps_same {X} f g (suc n) same =
    map-append f (upto n) (n ∷ [])
    ∙ ap (λ (l : List X). l ++ f n ∷ []) (maps_same f g n (λ k low. same k (omega arith)))
    ∙ ap (λ (x : X). map g (upto n) ++ x ∷ []) (same n (omega arith))
    ∙ sym (map-append g (upto n) (n ∷ []))

pub ignored_states : (m : Machine)
    → map (λ x. is_none m (differs m x) (all_codes m.vars)) (upto (length m.states))
    ≡ map (λ x. eqb (amount m (turns m x)) 0) (upto (length m.states))
ignored_states m =
    maps_same (λ x. is_none m (differs m x) (all_codes m.vars))
    (λ x. eqb (amount m (turns m x)) 0) (length m.states) (ignored_state m)
