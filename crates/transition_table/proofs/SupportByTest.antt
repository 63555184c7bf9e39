-- What a result depends on, by test and by relation.
use Rattle.std.proofs.Common.{◌≡◌, ◌≢◌, ⊎_elim, ℕ, zero, suc, ◌<◌, ◌≤◌, Bool, true, false, not, ◌==◌, nat_lt, List, [], ◌∷◌, ◌++◌, length, take, drop, slice_index, slice_set, refl, ap, sym, ◌∙◌, arith, get_or-set_same, get_or-set_other, length-set}
use Rattle.std.specs.Cmp.Lexicographic.{same_text}
use Rattle.std.specs.List.{list_any}
use Rattle.std.proofs.lemmas.Bool.{cases_Bool, cases_lt, cases_eq, eq-eqb, eqb-true, ltb-true, true≢false, true_from_ne_false, not-true, not-false}
use Rattle.std.proofs.lemmas.Grind.{same_number_lists}
use Rattle.std.proofs.lemmas.List.{take-append-drop}
use Rattle.polis_base.specs.Lists.{upto}
use Rattle.domains.specs.AllCodes.{all_codes, ListsFit, ListsAll}
use Rattle.domains.specs.Names.{is_same}
use Rattle.domains.specs.Tables.{fits}
use Rattle.transition_table.specs.declared.machine.Machine.{Machine}
use Rattle.transition_table.specs.declared.snapshot.Outcome.{Outcome}
use Rattle.transition_table.specs.Computed.{outcome_by, result_codes, result_code, turned, supports, char}
use Rattle.transition_table.specs.Laws.{CharByTest, SupportByTest, SameOnSupport}
use Rattle.transition_table.specs.Orders.{Char, Support, codes_of}
use Rattle.transition_table.proofs.Computed.{outcome_by_rows, only_by_rows}
use Rattle.transition_table.proofs.Ranges.{below_size}
use Rattle.polis_base.proofs.Lists.{take_prefix, drop_prefix, none_all, some_item, none_upto, all_below}
use Rattle.domains.proofs.Names.{same_self}
use Rattle.domains.proofs.FittingCodes.{fits_prefix, fits_set_any}
use Rattle.domains.proofs.Ranks.{length_fits}

-- ---- lists that fit, with one code set

pub set_own : (xs : List ℕ) (k : ℕ) → slice_set xs k (slice_index xs k) ≡ xs
set_own [] k = refl
set_own (x ∷ xs) zero = refl
set_own (x ∷ xs) (suc k) = ap (λ (ys : List ℕ). x ∷ ys) (set_own xs k)

-- changing a variable on which the result doesn't depend
unsupported : ListsAll → (m : Machine) (y v : ℕ) (s : List ℕ) (code : ℕ) → fits m.vars s ≡ true
    → code < slice_index m.vars v → supports m y v ≡ false
    → result_code m y (slice_set s v code) ≡ result_code m y s
unsupported lists_all m y v s code fit low off =
    let turns : List ℕ → Bool =
    λ s. list_any (turned (result_code m y) v s) (upto (slice_index m.vars v)) in
    let here = not-true (turns s)
    (lists_all m.vars (λ s. not (turns s)) (none_all turns (all_codes m.vars) off) s fit) in
    let same = none_upto (turned (result_code m y) v s) (slice_index m.vars v) here code low in
    eqb-true (result_code m y (slice_set s v code)) (result_code m y s)
    (not-false (result_code m y (slice_set s v code) == result_code m y s) same)

-- ---- two lists that agree on what a result depends on
-- the first k codes are those of the other list
put : ℕ → List ℕ → List ℕ → List ℕ
put zero s t = s
put (suc k) s t = slice_set (put k s t) k (slice_index t k)

put_high : (k : ℕ) (s t : List ℕ) (j : ℕ) → k ≤ j → slice_index (put k s t) j ≡ slice_index s j
unfolding put
put_high zero s t j h = refl
put_high (suc k) s t j h =
    get_or-set_other (put k s t) k j (slice_index t k) 0 (λ same. absurd (omega arith))
    ∙ put_high k s t j (omega arith)

put_long : (k : ℕ) (s t : List ℕ) → length (put k s t) ≡ length s
unfolding put
put_long zero s t = refl
put_long (suc k) s t = length-set (put k s t) k (slice_index t k) ∙ put_long k s t

put_low : (k : ℕ) (s t : List ℕ) (j : ℕ) → k ≤ length s → j < k
    → slice_index (put k s t) j ≡ slice_index t j
unfolding put
put_low zero s t j h low = absurd (omega arith)
put_low (suc k) s t j h low =
    let l = put_long k s t in
    ⊎_elim
    (λ less. get_or-set_other (put k s t) k j (slice_index t k) 0 (λ same. absurd (omega arith))
    ∙ put_low k s t j (omega arith) less)
    (λ more. let e : j ≡ k = omega arith in
    rw e (get_or-set_same (put k s t) k (slice_index t k) 0 (omega arith)))
    (cases_lt j k)

put_fits : (sizes : List ℕ) (k : ℕ) (s t : List ℕ) → k ≤ length sizes → fits sizes s ≡ true
    → fits sizes t ≡ true → fits sizes (put k s t) ≡ true
unfolding put
put_fits sizes zero s t h fit_s fit_t = fit_s
put_fits sizes (suc k) s t h fit_s fit_t =
    fits_set_any sizes (put k s t) (put_fits sizes k s t (omega arith) fit_s fit_t) k (slice_index t k)
    (below_size sizes t k fit_t (omega arith))

put_same : ListsAll → (m : Machine) (y k : ℕ) (s t : List ℕ) → k ≤ length m.vars
    → fits m.vars s ≡ true → fits m.vars t ≡ true
    → ((v : ℕ) → v < length m.vars → supports m y v ≡ true → slice_index s v ≡ slice_index t v)
    → result_code m y (put k s t) ≡ result_code m y s
unfolding put
put_same lists_all m y zero s t h fit_s fit_t agree = refl
put_same lists_all m y (suc k) s t h fit_s fit_t agree =
    let rest = put_same lists_all m y k s t (omega arith) fit_s fit_t agree in
    ⊎_elim
    (λ on.
    let own : slice_index t k ≡ slice_index (put k s t) k =
    sym (agree k (omega arith) on) ∙ sym (put_high k s t k (omega arith)) in
    ap (λ (code : ℕ). result_code m y (slice_set (put k s t) k code)) own
    ∙ ap (result_code m y) (set_own (put k s t) k) ∙ rest)
    (λ off.
    unsupported lists_all m y k (put k s t) (slice_index t k)
    (put_fits m.vars k s t (omega arith) fit_s fit_t)
    (below_size m.vars t k fit_t (omega arith)) off ∙ rest)
    (cases_Bool (supports m y k))

pub same_on_support : ListsAll → SameOnSupport
same_on_support lists_all m y s t fit_s fit_t agree =
    let n = length m.vars in
    let long_s = length_fits m.vars s fit_s in
    let long_t = length_fits m.vars t fit_t in
    let long = put_long n s t in
    let whole : put n s t ≡ t =
    same_number_lists (put n s t) t (omega arith)
    (λ j low. put_low n s t j (omega arith) (omega arith)) in
    sym (put_same lists_all m y n s t (omega arith) fit_s fit_t agree) ∙ ap (result_code m y) whole

-- ---- the tests say what the relations say

-- a snapshot with the codes of its results
pub char_there : (m : Machine) (s : List ℕ) → length s ≡ length m.vars
    → char m (s ++ result_codes m s) ≡ true
char_there m s long =
    ap (λ (xs : List ℕ). is_same (result_codes m xs) (drop (length m.vars) (s ++ result_codes m s)))
    (take_prefix s (result_codes m s) (length m.vars) (sym long))
    ∙ ap (λ (ys : List ℕ). is_same (result_codes m s) ys)
    (drop_prefix s (result_codes m s) (length m.vars) (sym long))
    ∙ same_self (result_codes m s)

pub char_by_test : CharByTest
char_by_test m list sure fit = (to, from)
  where
    to : char m list ≡ true → Char m list
    to h =
        let s : List ℕ = take (length m.vars) list in
        let e : result_codes m s ≡ drop (length m.vars) list =
        same_text (result_codes m s) (drop (length m.vars) list) (sym h) in (
          s,
          outcome_by m m.rows s,
          fits_prefix m.vars m.results list fit,
          outcome_by_rows m s,
          sym (take-append-drop (length m.vars) list) ∙ ap (λ (xs : List ℕ). s ++ xs) (sym e),
        )

    from : Char m list → char m list ≡ true
    from h =
        let s = h.0 in
        let same : h.1 ≡ outcome_by m m.rows s = only_by_rows m s h.1 sure h.2 h.3 in
        let e : list ≡ s ++ result_codes m s = h.4 ∙ ap (λ (o : Outcome). s ++ codes_of o) same in
        ap (char m) e ∙ char_there m s (length_fits m.vars s h.2)

differs : (a b : ℕ) → not (a == b) ≡ true → a ≢ b
differs a b h same = true≢false (sym h ∙ ap not (eq-eqb a b same))

pub support_by_test : ListsFit → ListsAll → SupportByTest
support_by_test lists_fit lists_all m y v sure low = (to, from)
  where
    to : supports m y v ≡ true → Support m y v
    to h =
        let some = some_item (fits m.vars)
        (λ s. list_any (turned (result_code m y) v s) (upto (slice_index m.vars v)))
        (all_codes m.vars) (lists_fit m.vars) h in
        let s = some.0 in
        let code = some_item (λ k. nat_lt k (slice_index m.vars v)) (turned (result_code m y) v s)
        (upto (slice_index m.vars v))
        (all_below (slice_index m.vars v) (slice_index m.vars v) (omega arith)) some.2 in
        let c = code.0 in
        let other : List ℕ = slice_set s v c in
        record {
          one = other;
          other = s;
          first = outcome_by m m.rows other;
          second = outcome_by m m.rows s;
          fits_one = fits_set_any m.vars s some.1 v c (ltb-true c (slice_index m.vars v) code.1);
          fits_other = some.1;
          alone = λ w apart. get_or-set_other s v w c 0 apart;
          gives_first = outcome_by_rows m other;
          gives_second = outcome_by_rows m s;
          differ = differs (result_code m y other) (result_code m y s) code.2;
        }

    from : Support m y v → supports m y v ≡ true
    from h =
        true_from_ne_false (supports m y v) (λ off.
        let long_one = length_fits m.vars h.one h.fits_one in
        let long_other = length_fits m.vars h.other h.fits_other in
        let c = slice_index h.one v in
        let long = length-set h.other v c in
        let whole : slice_set h.other v c ≡ h.one =
        same_number_lists (slice_set h.other v c) h.one (omega arith) (λ w inside.
        ⊎_elim
        (λ here. let e : slice_index (slice_set h.other v c) w
        ≡ c = ap (slice_index (slice_set h.other v c)) here
        ∙ get_or-set_same h.other v c 0 (omega arith) in e ∙ ap (slice_index h.one) (sym here))
        (λ apart. get_or-set_other h.other v w c 0 apart ∙ sym (h.alone w apart))
        (cases_eq w v))
        in
        let same = unsupported lists_all m y v h.other c h.fits_other
        (below_size m.vars h.one v h.fits_one low) off in
        let one = only_by_rows m h.one h.first sure h.fits_one h.gives_first in
        let two = only_by_rows m h.other h.second sure h.fits_other h.gives_second in
        h.differ
        (ap (λ (o : Outcome). slice_index (codes_of o) y) one
        ∙ ap (result_code m y) (sym whole)
        ∙ same
        ∙ sym (ap (λ (o : Outcome). slice_index (codes_of o) y) two)))
