-- How many lists of codes pass a test of each code.
use Rattle.std.proofs.Common.{◌≡◌, ℕ, zero, suc, ◌+◌, ◌*◌, ◌<◌, Bool, true, false, cond, not, ◌&&◌, eqb, nat_le, List, [], ◌∷◌, length, flat_map, count_by, slice_index, refl, sym, ap, ◌∙◌, arith, add-mul, one-mul, zero-mul}
use Rattle.std.specs.List.{filter}
use Rattle.std.proofs.lemmas.Bool.{and_parts, eqb-true, false≢true, ne_eqb}
use Rattle.std.proofs.lemmas.List.Sums.{sum_by-append, sum_by-cons, sum_by_push}
use Rattle.std.proofs.lemmas.List.Filters.{sum_by-filter_both}
use Rattle.polis_base.specs.Lists.{upto}
use Rattle.domains.specs.AllCodes.{all_codes, each_after}
use Rattle.domains.specs.Tables.{are_sizes}
use Rattle.transition_table.specs.declared.machine.Machine.{Machine}
use Rattle.journals.specs.Seen.{is_present, is_seen}
use Rattle.table_use.specs.inner.Boxes.{passes, passing, passing_idle}
use Rattle.journals.proofs.Upto.{any_found, found_below}
use Rattle.table_use.proofs.Bools.{and_last}
use Rattle.polis_base.proofs.UptoPlaces.{flat_map_upto}

-- ---- counts

-- what is the same of each list is counted the same
pub count_same : (p q : List ℕ → Bool) (xs : List (List ℕ)) → ((s : List ℕ) → p s ≡ q s)
    → count_by p xs ≡ count_by q xs
count_same p q [] same = refl
count_same p q (x ∷ xs) same =
    sum_by-cons (λ s. cond (p s) 1 0) x xs
    ∙ ap (λ (b : Bool). cond b 1 0 + count_by p xs) (same x)
    ∙ ap (λ (n : ℕ). cond (q x) 1 0 + n) (count_same p q xs same)
    ∙ sym (sum_by-cons (λ s. cond (q s) 1 0) x xs)

-- of lists with a code before them
count_after : (p : List ℕ → Bool) (code : ℕ) (lists : List (List ℕ))
    → count_by p (each_after lists code) ≡ count_by (λ s. p (code ∷ s)) lists
count_after p code [] = refl
count_after p code (x ∷ xs) =
    sum_by-cons (λ s. cond (p s) 1 0) (code ∷ x) (each_after xs code)
    ∙ ap (λ (n : ℕ). cond (p (code ∷ x)) 1 0 + n) (count_after p code xs)
    ∙ sym (sum_by-cons (λ s. cond (p (code ∷ s)) 1 0) x xs)

count_none : (lists : List (List ℕ)) → count_by (λ (s : List ℕ). false) lists ≡ 0
count_none [] = refl
count_none (x ∷ xs) =
    sum_by-cons (λ (s : List ℕ). 0) x xs ∙ ap (λ (n : ℕ). 0 + n) (count_none xs)

count_if : (b : Bool) (q : List ℕ → Bool) (lists : List (List ℕ))
    → count_by (λ s. b && q s) lists ≡ cond b (count_by q lists) 0
count_if true q lists = refl
count_if false q lists = count_none lists

-- ---- lists that pass

times_if : (b : Bool) (a rest : ℕ) → a * rest + cond b rest 0 ≡ (a + cond b 1 0) * rest
times_if true a rest =
    ap (λ (n : ℕ). a * rest + n) (sym (one-mul rest)) ∙ sym (add-mul a 1 rest)
times_if false a rest =
    ap (λ (n : ℕ). a * rest + n) (sym (zero-mul rest)) ∙ sym (add-mul a 0 rest)

first_passes : (test : ℕ → ℕ → Bool) (n : ℕ) (lists : List (List ℕ)) (size rest : ℕ)
    → count_by (passes test (n + 1)) lists ≡ rest
    → count_by (passes test n) (flat_map (each_after lists) (upto size))
    ≡ count_by (test n) (upto size) * rest
first_passes test n lists zero rest is = sym (zero-mul rest)
first_passes test n lists (suc size) rest is =
    ap (λ (l : List (List ℕ)). count_by (passes test n) l) (flat_map_upto (each_after lists) size)
    ∙ sum_by-append (λ s. cond (passes test n s) 1 0) (flat_map (each_after lists) (upto size))
    (each_after lists size)
    ∙ ap (λ (k : ℕ). k + count_by (passes test n) (each_after lists size))
    (first_passes test n lists size rest is)
    ∙ ap (λ (k : ℕ). count_by (test n) (upto size) * rest + k)
    (count_after (passes test n) size lists
    ∙ count_if (test n size) (passes test (n + 1)) lists
    ∙ ap (λ (k : ℕ). cond (test n size) k 0) is)
    ∙ times_if (test n size) (count_by (test n) (upto size)) rest
    ∙ ap (λ (k : ℕ). k * rest) (sym (sum_by_push (λ code. cond (test n code) 1 0) (upto size) size))

pub passing_counts : (test : ℕ → ℕ → Bool) (n : ℕ) (sizes : List ℕ)
    → count_by (passes test n) (all_codes sizes) ≡ passing test n sizes
passing_counts test n [] = refl
passing_counts test n (size ∷ sizes) =
    first_passes test n (all_codes sizes) size (passing test (n + 1) sizes)
    (passing_counts test (n + 1) sizes)

-- ---- and begin with zeros

-- each of the first k codes is 0
abbrev pub begins_idle : ℕ → List ℕ → Bool
begins_idle zero s = true
begins_idle (suc k) [] = true
begins_idle (suc k) (code ∷ s) = eqb code 0 && begins_idle k s

swapped : (a b c : Bool) → ((a && b) && c) ≡ (a && (b && c))
swapped true b c = refl
swapped false b c = refl

none_later : (a b c : Bool) → ((a && b) && (false && c)) ≡ false
none_later true true c = refl
none_later true false c = refl
none_later false b c = refl

abbrev passes_idle : (ℕ → ℕ → Bool) → ℕ → ℕ → List ℕ → Bool
passes_idle test k n s = passes test n s && begins_idle k s

first_idle : (test : ℕ → ℕ → Bool) (k n : ℕ) (lists : List (List ℕ)) (size rest : ℕ)
    → count_by (passes_idle test k (n + 1)) lists ≡ rest
    → count_by (passes_idle test (suc k) n) (flat_map (each_after lists) (upto (suc size)))
    ≡ cond (test n 0) rest 0
first_idle test k n lists zero rest is =
    ap (λ (l : List (List ℕ)). count_by (passes_idle test (suc k) n) l)
    (flat_map_upto (each_after lists) 0)
    ∙ count_after (passes_idle test (suc k) n) 0 lists
    ∙ count_same (λ s. (test n 0 && passes test (n + 1) s) && (true && begins_idle k s))
    (λ s. test n 0 && passes_idle test k (n + 1) s) lists
    (λ s. swapped (test n 0) (passes test (n + 1) s) (begins_idle k s))
    ∙ count_if (test n 0) (passes_idle test k (n + 1)) lists
    ∙ ap (λ (j : ℕ). cond (test n 0) j 0) is
first_idle test k n lists (suc size) rest is =
    ap (λ (l : List (List ℕ)). count_by (passes_idle test (suc k) n) l)
    (flat_map_upto (each_after lists) (suc size))
    ∙ sum_by-append (λ s. cond (passes_idle test (suc k) n s) 1 0)
    (flat_map (each_after lists) (upto (suc size))) (each_after lists (suc size))
    ∙ ap (λ (j : ℕ). j + count_by (passes_idle test (suc k) n) (each_after lists (suc size)))
    (first_idle test k n lists size rest is)
    ∙ ap (λ (j : ℕ). cond (test n 0) rest 0 + j)
    (count_after (passes_idle test (suc k) n) (suc size) lists
    ∙ count_same
    (λ s. (test n (suc size) && passes test (n + 1) s) && (eqb (suc size) 0 && begins_idle k s))
    (λ (s : List ℕ). false) lists
    (λ s.
    ap (λ (b : Bool). (test n (suc size) && passes test (n + 1) s) && (b && begins_idle k s))
    (ne_eqb (suc size) 0 (λ h. absurd (omega arith)))
    ∙ none_later (test n (suc size)) (passes test (n + 1) s) (begins_idle k s))
    ∙ count_none lists)
    ∙ (let e : cond (test n 0) rest 0 + 0 ≡ cond (test n 0) rest 0 = omega arith in e)

pub idle_counts : (test : ℕ → ℕ → Bool) (k n : ℕ) (sizes : List ℕ) → are_sizes sizes ≡ true
    → count_by (passes_idle test k n) (all_codes sizes) ≡ passing_idle test k n sizes
idle_counts test zero n sizes some =
    count_same (passes_idle test 0 n) (passes test n) (all_codes sizes)
    (λ s. and_last (passes test n s))
    ∙ passing_counts test n sizes
idle_counts test (suc k) n [] some = refl
idle_counts test (suc k) n (zero ∷ sizes) some =
    let parts = and_parts (nat_le 1 0 && nat_le 0 33) (are_sizes sizes) some in
    absurd (false≢true parts.0)
idle_counts test (suc k) n (suc size ∷ sizes) some =
    let parts = and_parts (nat_le 1 (suc size) && nat_le (suc size) 33) (are_sizes sizes) some in
    first_idle test k n (all_codes sizes) size (passing_idle test k (n + 1) sizes)
    (idle_counts test k (n + 1) sizes parts.1)

-- ---- which are those that aren't seen

zero_at : (n : ℕ) (s : List ℕ) (i : ℕ) → begins_idle n s ≡ true → i < n → slice_index s i ≡ 0
zero_at zero s i h low = absurd (omega arith)
zero_at (suc n) [] i h low = refl
zero_at (suc n) (code ∷ s) zero h low =
    eqb-true code 0 (and_parts (eqb code 0) (begins_idle n s) h).0
zero_at (suc n) (code ∷ s) (suc i) h low =
    zero_at n s i (and_parts (eqb code 0) (begins_idle n s) h).1 (omega arith)

some_at : (n : ℕ) (s : List ℕ) → begins_idle n s ≡ false
    → (i : ℕ) × (i < n) × (is_present i s ≡ true)
some_at zero s h = absurd (false≢true (sym h))
some_at (suc n) [] h = absurd (false≢true (sym h))
some_at (suc n) (code ∷ s) h = cases (eqb code 0) refl h (some_at n s)
  where
    cases : (b : Bool) → eqb code 0 ≡ b → (b && begins_idle n s) ≡ false
        → (begins_idle n s ≡ false → (i : ℕ) × (i < n) × (is_present i s ≡ true))
        → (i : ℕ) × (i < suc n) × (is_present i (code ∷ s) ≡ true)
    cases true is off rest =
        let later = rest off in
        let low = later.1 in
        (suc later.0, omega arith, later.2)
    cases false is off rest = (0, omega arith, ap not is)

pub unseen_idle : (m : Machine) (s : List ℕ) → not (is_seen m s) ≡ begins_idle (length m.inputs) s
unseen_idle m s = cases (begins_idle (length m.inputs) s) refl
  where
    cases : (b : Bool) → begins_idle (length m.inputs) s ≡ b → not (is_seen m s) ≡ b
    cases true is = ap not (none (is_seen m s) refl)
      where
        none : (b : Bool) → is_seen m s ≡ b → b ≡ false
        none false h = refl
        none true h =
            let found = found_below (λ i. is_present i s) (length m.inputs) h in
            absurd (false≢true
            (sym (ap (λ (n : ℕ). not (eqb n 0)) (zero_at (length m.inputs) s found.0 is found.1))
            ∙ found.2))
    cases false is =
        let found = some_at (length m.inputs) s is in
        ap not (any_found (λ i. is_present i s) (length m.inputs) found.0 found.1 found.2)

-- those that are seen, and those that begin with zeros, are all
pub seen_and_idle : (m : Machine) (p : List ℕ → Bool)
    → count_by p (filter (is_seen m) (all_codes m.vars))
    + count_by p (filter (λ s. not (is_seen m s)) (all_codes m.vars))
    ≡ count_by p (all_codes m.vars)
seen_and_idle m p =
    sum_by-filter_both (is_seen m) (λ s. not (is_seen m s)) (λ s. refl) (λ s. cond (p s) 1 0)
    (all_codes m.vars)
