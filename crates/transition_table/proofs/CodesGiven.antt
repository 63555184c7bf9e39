-- The codes that actions give fit the results.
use Rattle.std.proofs.Common.{◌≡◌, ℕ, zero, suc, ◌+◌, ◌<◌, true, ◌&&◌, ◌==◌, nat_lt, nat_le, List, [], ◌∷◌, ◌++◌, map, length, take, drop, slice_index, arith, sym, ap, refl, ◌∙◌, add-one, subst, inl, inr}
use Rattle.std.specs.Cmp.Derive.{both_true}
use Rattle.std.specs.Cmp.Lexicographic.{pointwise, same_text}
use Rattle.std.specs.List.{list_all}
use Rattle.std.proofs.lemmas.Bool.{and_parts, eqb-true, leb-true, lt-ltb, le-leb, cases_Bool}
use Rattle.std.proofs.lemmas.List.{append_assoc, append-nil, length_push, map-append, take-append-drop}
use Rattle.polis_base.specs.Lists.{upto}
use Rattle.domains.specs.Tables.{fits}
use Rattle.transition_table.specs.MachineFacts.{names_result, is_source}
use Rattle.transition_table.specs.Sources.{code_of}
use Rattle.transition_table.specs.Transitions.{code_given, codes_given}
use Rattle.transition_table.specs.declared.row.Act.{Act}
use Rattle.transition_table.specs.declared.machine.Machine.{Machine}
use Rattle.transition_table.proofs.Ranges.{source_below}
use Rattle.polis_base.proofs.Lists.{all_append}

-- the codes of one more result
pub codes_given_last : (m : Machine) (codes : List ℕ) (acts : List Act) (first n : ℕ)
    → codes_given m codes acts first (suc n)
    ≡ codes_given m codes acts first n ++ code_given m codes acts (first + n) ∷ []
codes_given_last m codes acts first n =
    map-append (λ k. code_given m codes acts (first + k)) (upto n) (n ∷ [])

pub length_codes_given : (m : Machine) (codes : List ℕ) (acts : List Act) (first n : ℕ)
    → length (codes_given m codes acts first n) ≡ n
length_codes_given m codes acts first zero = refl
length_codes_given m codes acts first (suc n) =
    ap length (codes_given_last m codes acts first n)
    ∙ length_push (codes_given m codes acts first n) (code_given m codes acts (first + n))
    ∙ rw (length_codes_given m codes acts first n, add-one) refl

-- the codes of two runs of results, one after the other
pub codes_given_append : (m : Machine) (codes : List ℕ) (acts : List Act) (first n k : ℕ)
    → codes_given m codes acts first n ++ codes_given m codes acts (first + n) k
    ≡ codes_given m codes acts first (n + k)
codes_given_append m codes acts first n zero =
    let e : n ≡ n + 0 = omega arith in
    append-nil (codes_given m codes acts first n)
    ∙ ap (λ (j : ℕ). codes_given m codes acts first j) e
codes_given_append m codes acts first n (suc k) =
    let prefix = codes_given m codes acts first n in
    let more : suc (n + k) ≡ n + suc k = omega arith in
    let last : first + n + k ≡ first + (n + k) = omega arith in
    ap (λ (xs : List ℕ). prefix ++ xs) (codes_given_last m codes acts (first + n) k)
    ∙ sym (append_assoc prefix (codes_given m codes acts (first + n) k)
    (code_given m codes acts (first + n + k) ∷ []))
    ∙ ap (λ (xs : List ℕ). xs ++ code_given m codes acts (first + n + k) ∷ [])
    (codes_given_append m codes acts first n k)
    ∙ ap (λ (y : ℕ). codes_given m codes acts first (n + k) ++ code_given m codes acts y ∷ []) last
    ∙ sym (codes_given_last m codes acts first (n + k))
    ∙ ap (λ (j : ℕ). codes_given m codes acts first j) more

codes_given_first : (m : Machine) (codes : List ℕ) (acts : List Act) (first n : ℕ)
    → codes_given m codes acts first (suc n)
    ≡ code_given m codes acts first ∷ codes_given m codes acts (suc first) n
codes_given_first m codes acts first n =
    let more : suc n ≡ 1 + n = omega arith in
    let own : first + 0 ≡ first = omega arith in
    let next : first + 1 ≡ suc first = omega arith in
    ap (λ (j : ℕ). codes_given m codes acts first j) more
    ∙ sym (codes_given_append m codes acts first 1 n)
    ∙ ap (λ (y : ℕ). code_given m codes acts y ∷ codes_given m codes acts (first + 1) n) own
    ∙ ap (λ (y : ℕ). code_given m codes acts first ∷ codes_given m codes acts y n) next

-- a code that is given is below its result's size
given_below : (m : Machine) (codes : List ℕ) (acts : List Act) (y : ℕ) → fits m.vars codes ≡ true
    → list_all (names_result m.inputs m.vars m.results) acts ≡ true → 0 < slice_index m.results y
    → code_given m codes acts y < slice_index m.results y
given_below m codes [] y fit named some = some
given_below m codes (act ∷ acts) y fit named some =
    let parts = and_parts (names_result m.inputs m.vars m.results act)
    (list_all (names_result m.inputs m.vars m.results) acts) named in
    let own = and_parts (nat_lt act.result (length m.results))
    (is_source m.inputs m.vars m.results act.result act.source) parts.0 in
    elim (cases_Bool (act.result == y)) [
      | inl here ↦
          let e : act.result ≡ y = eqb-true act.result y here in
          rw here (subst (λ k. code_of m.inputs m.vars codes act.result act.source
          < slice_index m.results k) e (source_below m codes act.result act.source fit own.1))
      | inr elsewhere ↦ rw elsewhere (given_below m codes acts y fit parts.1 some)
    ]

all_at : (sizes : List ℕ) (k : ℕ) → list_all (nat_le 1) sizes ≡ true → k < length sizes
    → 0 < slice_index sizes k
all_at [] k all below = absurd (omega arith)
all_at (size ∷ sizes) zero all below =
    leb-true 1 size (and_parts (nat_le 1 size) (list_all (nat_le 1) sizes) all).0
all_at (size ∷ sizes) (suc k) all below =
    all_at sizes k (and_parts (nat_le 1 size) (list_all (nat_le 1) sizes) all).1 (omega arith)

-- codes that are below the sizes fit
fits_given : (m : Machine) (codes : List ℕ) (sizes : List ℕ) (acts : List Act) (first : ℕ)
    → ((k : ℕ) → k < length sizes → code_given m codes acts (first + k) < slice_index sizes k)
    → fits sizes (codes_given m codes acts first (length sizes)) ≡ true
fits_given m codes [] acts first below = refl
fits_given m codes (size ∷ sizes) acts first below =
    let own : first + 0 ≡ first = omega arith in
    let prefix : code_given m codes acts first < size = rw own at (below 0 (omega arith)) in
    rw (codes_given_first m codes acts first (length sizes))
    (both_true
    (lt-ltb (code_given m codes acts first) size prefix)
    (fits_given m codes sizes acts (suc first) (λ (k : ℕ) (h : k < length sizes).
    let next : first + suc k ≡ suc first + k = omega arith in
    rw next at (below (suc k) (omega arith)))))

-- the sizes of results are at least 1
all_one_more : (sizes : List ℕ) → list_all (nat_le 1) (map (λ size. 1 + size) sizes) ≡ true
all_one_more [] = refl
all_one_more (size ∷ sizes) = both_true (le-leb 1 (1 + size) (omega arith)) (all_one_more sizes)

all_two : (sizes : List ℕ) → list_all (nat_le 2) sizes ≡ true → list_all (nat_le 1) sizes ≡ true
all_two [] h = refl
all_two (size ∷ sizes) h =
    let parts = and_parts (nat_le 2 size) (list_all (nat_le 2) sizes) h in
    both_true (le-leb 1 size (omega (arith, leb-true 2 size parts.0))) (all_two sizes parts.1)

results_some : (m : Machine) → list_all (nat_le 1) m.results ≡ true
results_some m =
    let n = 1 + length m.states in
    let lengths = length m.results == 1 + length m.states + length m.outputs in
    let prefix = pointwise ◌==◌ (2 ∷ map (λ size. 1 + size) (drop (length m.inputs) m.vars))
    (take n m.results) in
    let after = list_all (nat_le 2) (drop n m.results) in
    let parts = and_parts (lengths && prefix) after m.sized_results in
    let same = same_text (2 ∷ map (λ size. 1 + size) (drop (length m.inputs) m.vars))
    (take n m.results) (sym (and_parts lengths prefix parts.0).1) in
    let first : list_all (nat_le 1) (take n m.results) ≡ true =
    rw (← same) (all_one_more (drop (length m.inputs) m.vars)) in
    rw (← take-append-drop n m.results)
    (all_append (nat_le 1) (take n m.results) (drop n m.results) first
    (all_two (drop n m.results) parts.1))

results_length : (m : Machine) → length m.results ≡ suc (length m.states + length m.outputs)
results_length m =
    let n = 1 + length m.states in
    let lengths = length m.results == 1 + length m.states + length m.outputs in
    let prefix = pointwise ◌==◌ (2 ∷ map (λ size. 1 + size) (drop (length m.inputs) m.vars))
    (take n m.results) in
    let after = list_all (nat_le 2) (drop n m.results) in
    let e = eqb-true (length m.results) (1 + length m.states + length m.outputs)
    (and_parts lengths prefix (and_parts (lengths && prefix) after m.sized_results).0).0 in
    omega arith

given_fits : (m : Machine) (codes : List ℕ) (results : List ℕ) (acts : List Act) (n : ℕ)
    → length results ≡ suc n
    → ((y : ℕ) → y < length results → code_given m codes acts y < slice_index results y)
    → fits (drop 1 results) (codes_given m codes acts 1 n) ≡ true
given_fits m codes [] acts n e below = absurd (omega arith)
given_fits m codes (size ∷ sizes) acts n e below =
    let count : n ≡ length sizes = omega arith in
    rw count (fits_given m codes sizes acts 1 (λ (k : ℕ) (h : k < length sizes).
    let next : suc k ≡ 1 + k = omega arith in
    rw (← next) (below (suc k) (omega arith))))

-- what actions of a machine give on a snapshot fits its results
pub outcome_fits : (m : Machine) (codes : List ℕ) (acts : List Act) → fits m.vars codes ≡ true
    → list_all (names_result m.inputs m.vars m.results) acts ≡ true
    → fits (drop 1 m.results) (codes_given m codes acts 1 (length m.states)
    ++ codes_given m codes acts (1 + length m.states) (length m.outputs)) ≡ true
outcome_fits m codes acts fit named =
    rw (codes_given_append m codes acts 1 (length m.states) (length m.outputs))
    (given_fits m codes m.results acts (length m.states + length m.outputs) (results_length m)
    (λ y below. given_below m codes acts y fit named
    (all_at m.results y (results_some m) below)))
