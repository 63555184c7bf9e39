-- Rows of which one says what the other denies.
use Rattle.std.proofs.Common.{◌≡◌, ◌≢◌, ◌<◌, ◌≤◌, ◌+◌, ◌-◌, ◌==◌, ◌&&◌, ◌||◌, ◌⊎◌, ℕ, true, false, not, cond, nat_lt, List, length, get_or, slice_get, slice_index, Option, Some, None, arith, refl, sym, ◌∙◌, ap, inl, inr, true≢false}
use Rattle.std.specs.Int.{bit_at}
use Rattle.std.proofs.lemmas.Bool.{ltb-true, ltb-false, cases_Bool, eqb-true, ne_eqb}
use Rattle.std.proofs.lemmas.Bool.Decides.{eqb_tells}
use Rattle.std.proofs.lemmas.Option.{slice_get-get_or}
use Rattle.transition_table.specs.declared.row.Row.{Row}
use Rattle.transition_table.specs.declared.machine.Machine.{Machine}
use Rattle.transition_table.specs.declared.snapshot.Snapshot.{Snapshot}
use Rattle.transition_table.specs.Transitions.{Conflict, holds}
use Rattle.determinism.specs.declared.marks.Marks.{Marks}
use Rattle.transition_table.specs.RowCodes.{AreCodesOf}
use Rattle.determinism.specs.inner.Marks.{Enables, says, AreMarked}
use Rattle.polis_base.proofs.SmallSets.{no_bits, with_others}
use Rattle.transition_table.proofs.Bits.{alike}
use Rattle.determinism.proofs.Overlaps.{allowed_here}

says_low : (place : ℕ) (codes : List ℕ) → place < 32
    → says place codes ≡ (slice_index codes place == 0)
says_low place codes below =
    elim (cases_Bool (nat_lt place 32)) [
      | inl here ↦ ap
          (λ b. cond b (slice_index codes place == 0)
          (not (slice_index codes (place - 32) == 0))) here
      | inr past ↦ absurd (let over = ltb-false place 32 past in omega arith)
    ]

says_high : (var : ℕ) (codes : List ℕ) → says (var + 32) codes ≡ not (slice_index codes var == 0)
says_high var codes =
    let own : var + 32 - 32 ≡ var = omega arith in
    elim (cases_Bool (nat_lt (var + 32) 32)) [
      | inl here ↦ absurd (let below = ltb-true (var + 32) 32 here in omega arith)
      | inr past ↦ ap
          (λ b. cond b (slice_index codes (var + 32) == 0)
          (not (slice_index codes (var + 32 - 32) == 0))) past
          ∙ ap (λ k. not (slice_index codes k == 0)) own
    ]

-- a variable with the code 0
pub says_first : (place var : ℕ) (codes : List ℕ) → place ≡ var → var < 32
    → slice_index codes var ≡ 0 → says place codes ≡ true
says_first place var codes here few first =
    ap (λ p. says p codes) here ∙ says_low var codes few ∙ alike (slice_index codes var) 0 first

pub denies_other : (place var : ℕ) (codes : List ℕ) → place ≡ var + 32 → slice_index codes var ≡ 0
    → says place codes ≡ false
denies_other place var codes here first =
    ap (λ p. says p codes) here ∙ says_high var codes
    ∙ ap not (alike (slice_index codes var) 0 first)

-- and one with another
pub says_other : (place var : ℕ) (codes : List ℕ) → place ≡ var + 32 → slice_index codes var ≢ 0
    → says place codes ≡ true
says_other place var codes here other =
    ap (λ p. says p codes) here ∙ says_high var codes
    ∙ ap not (ne_eqb (slice_index codes var) 0 other)

pub denies_first : (place var : ℕ) (codes : List ℕ) → place ≡ var → var < 32
    → slice_index codes var ≢ 0 → says place codes ≡ false
denies_first place var codes here few other =
    ap (λ p. says p codes) here ∙ says_low var codes few ∙ ne_eqb (slice_index codes var) 0 other

-- a code of a variable that the row allows
code_there : (m : Machine) (row : Row) (var set : ℕ) (codes : List ℕ)
    → AreCodesOf m.vars row var set → Enables m row codes → var < length m.vars
    → bit_at set (slice_index codes var) ≡ 1
code_there m row var set codes is e below =
    eqb-true (bit_at set (slice_index codes var)) 1
    (is (slice_index codes var) ∙ allowed_here m row codes var e.snapshot e.held below)

pub only_first : (m : Machine) (row : Row) (var set rest : ℕ) (codes : List ℕ)
    → AreCodesOf m.vars row var set → Enables m row codes → var < length m.vars
    → ((j : ℕ) → (bit_at rest j == 1) ≡ (not (j == 0) && bit_at set j == 1)) → rest ≡ 0
    → slice_index codes var ≡ 0
only_first m row var set rest codes is e below others none =
    let code = slice_index codes var in
    let there = alike (bit_at set code) 1 (code_there m row var set codes is e below) in
    elim (eqb_tells code 0) [
      | inl here ↦ here.1
      | inr apart ↦ absurd (true≢false (sym (others code
          ∙ ap (λ b. not b && bit_at set code == 1) (ne_eqb code 0 apart.1) ∙ there)
          ∙ no_bits rest code none))
    ]

pub never_first : (m : Machine) (row : Row) (var set : ℕ) (codes : List ℕ)
    → AreCodesOf m.vars row var set → Enables m row codes → var < length m.vars
    → (bit_at set 0 == 1) ≡ false → slice_index codes var ≢ 0
never_first m row var set codes is e below none first =
    let there = ap (bit_at set) (sym first) ∙ code_there m row var set codes is e below in
    true≢false (sym (alike (bit_at set 0) 1 there) ∙ none)

-- one more place
pub with_cases : (new old k : ℕ)
    → ((j : ℕ) → (bit_at new j == 1) ≡ (j == k || bit_at old j == 1)) → (place : ℕ)
    → bit_at new place ≡ 1 → (place ≡ k) ⊎ (bit_at old place ≡ 1)
with_cases new old k is place set =
    elim (eqb_tells place k) [
      | inl here ↦ inl here.1
      | inr apart ↦ inr (sym (with_others new old k is place apart.1) ∙ set)
    ]

-- such rows don't conflict
pub apart_rows : (m : Machine) (marks : List Marks) (a b : ℕ) (first second : Marks)
    → AreMarked m marks → slice_get marks a ≡ Some first → slice_get marks b ≡ Some second
    → (place : ℕ) × (bit_at second.said place ≡ 1) × (bit_at first.denied place ≡ 1)
    → (t : Snapshot) → Conflict m a b t → ⊥
apart_rows m marks a b first second are at_a at_b apart t conflict =
    by (slice_get m.rows a) (slice_get m.rows b) refl refl conflict.first conflict.second
  where
    by : (o p : Option Row) → slice_get m.rows a ≡ o → slice_get m.rows b ≡ p
        → holds t.codes o ≡ true → holds t.codes p ≡ true → ⊥
    by None p here there of_first of_second = cc
    by (Some row) None here there of_first of_second = cc
    by (Some row) (Some other) here there of_first of_second =
        let denied = (are.each a row first here at_a).denied apart.0 t.codes
        (record { snapshot = conflict.snapshot; held = of_first }) apart.2 in
        let said = (are.each b other second there at_b).said apart.0 t.codes
        (record { snapshot = conflict.snapshot; held = of_second }) apart.1 in
        true≢false (sym said ∙ denied)

-- nor does any of the rows between two places
pub none_between : (m : Machine) (marks : List Marks) (a from end : ℕ) (first : Marks)
    → AreMarked m marks → slice_get marks a ≡ Some first → end ≤ length marks
    → ((r : ℕ) (of_row : Marks) → from ≤ r → r < end → slice_get marks r ≡ Some of_row
    → (place : ℕ) × (bit_at of_row.said place ≡ 1) × (bit_at first.denied place ≡ 1))
    → (d : ℕ) (t : Snapshot) → from ≤ d → d < end → Conflict m a d t → ⊥
none_between m marks a from end first are at_a within apart d t low high conflict =
    let there = slice_get-get_or marks d first (omega arith) in
    apart_rows m marks a d first (get_or marks d first) are at_a there
    (apart d (get_or marks d first) low high there) t conflict
