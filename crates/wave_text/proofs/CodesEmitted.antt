-- With which code a firing emits an event.
use Rattle.std.specs.Prelude.{◌≡◌, ◌⊎◌, ℕ, zero, suc, ◌+◌, ◌<◌, Bool, true, false, cond, not, ◌||◌, ◌==◌, nat_lt, List, [], ◌∷◌, ◌++◌, length, take, position, slice_index, Option, Some, None, option_map}
use Rattle.std.specs.Bool.{then_some}
use Rattle.std.specs.List.{list_any, position_or_len}
use Rattle.std.proofs.Common.{refl, sym, ap, ◌∙◌, inl, inr, arith, set}
use Rattle.std.proofs.lemmas.List.{get_or-set_other, get_or-set_same}
use Rattle.std.proofs.lemmas.List.Elements.{filter_map-append}
use Rattle.polis_base.specs.Lists.{last_of}
use Rattle.std.proofs.lemmas.Bool.{and_parts, cases_eq, cases_lt, eq-eqb, ne_eqb, false≢true, lt-ltb, le-ltb, not-true}
use Rattle.transition_table.specs.NetworkFacts.{are_different, has}
use Rattle.journals.specs.Journals.{emitted}
use Rattle.wave_text.specs.inner.Changing.{codes_emitted}

-- the code of an event among the codes of the outputs, 0 where it is none of them
abbrev pub code_sent : List ℕ → List ℕ → ℕ → ℕ
code_sent [] codes e = 0
code_sent (x ∷ outputs) [] e = 0
code_sent (x ∷ outputs) (c ∷ codes) e = cond (x == e) c (code_sent outputs codes e)

none_sent : (outputs codes : List ℕ) (e : ℕ) → has outputs e ≡ false
    → codes_emitted e (emitted outputs codes) ≡ []
none_sent [] codes e h = refl
none_sent (x ∷ outputs) [] e h = refl
none_sent (x ∷ outputs) (zero ∷ codes) e h = none_sent outputs codes e
    (later (x == e) (has outputs e) h)
  where
    later : (a b : Bool) → (a || b) ≡ false → b ≡ false
    later true b g = absurd (false≢true (sym g))
    later false b g = g
none_sent (x ∷ outputs) (suc v ∷ codes) e h = parts (x == e) refl h (none_sent outputs codes e)
  where
    parts : (a : Bool) → (x == e) ≡ a → (a || has outputs e) ≡ false
        → (has outputs e ≡ false → codes_emitted e (emitted outputs codes) ≡ [])
        → codes_emitted e (emitted (x ∷ outputs) (suc v ∷ codes)) ≡ []
    parts true is g rest = absurd (false≢true (sym g))
    parts false is g rest = rw is (rest g)

pub sent_once : (outputs codes : List ℕ) (e : ℕ) → are_different outputs ≡ true
    → codes_emitted e (emitted outputs codes)
    ≡ cond (code_sent outputs codes e == 0) [] (code_sent outputs codes e ∷ [])
sent_once [] codes e once = refl
sent_once (x ∷ outputs) [] e once = refl
sent_once (x ∷ outputs) (zero ∷ codes) e once =
    cases (cases_eq x e)
    (sent_once outputs codes e
    (and_parts (not (has outputs x)) (are_different outputs) once).1)
  where
    parts : (not (has outputs x) ≡ true) × (are_different outputs ≡ true)
    parts = and_parts (not (has outputs x)) (are_different outputs) once

    cases : ((x ≡ e) ⊎ (x ≡ e → ⊥))
        → (codes_emitted e (emitted outputs codes)
        ≡ cond (code_sent outputs codes e == 0) [] (code_sent outputs codes e ∷ []))
        → codes_emitted e (emitted outputs codes)
        ≡ cond (cond (x == e) 0 (code_sent outputs codes e) == 0) []
        (cond (x == e) 0 (code_sent outputs codes e) ∷ [])
    cases (inl same) rest = rw (eq-eqb x e same)
        (none_sent outputs codes e
        (ap (has outputs) (sym same) ∙ not-true (has outputs x) parts.0))
    cases (inr other) rest = rw (ne_eqb x e other) rest
sent_once (x ∷ outputs) (suc v ∷ codes) e once =
    cases (cases_eq x e)
    (sent_once outputs codes e
    (and_parts (not (has outputs x)) (are_different outputs) once).1)
  where
    parts : (not (has outputs x) ≡ true) × (are_different outputs ≡ true)
    parts = and_parts (not (has outputs x)) (are_different outputs) once

    cases : ((x ≡ e) ⊎ (x ≡ e → ⊥))
        → (codes_emitted e (emitted outputs codes)
        ≡ cond (code_sent outputs codes e == 0) [] (code_sent outputs codes e ∷ []))
        → codes_emitted e (emitted (x ∷ outputs) (suc v ∷ codes))
        ≡ cond (cond (x == e) (suc v) (code_sent outputs codes e) == 0) []
        (cond (x == e) (suc v) (code_sent outputs codes e) ∷ [])
    cases (inl same) rest = rw
        (eq-eqb x e same, ne_eqb (suc v) 0 (λ h. let g : suc v ≡ 0 = h in absurd (omega arith)))
        (ap (λ (l : List ℕ). suc v ∷ l)
        (none_sent outputs codes e
        (ap (has outputs) (sym same) ∙ not-true (has outputs x) parts.0)))
    cases (inr other) rest = rw (ne_eqb x e other) rest

any_is_some : (list : List (ℕ × ℕ)) (e : ℕ)
    → list_any (λ (x, code). x == e) list ≡ not (length (codes_emitted e list) == 0)
any_is_some [] e = refl
any_is_some ((x, c) ∷ list) e = cases (x == e) refl (any_is_some list e)
  where
    cases : (b : Bool) → (x == e) ≡ b
        → (list_any (λ (y, code). y == e) list ≡ not (length (codes_emitted e list) == 0))
        → (b || list_any (λ (y, code). y == e) list)
        ≡ not (length (codes_emitted e ((x, c) ∷ list)) == 0)
    cases true is rest =
        let one : codes_emitted e ((x, c) ∷ list) ≡ c ∷ codes_emitted e list = rw is refl in
        sym (ap (λ (l : List ℕ). not (length l == 0)) one
        ∙ ap not (ne_eqb (suc (length (codes_emitted e list))) 0
        (λ h. let g : suc (length (codes_emitted e list)) ≡ 0 = h in absurd (omega arith))))
    cases false is rest =
        let none : codes_emitted e ((x, c) ∷ list) ≡ codes_emitted e list = rw is refl in
        rest ∙ sym (ap (λ (l : List ℕ). not (length l == 0)) none)

-- an event is emitted exactly where its code isn't 0
pub emits_is : (outputs codes : List ℕ) (e : ℕ) → are_different outputs ≡ true
    → list_any (λ (x, code). x == e) (emitted outputs codes)
    ≡ not (code_sent outputs codes e == 0)
emits_is outputs codes e once =
    any_is_some (emitted outputs codes) e
    ∙ ap (λ (l : List ℕ). not (length l == 0)) (sent_once outputs codes e once)
    ∙ cases (code_sent outputs codes e == 0)
  where
    cases : (b : Bool)
        → not (length (cond b [] (code_sent outputs codes e ∷ [])) == 0) ≡ not b
    cases true = refl
    cases false = refl

-- ---- by the place among the outputs

position_next : (e : ℕ) (x : ℕ) (xs : List ℕ) → (x == e) ≡ false
    → position (λ y. y == e) (x ∷ xs) ≡ option_map (λ i. 1 + i) (position (λ y. y == e) xs)
position_next e x xs other =
    let q : ℕ → Bool = λ y. y == e in
    let n = position_or_len q xs in
    let here : position_or_len q (x ∷ xs) ≡ 1 + n = rw other refl in
    ap (λ (k : ℕ). cond (nat_lt k (suc (length xs))) (Some k) None) here
    ∙ (elim (cases_lt n (length xs)) [
      | inl below ↦
          let a = lt-ltb (1 + n) (suc (length xs)) (omega arith) in
          let b = lt-ltb n (length xs) below in
          rw (a, b) refl
      | inr above ↦
          let a = le-ltb (1 + n) (suc (length xs)) (omega arith) in
          let b = le-ltb n (length xs) above in
          rw (a, b) refl
    ])

position_here : (e : ℕ) (x : ℕ) (xs : List ℕ) → (x == e) ≡ true
    → position (λ y. y == e) (x ∷ xs) ≡ Some 0
position_here e x xs same =
    let q : ℕ → Bool = λ y. y == e in
    let here : position_or_len q (x ∷ xs) ≡ 0 = rw same refl in
    ap (λ (k : ℕ). cond (nat_lt k (suc (length xs))) (Some k) None) here
    ∙ rw (lt-ltb 0 (suc (length xs)) (omega arith)) refl

-- the code of an event, by its place
abbrev pub code_by : List ℕ → Option ℕ → ℕ
code_by codes None = 0
code_by codes (Some y) = slice_index codes y

pub code_by_place : (outputs codes : List ℕ) (e : ℕ)
    → code_by codes (position (λ y. y == e) outputs) ≡ code_sent outputs codes e
code_by_place [] codes e = refl
code_by_place (x ∷ outputs) codes e =
    cases (x == e) refl codes (λ rest. code_by_place outputs rest e)
  where
    past : (o : Option ℕ) → code_by [] (option_map (λ i. 1 + i) o) ≡ 0
    past None = refl
    past (Some i) = refl

    next : (c : ℕ) (rest : List ℕ) (o : Option ℕ)
        → code_by (c ∷ rest) (option_map (λ i. 1 + i) o) ≡ code_by rest o
    next c rest None = refl
    next c rest (Some i) = ap (slice_index (c ∷ rest)) (let h : 1 + i ≡ suc i = omega arith in h)

    cases : (b : Bool) → (x == e) ≡ b → (codes : List ℕ)
        → ((rest : List ℕ)
        → code_by rest (position (λ y. y == e) outputs) ≡ code_sent outputs rest e)
        → code_by codes (position (λ y. y == e) (x ∷ outputs)) ≡ code_sent (x ∷ outputs) codes e
    cases true is [] more = ap (code_by []) (position_here e x outputs is)
    cases true is (c ∷ rest) more = ap (code_by (c ∷ rest)) (position_here e x outputs is)
        ∙ rw is refl
    cases false is [] more = ap (code_by []) (position_next e x outputs is)
        ∙ past (position (λ y. y == e) outputs)
    cases false is (c ∷ rest) more = ap (code_by (c ∷ rest)) (position_next e x outputs is)
        ∙ next c rest (position (λ y. y == e) outputs) ∙ more rest ∙ rw is refl

-- ---- by the place of a loop

pub emitted_more : (outputs codes : List ℕ) (k : ℕ) → k < length outputs
    → length codes ≡ length outputs
    → emitted (take (k + 1) outputs) (take (k + 1) codes)
    ≡ emitted (take k outputs) (take k codes)
    ++ cond (slice_index codes k == 0) [] ((slice_index outputs k, slice_index codes k) ∷ [])
emitted_more [] codes k below same = absurd (omega arith)
emitted_more (x ∷ outputs) [] k below same = absurd (omega arith)
emitted_more (x ∷ outputs) (c ∷ codes) zero below same = first c
  where
    first : (c : ℕ)
        → emitted (x ∷ []) (c ∷ []) ≡ cond (c == 0) [] ((x, c) ∷ [])
    first zero = refl
    first (suc v) = rw (ne_eqb (suc v) 0 (λ h. let g : suc v ≡ 0 = h in absurd (omega arith))) refl
emitted_more (x ∷ outputs) (zero ∷ codes) (suc k) below same =
    rw (let h : suc k + 1 ≡ suc (k + 1) = omega arith in h)
    (emitted_more outputs codes k (omega arith) (omega arith))
emitted_more (x ∷ outputs) (suc v ∷ codes) (suc k) below same =
    rw (let h : suc k + 1 ≡ suc (k + 1) = omega arith in h)
    (ap (λ (l : List (ℕ × ℕ)). (x, suc v) ∷ l)
    (emitted_more outputs codes k (omega arith) (omega arith)))

pub last_both : {X : Type 0} (d : X) (xs ys : List X)
    → last_of d (xs ++ ys) ≡ last_of (last_of d xs) ys
last_both d [] ys = refl
last_both d (x ∷ xs) ys = last_both x xs ys

-- one output more is noted
pub value_after_more : (outputs outs start now next : List ℕ) (k e : ℕ) → k < length outputs
    → length outs ≡ length outputs → e < length now
    → next ≡ cond (slice_index outs k == 0) now
    (set now (slice_index outputs k) (slice_index outs k))
    → slice_index now e ≡ last_of (slice_index start e)
    (codes_emitted e (emitted (take k outputs) (take k outs)))
    → slice_index next e
    ≡ last_of (slice_index start e)
    (codes_emitted e (emitted (take (k + 1) outputs) (take (k + 1) outs)))
value_after_more outputs outs start now next k e below same inside made was =
    let x = slice_index outputs k in
    let c = slice_index outs k in
    let d = slice_index start e in
    let front = emitted (take k outputs) (take k outs) in
    let all : codes_emitted e (emitted (take (k + 1) outputs) (take (k + 1) outs))
    ≡ codes_emitted e front ++ codes_emitted e (cond (c == 0) [] ((x, c) ∷ [])) =
    ap (codes_emitted e) (emitted_more outputs outs k below same)
    ∙ filter_map-append (λ (y, code). then_some (y == e) code) front
    (cond (c == 0) [] ((x, c) ∷ [])) in
    ap (λ (l : List ℕ). slice_index l e) made
    ∙ cases (c == 0) refl (cases_eq e x) (slice_index now e)
    ∙ ap (λ (n : ℕ). last_of n (codes_emitted e (cond (c == 0) [] ((x, c) ∷ [])))) was
    ∙ sym (last_both d (codes_emitted e front) (codes_emitted e (cond (c == 0) [] ((x, c) ∷ []))))
    ∙ sym (ap (last_of d) all)
  where
    cases : (b : Bool) → (slice_index outs k == 0) ≡ b
        → ((e ≡ slice_index outputs k) ⊎ (e ≡ slice_index outputs k → ⊥)) → (old : ℕ)
        → slice_index (cond b now (set now (slice_index outputs k) (slice_index outs k))) e
        ≡ last_of (slice_index now e)
        (codes_emitted e (cond b [] ((slice_index outputs k, slice_index outs k) ∷ [])))
    cases true is there old = refl
    cases false is (inl here) old =
        let hit = eq-eqb (slice_index outputs k) e (sym here) in
        ap (slice_index (set now (slice_index outputs k) (slice_index outs k))) here
        ∙ get_or-set_same now (slice_index outputs k) (slice_index outs k) 0 (omega arith)
        ∙ rw hit refl
    cases false is (inr away) old =
        let miss = ne_eqb (slice_index outputs k) e (λ h. away (sym h)) in
        get_or-set_other now (slice_index outputs k) e (slice_index outs k) 0 away
        ∙ rw miss refl
