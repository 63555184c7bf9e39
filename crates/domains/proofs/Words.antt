-- Words of different values differ.
use Rattle.std.proofs.Common.{◌≡◌, ℕ, zero, suc, ◌+◌, ◌<◌, Bool, true, false, not, ◌||◌, List, [], ◌∷◌, length, slice_get, Option, Some, None, IfNone, arith, unwrap_or, sym, ap, refl, ◌∙◌}
use Rattle.std.specs.List.{list_any}
use Rattle.std.proofs.lemmas.Bool.{and_parts, not-true}
use Rattle.std.proofs.lemmas.Fmt.{decimal_injective}
use Rattle.std.proofs.lemmas.Option.{slice_get_within, slice_get-get_or, unwrap_or-slice_get}
use Rattle.domains.specs.Names.{AreValues, is_same, are_distinct}
use Rattle.domains.specs.Domains.{word_of, WordsDiffer}
use Rattle.domains.specs.declared.domain.Domain.TheVariants.{Names, Range}
use Rattle.domains.proofs.Names.{same_self}

-- a name that stands at a place is among the names
among_at : (names : List (List ℕ)) (k : ℕ) (name : List ℕ) → k < length names
    → name ≡ unwrap_or (slice_get names k) [] → list_any (is_same name) names ≡ true
among_at [] k name below at = absurd (omega arith)
among_at (first ∷ names) zero name below at = rw (at, same_self first) refl
among_at (first ∷ names) (suc k) name below at =
    rw (among_at names k name (omega arith) at) (or_true (is_same name first))
  where
    or_true : (b : Bool) → (b || true) ≡ true
    or_true true = refl
    or_true false = refl

places_same : (names : List (List ℕ)) (v w : ℕ) → are_distinct names ≡ true → v < length names
    → w < length names → unwrap_or (slice_get names v) [] ≡ unwrap_or (slice_get names w) [] → v ≡ w
places_same [] v w distinct below_v below_w same = absurd (omega arith)
places_same (first ∷ names) zero zero distinct below_v below_w same = refl
places_same (first ∷ names) zero (suc w) distinct below_v below_w same =
    let parts = and_parts (not (list_any (is_same first) names)) (are_distinct names) distinct in
    let absent = not-true _ parts.0 in
    let there = among_at names w first (omega arith) same in
    cc
places_same (first ∷ names) (suc v) zero distinct below_v below_w same =
    let parts = and_parts (not (list_any (is_same first) names)) (are_distinct names) distinct in
    let absent = not-true _ parts.0 in
    let there = among_at names v first (omega arith) (sym same) in
    cc
places_same (first ∷ names) (suc v) (suc w) distinct below_v below_w same =
    let parts = and_parts (not (list_any (is_same first) names)) (are_distinct names) distinct in
    ap suc (places_same names v w parts.1 (omega arith) (omega arith) same)

pub words_differ : WordsDiffer
words_differ (Names names) v w domain below_v below_w same =
    places_same names v w domain.distinct below_v below_w same
words_differ (Range span) v w domain below_v below_w same =
    let e = decimal_injective (span.first + v) (span.first + w) (omega arith) (omega arith) same in
    omega arith

-- what follows from what a clause says where there is no value
pub none_then : {X : Type 0} (r : Option X) {P Q : Type 0} → IfNone r P → (P → Q) → IfNone r Q
none_then None h f = f h
none_then (Some x) h f = h

-- a name stands at one place
pub only_place : (names : List (List ℕ)) (word : List ℕ) (v w : ℕ) → AreValues names
    → slice_get names v ≡ Some word → w < length names → word_of (Names names) w ≡ word → w ≡ v
only_place names word v w values at below same =
    let there : word_of (Names names) v ≡ word = ap (λ (o : Option (List ℕ)). unwrap_or o []) at in
    places_same names w v values.distinct below (slice_get_within names v word at)
    (same ∙ sym there)

pub no_place : (names : List (List ℕ)) (word : List ℕ) (v : ℕ) → v < length names
    → word_of (Names names) v ≡ word → slice_get names v ≡ Some word
no_place names word v below same =
    slice_get-get_or names v [] below ∙ ap (λ (name : List ℕ). Some name)
    (sym (unwrap_or-slice_get names v []) ∙ same)
