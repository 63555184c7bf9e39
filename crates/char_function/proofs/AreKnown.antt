-- Nodes that are known for outcomes.
use Rattle.std.proofs.Common.{◌≡◌, ⊎_elim, ℕ, zero, suc, ◌-◌, ◌<◌, ◌≤◌, ◌==◌, Bool, true, false, ◌&&◌, ◌||◌, leb, ltb, List, [], ◌∷◌, length, drop, get_or, slice_index, slice_set, Option, None, Some, refl, ap, sym, subst, ◌∙◌, arith}
use Rattle.std.specs.Prelude.{IfSome}
use Rattle.std.specs.List.{list_all}
use Rattle.std.proofs.lemmas.Bool.{and_parts, and_from, cases_eq, leb-true, ltb-true, le-leb}
use Rattle.std.proofs.lemmas.List.{get_or-set_same, get_or-set_other, length-set}
use Rattle.decision_diagram.specs.Diagrams.{Diagrams, Keeps, Means, level_of}
use Rattle.outcome_table.specs.Outcomes.{IsTableOf}
use Rattle.outcome_table.specs.declared.table.Table.{Table}
use Rattle.transition_table.specs.declared.machine.Machine.{Machine}
use Rattle.char_function.specs.inner.Groups.{agrees, some_agrees, is_group}
use Rattle.char_function.specs.inner.Known.{OnlyResults, has_outcome, AreKnown}
use Rattle.char_function.specs.inner.Points.{at_point, points}
use Rattle.char_function.proofs.GroupNodes.{means_kept}
use Rattle.char_function.proofs.IsTableOf.{result_at}

-- nodes stay known while the store grows
pub known_kept : (old new : Diagrams) (vars start : ℕ) (outcomes : List (List ℕ))
    (known : List (Option ℕ)) → Keeps old new → AreKnown old vars start outcomes known
    → AreKnown new vars start outcomes known
known_kept old new vars start outcomes known kept are = record {
  long = are.long;
  means = λ k n is.
      subst (λ (order : List ℕ). Means new n (has_outcome vars outcomes k (drop start order)))
      (sym kept.order)
      (means_kept old new n (has_outcome vars outcomes k (drop start old.order)) kept
      (are.means k n is));
  levels = λ k n is. let e = kept.levels n (are.means k n is).node in let l = are.levels k n is in
      omega arith;
}

-- what stands from a place on is a result
results_from : (vars start : ℕ) (order : List ℕ) → OnlyResults vars order start
    → list_all (λ v. leb vars v) (drop start order) ≡ true
results_from vars zero [] only = refl
results_from vars zero (v ∷ order) only =
    and_from (leb vars v) (list_all (λ v. leb vars v) order)
    (le-leb vars v (only 0 (omega arith) (omega arith)))
    (results_from vars zero order (λ j high low. only (suc j) (omega arith) (omega arith)))
results_from vars (suc start) [] only = refl
results_from vars (suc start) (v ∷ order) only =
    results_from vars start order (λ j high low. only (suc j) (omega arith) (omega arith))

-- a snapshot with its results agrees on results where the list has its outcome
agrees_outcome : (m : Machine) (t : Table) → IsTableOf m t → (i : ℕ) → i < length (points m)
    → (items codes : List ℕ) → list_all (λ v. leb (length m.vars) v) items ≡ true
    → agrees items (at_point (points m) i) codes
    ≡ has_outcome (length m.vars) t.outcomes (slice_index t.numbers i) items codes
agrees_outcome m t tabled i low [] codes all = refl
agrees_outcome m t tabled i low (v ∷ items) codes all =
    let parts = and_parts (leb (length m.vars) v) (list_all (λ v. leb (length m.vars) v) items)
    all in
    ap (λ (c : ℕ). c == slice_index codes v && agrees items (at_point (points m) i) codes)
    (sym (result_at m t tabled i v low (leb-true (length m.vars) v parts.0)))
    ∙ ap (λ (b : Bool). slice_index (get_or t.outcomes (slice_index t.numbers i) [])
    (v - length m.vars) == slice_index codes v && b)
    (agrees_outcome m t tabled i low items codes parts.1)

one_agrees : (points : List (List ℕ)) (order : List ℕ) (place : ℕ) (group codes : List ℕ)
    → length group ≡ 1 → some_agrees points order place group codes
    ≡ agrees (drop place order) (at_point points (slice_index group 0)) codes
one_agrees points order place [] codes long = absurd (omega arith)
one_agrees points order place (i ∷ []) codes long =
    or_none (agrees (drop place order) (at_point points i) codes)
  where
    or_none : (b : Bool) → (b || false) ≡ b
    or_none true = refl
    or_none false = refl
one_agrees points order place (i ∷ j ∷ group) codes long = absurd (omega arith)

pub one_low : (points : List (List ℕ)) (group : List ℕ) → length group ≡ 1
    → is_group points group ≡ true → slice_index group 0 < length points
one_low points [] long all = absurd (omega arith)
one_low points (i ∷ group) long all =
    ltb-true i (length points) (and_parts (ltb i (length points)) (is_group points group) all).0

-- a group of one snapshot is where the list has its outcome
pub group_outcome : (m : Machine) (t : Table) → IsTableOf m t → (order : List ℕ) (start : ℕ)
    → OnlyResults (length m.vars) order start → (group codes : List ℕ) → length group ≡ 1
    → is_group (points m) group ≡ true
    → some_agrees (points m) order start group codes
    ≡ has_outcome (length m.vars) t.outcomes (slice_index t.numbers (slice_index group 0))
    (drop start order) codes
group_outcome m t tabled order start only group codes long all =
    one_agrees (points m) order start group codes long
    ∙ agrees_outcome m t tabled (slice_index group 0) (one_low (points m) group long all)
    (drop start order) codes (results_from (length m.vars) start order only)

pub known_more : (s : Diagrams) (vars start : ℕ) (outcomes : List (List ℕ))
    (known : List (Option ℕ)) (k n : ℕ) → AreKnown s vars start outcomes known → k < length known
    → Means s n (has_outcome vars outcomes k (drop start s.order)) → start ≤ level_of s n
    → AreKnown s vars start outcomes (slice_set known k (Some n))
known_more s vars start outcomes known k n are low means level = record {
  long = length-set known k (Some n) ∙ are.long;
  means = λ j p is.
      ⊎_elim
      (λ same.
      let e : Some n ≡ Some p =
      sym (ap (λ (i : ℕ). get_or (slice_set known k (Some n)) i None) same
      ∙ get_or-set_same known k (Some n) None low) ∙ is in
      let f : n ≡ p = some_same n p e in
      subst (λ (q : ℕ). Means s q (has_outcome vars outcomes j (drop start s.order))) f
      (subst (λ (i : ℕ). Means s n (has_outcome vars outcomes i (drop start s.order)))
      (sym same) means))
      (λ other. are.means j p (sym (get_or-set_other known k j (Some n) None other) ∙ is))
      (cases_eq j k);
  levels = λ j p is.
      ⊎_elim
      (λ same.
      let e : Some n ≡ Some p =
      sym (ap (λ (i : ℕ). get_or (slice_set known k (Some n)) i None) same
      ∙ get_or-set_same known k (Some n) None low) ∙ is in
      let f : n ≡ p = some_same n p e in
      subst (λ (q : ℕ). start ≤ level_of s q) f level)
      (λ other. are.levels j p (sym (get_or-set_other known k j (Some n) None other) ∙ is))
      (cases_eq j k);
}
  where
    some_same : (n p : ℕ) → Some n ≡ Some p → n ≡ p
    some_same n p h = cc

pub some_known : (n : Option ℕ) (P : ℕ → Type 0) → ((k : ℕ) → n ≡ Some k → P k) → IfSome n P
some_known None P go = tt
some_known (Some k) P go = go k refl
