-- The first delivery that the environment owes is that of the least cursor.
use Rattle.std.specs.Prelude.{◌≡◌, ◌↔◌, ℕ, zero, suc, ◌-◌, ◌<◌, ◌≤◌, Bool, nat_lt, List, [], map, length, slice_get, Option, Some, None, IsTrue}
use Rattle.std.specs.List.{IsFirstBest}
use Rattle.std.proofs.Common.{refl, sym, ap, ◌∙◌, subst, arith, get_or}
use Rattle.std.proofs.lemmas.Bool.{ltb-true, ltb-false, false_from_ne_true}
use Rattle.polis_base.specs.Lists.{upto, head_of}
use Rattle.transition_table.specs.declared.decl.Party.TheVariants.{Env}
use Rattle.transition_table.specs.declared.network.Network.{Network}
use Rattle.journals.specs.declared.entry.Entry.{Entry}
use Rattle.journals.specs.declared.entry.Owed.{Owed}
use Rattle.journals.specs.declared.entry.TraceItem.{TraceItem}
use Rattle.journals.specs.declared.entry.TraceItem.TheVariants.{Event, Settle}
use Rattle.journals.specs.Schedules.{owed_by_env}
use Rattle.journals.specs.Cursors.{cursor, is_settle, settled_at}
use Rattle.journals.proofs.MomentsAfter.{get_or_table}
use Rattle.journals.specs.Laws.{FirstOfCursors, NoneAtEnds}

-- whether the item before a place is `settle`
pub settled_says : (trace : List TraceItem) (place : ℕ) (b : Bool) → IsTrue b
    ↔ ((0 < place) × (slice_get trace (place - 1) ≡ Some Settle)) → settled_at trace place ≡ b
settled_says trace zero b h =
    sym (false_from_ne_true b (λ e. absurd (let some = (h.0 e).0 in omega arith)))
settled_says trace (suc i) b h = here (slice_get trace i) refl
  where
    before : suc i - 1 ≡ i
    before = omega arith

    at : IsTrue b → slice_get trace i ≡ Some Settle
    at e = subst (λ (k : ℕ). slice_get trace k ≡ Some Settle) before (h.0 e).1

    here : (o : Option TraceItem) → slice_get trace i ≡ o → is_settle o ≡ b
    here None is = sym (false_from_ne_true b (λ e. absurd (let no_item = at e in cc)))
    here (Some Settle) is =
        sym (h.1 (omega arith, subst (λ (k : ℕ). slice_get trace k ≡ Some Settle) (sym before) is))
    here (Some (Event e c)) is = sym (false_from_ne_true b (λ e. absurd (let other = at e in cc)))

-- ---- the least cursor

-- the first of the least cursors, said of the cursors themselves
least_is : (f : ℕ → ℕ) (n m : ℕ) (cursors : List ℕ) → cursors ≡ map f (upto n)
    → IsFirstBest nat_lt cursors n m
    → (m < n) × ((k : ℕ) → k < n → f m ≤ f k) × ((k : ℕ) → k < m → f m < f k)
least_is f n m cursors are best =
    let at : (k : ℕ) → k < n → get_or cursors k 0 ≡ f k =
    λ k below. ap (λ (l : List ℕ). get_or l k 0) are ∙ get_or_table f n k 0 below in
    let here = at m best.0 in (
      best.0,
      (λ k below. let there = at k below in
          let least = ltb-false (get_or cursors k 0) (get_or cursors m 0) (best.1 k 0 below) in
          omega arith),
      (λ k below. let there = at k (let inside = best.0 in omega arith) in
          let first = ltb-true (get_or cursors m 0) (get_or cursors k 0) (best.2 k 0 below) in
          omega arith),
    )

pub first_at_least : (net : Network) (trace : List TraceItem) (journal : List Entry)
    (cursors : List ℕ) (m e c : ℕ) (b : Bool) → FirstOfCursors
    → cursors ≡ map (cursor net trace journal) (upto (length net.machines))
    → IsFirstBest nat_lt cursors (length net.machines) m
    → slice_get trace (cursor net trace journal m) ≡ Some (Event e c)
    → settled_at trace (cursor net trace journal m) ≡ b
    → head_of (owed_by_env net trace journal)
    ≡ Some (record { from = Env; to = m; event = e; code = c }, b)
first_at_least net trace journal cursors m e c b law are best at settled =
    let least = least_is (cursor net trace journal) (length net.machines) m cursors are best in
    law net trace journal m e c least.1 least.2 at
    ∙ ap (λ b. let p : Owed × Bool = (record { from = Env; to = m; event = e; code = c }, b) in
    Some p) settled

pub none_left : (net : Network) (trace : List TraceItem) (journal : List Entry) (cursors : List ℕ)
    (m : ℕ) → NoneAtEnds → cursors ≡ map (cursor net trace journal) (upto (length net.machines))
    → IsFirstBest nat_lt cursors (length net.machines) m
    → length trace ≤ cursor net trace journal m
    → owed_by_env net trace journal ≡ []
none_left net trace journal cursors m law are best past =
    let least = least_is (cursor net trace journal) (length net.machines) m cursors are best in
    law net trace journal (λ k below. let far = least.1 k below in omega arith)

pub no_machines_read : (net : Network) (trace : List TraceItem) (journal : List Entry) → NoneAtEnds
    → length net.machines ≡ 0 → owed_by_env net trace journal ≡ []
no_machines_read net trace journal law none =
    law net trace journal (λ k below. absurd (omega arith))
