-- The cursors into the trace, one entry more, and what machines owe then.
use Rattle.std.specs.Prelude.{◌≡◌, ◌↔◌, ℕ, suc, ◌<◌, ◌&&◌, nat_lt, List, [], ◌∷◌, ◌++◌, map, length, slice_get, slice_index, Option, Some, None, option_and_then, IsSomeAnd, zero}
use Rattle.std.proofs.Common.{refl, sym, ap, ◌∙◌, arith, add-one}
use Rattle.std.proofs.lemmas.List.{append-nil, length_push}
use Rattle.std.proofs.lemmas.Bool.{ltb-true, lt-ltb, ne_eqb, and_parts}
use Rattle.std.proofs.lemmas.Option.{slice_get_within, some_pair_parts}
use Rattle.polis_base.specs.Lists.{upto}
use Rattle.transition_table.specs.Transitions.{IsSnapshot, IsOutcome}
use Rattle.transition_table.specs.declared.decl.Party.TheVariants.{Env, Machine as Sender}
use Rattle.transition_table.specs.declared.machine.Machine.{Machine}
use Rattle.transition_table.specs.declared.network.Network.{Network}
use Rattle.journals.specs.declared.entry.Entry.{Entry}
use Rattle.journals.specs.declared.entry.Entry.TheVariants.{Dep, Rea}
use Rattle.journals.specs.declared.entry.TraceItem.{TraceItem}
use Rattle.journals.specs.declared.entry.TraceItem.TheVariants.{Event, Settle}
use Rattle.journals.specs.Cursors.{is_read, nth_place, cursor, next_place, cursors_after}
use Rattle.journals.specs.Journals.{FitsNetwork, is_party, is_event_code, event_of, delivered, sent}
use Rattle.journals.specs.Laws.{MovesOwed}
use Rattle.journals.specs.Legality.{Legal, MayFollow}
use Rattle.journals.specs.Moved.{machine_of}
use Rattle.journals.specs.Schedules.{is_way, without_first, owed_by_machines}
use Rattle.journals.proofs.Cursors.{env_at, nth_place_next}
use Rattle.journals.proofs.MomentsAfter.{get_or_table, set_table}
use Rattle.journals.proofs.OwedAfter.{reaction_owes, delivery_owes}
use Rattle.journals.proofs.DeliveredBeginsSent.{delivered_own, delivered_other, delivered_by_reaction, delivered_begins_sent, may_follow_next}

pub machine_within : (net : Network) (entry : Entry) → FitsNetwork net entry
    → machine_of entry < length net.machines
machine_within net (Dep from to e c) h =
    ltb-true to (length net.machines)
    (and_parts (is_party net from) (nat_lt to (length net.machines))
    (and_parts (is_party net from && nat_lt to (length net.machines))
    (is_event_code net e c) h).0).1
machine_within net (Rea m s o) h =
    there (λ machine. IsSnapshot machine s × IsOutcome machine o) net.machines m h
  where
    there : (P : Machine → Type 0) (machines : List Machine) (k : ℕ)
        → IsSomeAnd (slice_get machines k) P → k < length machines
    there P [] k g = absurd g
    there P (machine ∷ machines) zero g = omega arith
    there P (machine ∷ machines) (suc k) g = let below = there P machines k g in omega arith

-- ---- the cursors

-- the item at a cursor below the trace's length
pub at_cursor : (net : Network) (trace : List TraceItem) (journal : List Entry) (m e c : ℕ)
    → slice_get (sent net trace Env m journal) (length (delivered Env m journal)) ≡ Some (e, c)
    ↔ slice_get trace (cursor net trace journal m) ≡ Some (Event e c)
at_cursor net trace journal m e c =
    let there = env_at net m trace (length (delivered Env m journal)) in (
      (λ h. is (slice_get trace (cursor net trace journal m)) (sym there ∙ h)),
      (λ h. there ∙ ap (option_and_then event_of) h),
    )
  where
    is : (o : Option TraceItem) → option_and_then event_of o ≡ Some (e, c) → o ≡ Some (Event e c)
    is None h = cc
    is (Some Settle) h = cc
    is (Some (Event x y)) h = let p : (x ≡ e) × (y ≡ c) =
        some_pair_parts x e y c h in rw (p.0, p.1) refl

pub env_may_follow : (net : Network) (trace : List TraceItem) (journal : List Entry) (m e c : ℕ)
    → Legal net trace journal → MayFollow net trace journal (Dep Env m e c)
    ↔ (slice_get trace (cursor net trace journal m) ≡ Some (Event e c))
env_may_follow net trace journal m e c legal =
    let next =
    may_follow_next net trace journal Env m e c
    (delivered_begins_sent net trace Env m journal legal) in
    let at = at_cursor net trace journal m e c in
    ((λ h. at.0 (next.0 h)), (λ h. next.1 (at.1 h)))

cursor_own : (net : Network) (trace : List TraceItem) (journal : List Entry) (m e c : ℕ)
    → Legal net trace journal → MayFollow net trace journal (Dep Env m e c)
    → next_place net trace m (cursor net trace journal m)
    ≡ cursor net trace (journal ++ Dep Env m e c ∷ []) m
cursor_own net trace journal m e c legal follows =
    let k = length (delivered Env m journal) in
    let place = cursor net trace journal m in
    let below : place < length trace =
    slice_get_within trace place (Event e c)
    ((env_may_follow net trace journal m e c legal).0 follows) in
    let longer : length (delivered Env m (journal ++ Dep Env m e c ∷ [])) ≡ suc k =
    ap length (delivered_own Env m e c journal) ∙ length_push (delivered Env m journal) (e, c)
    ∙ add-one k in
    rw (lt-ltb place (length trace) below, add-one place)
    (sym
    (ap (nth_place (is_read net m) trace) longer ∙ nth_place_next (is_read net m) trace k below))

pub cursors_are_after : (net : Network) (trace : List TraceItem) (journal : List Entry)
    (entry : Entry) → FitsNetwork net entry → Legal net trace journal
    → MayFollow net trace journal entry
    → cursors_after net trace entry (map (cursor net trace journal) (upto (length net.machines)))
    ≡ map (cursor net trace (journal ++ entry ∷ [])) (upto (length net.machines))
cursors_are_after net trace journal (Dep Env m e c) fits legal follows =
    let n = length net.machines in
    let below : m < n = machine_within net (Dep Env m e c) fits in
    let old = cursor net trace journal in
    let at : slice_index (map old (upto n)) m ≡ old m = get_or_table old n m 0 below in
    set_table old (cursor net trace (journal ++ Dep Env m e c ∷ [])) n m
    (next_place net trace m (slice_index (map old (upto n)) m)) below
    (sym (cursor_own net trace journal m e c legal follows) ∙ ap (next_place net trace m) (sym at))
    (λ k other inside.
    ap (λ (l : List (ℕ × ℕ)). nth_place (is_read net k) trace (length l))
    (delivered_other Env Env k m e c journal (ne_eqb m k (λ h. other (sym h)))))
cursors_are_after net trace journal (Dep (Sender s) m e c) fits legal follows =
    λ i.
    map
    (λ k.
    nth_place (is_read net k) trace
    (length (sym (delivered_other Env (Sender s) k m e c journal refl) i)))
    (upto (length net.machines))
cursors_are_after net trace journal (Rea m s o) fits legal follows =
    λ i.
    map
    (λ k.
    nth_place (is_read net k) trace (length (sym (delivered_by_reaction Env k m s o journal) i)))
    (upto (length net.machines))

-- ---- what machines owe

pub moves_owed : MovesOwed
moves_owed net trace journal (Dep s m e c) legal = delivery_owes net journal s m e c
    ∙ ap (without_first (is_way s m)) (sym (append-nil (owed_by_machines net journal)))
moves_owed net trace journal (Rea m s o) legal = reaction_owes net trace journal m s o legal
