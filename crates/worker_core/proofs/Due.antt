-- What a firing gives, and what the trace gives, is due of its sender.
use Rattle.std.specs.Prelude.{◌≡◌, ℕ, Bool, true, false, ◌&&◌, List, [], ◌∷◌, map, flat_map}
use Rattle.std.specs.List.{list_all}
use Rattle.std.proofs.Common.{refl, ap, ◌∙◌}
use Rattle.std.proofs.lemmas.List.{map-append}
use Rattle.std.proofs.lemmas.List.Folds.{list_all-append}
use Rattle.std.proofs.lemmas.Bool.{and_parts, and_from}
use Rattle.transition_table.specs.declared.decl.Party.{Party}
use Rattle.transition_table.specs.declared.decl.Party.TheVariants.{Env, Machine as Sender}
use Rattle.transition_table.specs.declared.network.Network.{Network}
use Rattle.transition_table.specs.declared.snapshot.Snapshot.{Snapshot}
use Rattle.transition_table.specs.declared.snapshot.Outcome.{Outcome}
use Rattle.journals.specs.declared.entry.Entry.TheVariants.{Rea}
use Rattle.journals.specs.declared.entry.Owed.{Owed}
use Rattle.journals.specs.declared.entry.TraceItem.{TraceItem}
use Rattle.journals.specs.declared.entry.TraceItem.TheVariants.{Event, Settle}
use Rattle.journals.specs.Journals.{FitsNetwork, IsTrace, same_party, emissions}
use Rattle.journals.specs.Laws.{may_arrive}
use Rattle.journals.specs.Schedules.{receivers_of, deliveries_of, firing_deliveries, trace_deliveries}
use Rattle.worker_core.specs.Facts.{is_due}
use Rattle.worker_core.specs.inner.Known.{Known}
use Rattle.journals.proofs.DeliveredBeginsSent.{same_party_self}

abbrev is_from : Party → Owed → Bool
is_from s d = same_party d.from s

both_pass : {X : Type 0} (p q : X → Bool) (xs : List X) → list_all p xs ≡ true
    → list_all q xs ≡ true → list_all (λ x. p x && q x) xs ≡ true
both_pass p q [] h g = refl
both_pass p q (x ∷ xs) h g =
    let left = and_parts (p x) (list_all p xs) h in
    let right = and_parts (q x) (list_all q xs) g in
    and_from (p x && q x) (list_all (λ x. p x && q x) xs) (and_from (p x) (q x) left.0 right.0)
    (both_pass p q xs left.1 right.1)

each_from : (s : Party) (e c : ℕ) (receivers : List ℕ)
    → list_all (is_from s) (map (λ m. record { from = s; to = m; event = e; code = c }) receivers)
    ≡ true
each_from s e c [] = refl
each_from s e c (m ∷ receivers) =
    and_from (same_party s s)
    (list_all (is_from s)
    (map (λ m. record { from = s; to = m; event = e; code = c }) receivers)) (same_party_self s)
    (each_from s e c receivers)

all_from : (net : Network) (s : Party) (ps : List (ℕ × ℕ))
    → list_all (is_from s) (flat_map (deliveries_of net s) ps) ≡ true
all_from net s [] = refl
all_from net s ((e, c) ∷ ps) =
    list_all-append (is_from s) (deliveries_of net s (e, c)) (flat_map (deliveries_of net s) ps)
    ∙ and_from (list_all (is_from s) (deliveries_of net s (e, c)))
    (list_all (is_from s) (flat_map (deliveries_of net s) ps))
    (each_from s e c (receivers_of net e)) (all_from net s ps)

trace_from : (net : Network) (settled : Bool) (trace : List TraceItem)
    → list_all (is_from Env) (map (λ (d : Owed × Bool). d.0) (trace_deliveries net settled trace))
    ≡ true
trace_from net settled [] = refl
trace_from net settled (Settle ∷ items) = trace_from net true items
trace_from net settled (Event e c ∷ items) =
    let first : List (Owed × Bool) =
    map (λ (d : Owed). (d, settled)) (deliveries_of net Env (e, c)) in
    ap (list_all (is_from Env))
    (map-append (λ (d : Owed × Bool). d.0) first (trace_deliveries net false items))
    ∙ list_all-append (is_from Env) (map (λ (d : Owed × Bool). d.0) first)
    (map (λ (d : Owed × Bool). d.0) (trace_deliveries net false items))
    ∙ and_from (list_all (is_from Env) (map (λ (d : Owed × Bool). d.0) first))
    (list_all (is_from Env) (map (λ (d : Owed × Bool). d.0) (trace_deliveries net false items)))
    (ap (list_all (is_from Env)) (unpaired (deliveries_of net Env (e, c)))
    ∙ each_from Env e c (receivers_of net e))
    (trace_from net false items)
  where
    unpaired : (ds : List Owed)
        → map (λ (d : Owed × Bool). d.0) (map (λ (d : Owed). (d, settled)) ds) ≡ ds
    unpaired [] = refl
    unpaired (d ∷ ds) = ap (λ l. d ∷ l) (unpaired ds)

pub firing_due : (net : Network) (m : ℕ) (x : Snapshot) (o : Outcome) → Known
    → FitsNetwork net (Rea m x o)
    → list_all (is_due net (Sender m)) (firing_deliveries net (Rea m x o)) ≡ true
firing_due net m x o known h =
    both_pass (is_from (Sender m)) (may_arrive net) (firing_deliveries net (Rea m x o))
    (all_from net (Sender m) (emissions net (Rea m x o)))
    (known.given_may_arrive net (Rea m x o) h)

pub trace_due : (net : Network) (settled : Bool) (trace : List TraceItem) → Known
    → IsTrace net trace
    → list_all (is_due net Env)
    (map (λ (d : Owed × Bool). d.0) (trace_deliveries net settled trace)) ≡ true
trace_due net settled trace known h =
    both_pass (is_from Env) (may_arrive net)
    (map (λ (d : Owed × Bool). d.0) (trace_deliveries net settled trace))
    (trace_from net settled trace) (known.trace_may_arrive net settled trace h)
