-- What the trace gives, item by item.
use Rattle.std.specs.Prelude.{◌≡◌, ℕ, ◌+◌, ◌<◌, Bool, true, false, List, [], ◌∷◌, ◌++◌, map, flat_map, length, take, get_or, replicate, Option, None, unwrap_or}
use Rattle.std.proofs.Common.{refl, sym, ap, ◌∙◌, subst}
use Rattle.std.proofs.lemmas.List.{map-append, take_more}
use Rattle.polis_base.specs.Lists.{upto}
use Rattle.transition_table.specs.declared.decl.Party.TheVariants.{Env}
use Rattle.transition_table.specs.declared.network.Network.{Network}
use Rattle.journals.specs.declared.entry.Owed.{Owed}
use Rattle.journals.specs.declared.entry.TraceItem.{TraceItem}
use Rattle.journals.specs.declared.entry.TraceItem.TheVariants.{Event, Settle}
use Rattle.journals.specs.Journals.{IsTrace, snap}
use Rattle.journals.specs.declared.stamped.Stamped.{Stamped}
use Rattle.worker_core.specs.declared.state.Hand.{Hand}
use Rattle.journals.specs.declared.stamped.CoreStep.{CoreStep}
use Rattle.worker_core.specs.declared.parts.Parts.{Parts}
use Rattle.worker_core.specs.CoreLaws.{StartIsCore}
use Rattle.worker_core.specs.Facts.{IsCore}
use Rattle.worker_core.specs.Running.{CoreMoment}
use Rattle.journals.specs.Moved.{moments_of}
use Rattle.journals.specs.Schedules.{deliveries_of, trace_deliveries}
use Rattle.worker_core.specs.Cores.{CoreState, at_start, take_step, run_steps}
use Rattle.journals.specs.Logs.{entries}
use Rattle.journals.specs.Schedules.{item_deliveries}
use Rattle.worker_core.specs.Parts.{state_of, own_moments, AreParts}
use Rattle.worker_core.proofs.IsCore.{same_everywhere}

pub items_give : (net : Network) (b : Bool) (trace : List TraceItem)
    → flat_map (item_deliveries net) trace
    ≡ map (λ (d : Owed × Bool). d.0) (trace_deliveries net b trace)
items_give net b [] = refl
items_give net b (Settle ∷ items) = items_give net true items
items_give net b (Event e c ∷ items) =
    sym (map-append (λ (d : Owed × Bool). d.0)
    (map (λ (d : Owed). (d, b)) (deliveries_of net Env (e, c)))
    (trace_deliveries net false items)
    ∙ ap (λ l. l ++ map (λ (d : Owed × Bool). d.0) (trace_deliveries net false items))
    (unpaired (deliveries_of net Env (e, c)))
    ∙ ap (λ l. deliveries_of net Env (e, c) ++ l) (sym (items_give net false items)))
  where
    unpaired : (ds : List Owed)
        → map (λ (d : Owed × Bool). d.0) (map (λ (d : Owed). (d, b)) ds) ≡ ds
    unpaired [] = refl
    unpaired (d ∷ ds) = ap (λ l. d ∷ l) (unpaired ds)

-- after no entries
pub first_own : (net : Network) (n : ℕ) → moments_of net [] ≡ own_moments net (replicate n [])
first_own net n =
    λ i. map (λ m. snap net (entries (sym (same_everywhere n m []) i)) m)
    (upto (length net.machines))

pub start_state : (net : Network) (trace : List TraceItem) (n : ℕ) (logs : List (List Stamped))
    (hands : List (Option Hand)) (rest : List Owed)
    → n ≡ length net.machines
    → logs ≡ replicate n []
    → hands ≡ replicate n None
    → rest ≡ map (λ d. d.0) (trace_deliveries net false trace)
    → ◌≡◌ {A = CoreState} (record { logs = logs; hands = hands; rest = rest }) (at_start net trace)
start_state net trace n logs hands rest size one two three =
    let first : logs ≡ replicate (length net.machines) [] = one ∙ ap (λ k. replicate k []) size in
    let second : hands ≡ replicate (length net.machines) None =
    two ∙ ap (λ k. replicate k None) size in
    λ i. record { logs = first i; hands = second i; rest = three i }

pub first_parts_are : (net : Network) (trace : List TraceItem) (p : Parts) → StartIsCore
    → IsTrace net trace → state_of p ≡ at_start net trace → p.moments ≡ moments_of net []
    → AreParts net trace p
first_parts_are net trace p start fits is are = record {
  core = subst (IsCore net trace) (sym is) (start net trace fits);
  moments_are =
      are ∙ first_own net (length net.machines)
      ∙ sym (ap (λ (s : CoreState). own_moments net s.logs) is);
}

pub run_steps_push : (net : Network) (state : CoreState) (steps : List CoreStep) (step : CoreStep)
    → run_steps net state (steps ++ step ∷ [])
    ≡ unwrap_or (take_step net (run_steps net state steps) step) (run_steps net state steps)
run_steps_push net state [] step = refl
run_steps_push net state (x ∷ steps) step =
    run_steps_push net (unwrap_or (take_step net state x) state) steps step

pub run_more : (net : Network) (trace : List TraceItem) (start : CoreState) (steps : List CoreStep)
    (i : ℕ) (d : CoreStep) (old new : CoreMoment) → i < length steps
    → old ≡ record { net = net; trace = trace; state = run_steps net start (take i steps) }
    → new ≡ record old
    { state = unwrap_or (take_step old.net old.state (get_or steps i d)) old.state }
    → new ≡ record { net = net; trace = trace; state = run_steps net start (take (i + 1) steps) }
run_more net trace start steps i d old new below was is =
    is
    ∙ ap (λ (v : CoreMoment). record v
    { state = unwrap_or (take_step v.net v.state (get_or steps i d)) v.state }) was
    ∙ sym (λ k. record {
      net = net;
      trace = trace;
      state = (ap (run_steps net start) (take_more steps i d below)
          ∙ run_steps_push net start (take i steps) (get_or steps i d)) k;
    })
