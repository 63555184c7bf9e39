-- What monitors of a small network say, by computation.
use Rattle.std.proofs.Common.{◌≡◌, ◌⊎◌, ℕ, zero, suc, ◌<◌, true, not, ◌&&◌, List, length, slice_get, Some, refl, sym, ap, ◌∙◌, subst, inl, inr, lit<, arith}
use Rattle.std.specs.List.{list_all}
use Rattle.std.proofs.lemmas.Bool.{and_from, not_from_true, false≢true}
use Rattle.std.proofs.lemmas.Option.{none-some, same_Some}
use Rattle.polis_base.specs.declared.limits.TheConstants.{ENTRIES_MAX}
use Rattle.domains.specs.Names.{is_same}
use Rattle.domains.proofs.Names.{texts_same}
use Rattle.transition_table.proofs.Determinism.{one_outcome, one_row, transition_fits}
use Rattle.transition_table.specs.Transitions.{AreDeterministic, IsDeterministic}
use Rattle.transition_table.specs.declared.decl.EventDecl.{EventDecl}
use Rattle.transition_table.specs.declared.decl.Party.TheVariants.{Env, Machine as Sender}
use Rattle.transition_table.specs.declared.network.Network.{Network}
use Rattle.journals.specs.Legality.{Complete}
use Rattle.journals.specs.Runs.{two_by_number_run, two_by_priority_run}
use Rattle.journals.specs.Samples.{lamp, two}
use Rattle.journals.specs.Schedules.{IsSchedule, pick}
use Rattle.journals.specs.declared.entry.Entry.{Entry}
use Rattle.journals.specs.declared.entry.Pick.TheVariants.{Stop}
use Rattle.journals.specs.declared.entry.TraceItem.{TraceItem}
use Rattle.journals.proofs.Follows.{one_schedule}
use Rattle.journals.proofs.PickedEntries.{IsMade, made_follows, made_legal}
use Rattle.journals.proofs.Runs.{two_by_number}
use Rattle.journals.proofs.StopsWhereComplete.{stops_where_complete}
use Rattle.run_watch.specs.Monitors.{HasOutput, IsHeardAs, IsMonitor, heard, watch_trace}
use Rattle.run_watch.specs.Samples.{late_at, loud, loud_at, loud_machine, loud_told, order, order_kept, order_late, restless, restless_cut}
use Rattle.run_watch.specs.Watches.{IsAnswer, IsAnswerTo}
use Rattle.run_watch.specs.declared.answer.Watched.{Watched}
use Rattle.run_watch.specs.declared.answer.Watched.TheVariants.{Held, Unfinished, Found}
use Rattle.run_watch.proofs.OneAnswer.{one_answer}
use Rattle.polis_base.proofs.ListTests.{all_get}

-- ---- monitors

-- a machine of the monitor sends the event
by_machine : {P : Type 0} (event other : EventDecl) (m : ℕ) → Some event ≡ Some other
    → event.sender ≡ Sender m → other.sender ≡ Env → P
by_machine event other m same sender env =
    let both : Sender m ≡ Env =
    sym sender ∙ ap (λ (e : EventDecl). e.sender) (same_Some event other same) ∙ env in
    absurd cc

-- the network has it as the output of this number
as_output : (net monitor : Network) (k : ℕ) (output event other : EventDecl)
    → slice_get net.events k ≡ Some output → Some event ≡ Some other
    → IsHeardAs net output monitor event → HasOutput net monitor other
as_output net monitor k output event other there same heard =
    subst (HasOutput net monitor) (same_Some event other same)
    (record { number = k; output = output; there = there; heard = heard })

pub order_watches : IsMonitor (two 2 1) order
order_watches zero event is env =
    as_output (two 2 1) order 1 _ _ event refl is
    (record { name = refl; to_env = refl; words = refl })
order_watches (suc zero) event is env =
    as_output (two 2 1) order 2 _ _ event refl is
    (record { name = refl; to_env = refl; words = refl })
order_watches (suc (suc zero)) event is env = by_machine _ event 0 is refl env
order_watches (suc (suc (suc w))) event is env = absurd (none-some event is)

pub order_watches_other : IsMonitor (two 1 1) order
order_watches_other zero event is env =
    as_output (two 1 1) order 1 _ _ event refl is
    (record { name = refl; to_env = refl; words = refl })
order_watches_other (suc zero) event is env =
    as_output (two 1 1) order 2 _ _ event refl is
    (record { name = refl; to_env = refl; words = refl })
order_watches_other (suc (suc zero)) event is env = by_machine _ event 0 is refl env
order_watches_other (suc (suc (suc w))) event is env = absurd (none-some event is)

pub loud_watches : IsMonitor (two 1 1) loud
loud_watches zero event is env =
    as_output (two 1 1) loud 2 _ _ event refl is
    (record { name = refl; to_env = refl; words = refl })
loud_watches (suc zero) event is env = by_machine _ event 0 is refl env
loud_watches (suc (suc w)) event is env = absurd (none-some event is)

pub restless_watches : IsMonitor (two 1 1) restless
restless_watches zero event is env =
    as_output (two 1 1) restless 1 _ _ event refl is
    (record { name = refl; to_env = refl; words = refl })
restless_watches (suc zero) event is env = by_machine _ event 0 is refl env
restless_watches (suc (suc w)) event is env = absurd (none-some event is)

-- no event of the network to the environment has the name
no_output : (net monitor : Network) (event : EventDecl)
    → list_all (λ (output : EventDecl). not (output.to_env && is_same output.name event.name))
    net.events ≡ true
    → HasOutput net monitor event → ⊥
no_output net monitor event none has =
    false≢true
    (sym
    (not_from_true (has.output.to_env && is_same has.output.name event.name)
    (and_from has.output.to_env (is_same has.output.name event.name) has.heard.to_env
    (texts_same has.output.name event.name has.heard.name)))
    ∙ all_get
    (λ (output : EventDecl). not (output.to_env && is_same output.name event.name)) net.events
    has.number has.output none has.there)

pub not_of_itself : IsMonitor (two 2 1) (two 2 1) → ⊥
not_of_itself may = no_output (two 2 1) (two 2 1) _ refl (may 0 _ refl refl)

pub not_the_lamp : IsMonitor (two 2 1) lamp → ⊥
not_the_lamp may = no_output (two 2 1) lamp _ refl (may 0 _ refl refl)

-- ---- answers

-- a journal that the picks make is the scheduler's
scheduled : (net : Network) (trace : List TraceItem) (journal : List Entry) (n : ℕ)
    → IsMade net trace journal
    → (length journal ≡ n) ⊎ ((length journal < n) × (pick net trace journal ≡ Stop))
    → IsSchedule net trace n journal
scheduled net trace journal n made whole = record {
  follows = made_follows {net = net} {trace = trace} {journal = journal} made;
  whole = whole;
}

pub late : IsAnswer (two 2 1) order two_by_priority_run (late_at 3)
late = record {
  watch = order_late;
  scheduled =
      scheduled order (watch_trace (two 2 1) order two_by_priority_run) order_late ENTRIES_MAX
      (record { trace_fits = refl; made = refl }) (inr (lit< tt, refl));
  says = (
    refl,
    record {
      first = record { place = 3; event = 2; code = 1 };
      is = refl;
      told = record { machine = 0; number = 1; last = refl; counted = refl; source = refl };
    },
  );
}

pub kept : IsAnswer (two 1 1) order two_by_number_run Held
kept = record {
  watch = order_kept;
  scheduled =
      scheduled order (watch_trace (two 1 1) order two_by_number_run) order_kept ENTRIES_MAX
      (record { trace_fits = refl; made = refl }) (inr (lit< tt, refl));
  says = (
    refl,
    (stops_where_complete order (watch_trace (two 1 1) order two_by_number_run) order_kept
        (made_legal order (watch_trace (two 1 1) order two_by_number_run) order_kept
        (record { trace_fits = refl; made = refl }))).0 refl,
  );
}

pub told : IsAnswer (two 1 1) loud two_by_number_run (loud_at 3)
told = record {
  watch = loud_told;
  scheduled =
      scheduled loud (watch_trace (two 1 1) loud two_by_number_run) loud_told ENTRIES_MAX
      (record { trace_fits = refl; made = refl }) (inr (lit< tt, refl));
  says = (
    refl,
    record {
      first = record { place = 1; event = 1; code = 1 };
      is = refl;
      told = record { machine = 0; number = 0; last = refl; counted = refl; source = refl };
    },
  );
}

-- the machine has sent itself p three times, and has got it twice
restless_owes : Complete restless (watch_trace (two 1 1) restless two_by_number_run) restless_cut
    → ⊥
restless_owes complete =
    let same = ap length (complete.all_delivered (Sender 0) 0 refl (lit< tt)) in
    let count : ◌≡◌ {A = ℕ} 2 3 = same in
    absurd (omega arith)

pub cut : IsAnswerTo restless (heard (two 1 1) restless two_by_number_run) 6 Unfinished
cut = record {
  watch = restless_cut;
  scheduled =
      scheduled restless (watch_trace (two 1 1) restless two_by_number_run) restless_cut 6
      (record { trace_fits = refl; made = refl }) (inl refl);
  says = (refl, restless_owes);
}

-- ---- what isn't said

loud_is_sure : AreDeterministic loud
loud_is_sure zero m is =
    subst IsDeterministic (same_Some loud_machine m is) (one_row loud_machine (omega arith))
loud_is_sure (suc k) m is = absurd (none-some m is)

loud_says_one : (answer : Watched) → IsAnswer (two 1 1) loud two_by_number_run answer
    → loud_at 3 ≡ answer
loud_says_one answer says =
    one_answer (one_schedule one_outcome transition_fits) (two 1 1) loud two_by_number_run
    (loud_at 3) answer loud_is_sure loud_watches two_by_number.legal.0 told says

pub not_held : IsAnswer (two 1 1) loud two_by_number_run Held → ⊥
not_held says = let same = loud_says_one Held says in cc

pub not_unfinished : IsAnswer (two 1 1) loud two_by_number_run Unfinished → ⊥
not_unfinished says = let same = loud_says_one Unfinished says in cc

place_of : Watched → ℕ
place_of Held = 0
place_of Unfinished = 0
place_of (Found c) = c.place

pub not_before : IsAnswer (two 1 1) loud two_by_number_run (loud_at 2) → ⊥
unfolding place_of
not_before says =
    let same : ◌≡◌ {A = ℕ} 3 2 = ap place_of (loud_says_one (loud_at 2) says) in
    absurd (omega arith)
