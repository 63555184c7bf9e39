-- Entries that may not follow, each for its cause.
use Rattle.std.specs.Prelude.{◌≡◌, ℕ, zero, suc, false, List, [], ◌∷◌, get_or, slice_index, Some, None}
use Rattle.std.proofs.Common.{refl, sym, ap, arith, inl, inr}
use Rattle.std.proofs.lemmas.Bool.{false≢true}
use Rattle.transition_table.specs.Transitions.{Transition, is_enabled, reading}
use Rattle.transition_table.specs.samples.Lamp.{lamp_machine}
use Rattle.transition_table.specs.samples.Pong.{pong}
use Rattle.transition_table.specs.Worked.{firing}
use Rattle.transition_table.specs.declared.decl.Party.TheVariants.{Env, Machine as Sender}
use Rattle.transition_table.specs.declared.snapshot.Outcome.{Outcome}
use Rattle.transition_table.specs.declared.snapshot.Snapshot.{Snapshot}
use Rattle.journals.specs.Legality.{Legal}
use Rattle.journals.specs.Samples.{lamp, press, lamp_run, value}
use Rattle.journals.specs.Runs.{lamp_pressed, pong_trace, pong_started, value_overwritten_trace, idling}
use Rattle.journals.specs.Worked.{IsNotNext, IsAsleep, HasOtherSnapshot, HasOtherOutcome}
use Rattle.journals.proofs.PickedEntries.{made_legal}
use Rattle.journals.proofs.Runs.{lamp_once, right}
use Rattle.transition_table.proofs.Tables.{lamp_unpressed_none}

-- ---- deliveries

pub doubled : IsNotNext lamp press lamp_run Env 0 0 1 None
doubled = record {
  refused = record {
    legal = lamp_once.legal;
    fits = refl;
    refused = λ h. let e = h.1 in cc;
  };
  next_is = refl;
}

pub event_of_another : IsNotNext pong pong_trace pong_started (Sender 1) 1 1 1 None
event_of_another = record {
  refused = record {
    legal = made_legal pong pong_trace pong_started (record { trace_fits = refl; made = refl });
    fits = refl;
    refused = λ h. let e = h.1 in cc;
  };
  next_is = refl;
}

pub other_value : IsNotNext value value_overwritten_trace [] Env 0 0 6 (Some (0, 4))
other_value = record {
  refused = record {
    legal = (tt, tt);
    fits = refl;
    refused = λ h. let code = ap (λ (ps : List (ℕ × ℕ)). (get_or ps 0 (0, 0)).1) h.1 in omega arith;
  };
  next_is = refl;
}

-- ---- reactions

none_lit : (r : ℕ) → is_enabled lamp_machine r (reading (0 ∷ 1 ∷ [])) ≡ false
none_lit zero = refl
none_lit (suc r) = refl

-- the one row is enabled on a press in the dark
one_row : (o : Outcome) → Transition lamp_machine (reading (1 ∷ 0 ∷ [])) o
    → o ≡ firing (2 ∷ []) (1 ∷ [])
one_row o (inl (zero, enabled, is)) = is
one_row o (inl (suc r, enabled, is)) = absurd (false≢true enabled)
one_row o (inr (none, is)) = absurd (false≢true (sym (none 0)))

pub before_delivery : IsAsleep lamp press [] 0 (reading (0 ∷ 0 ∷ [])) (idling (0 ∷ []) (0 ∷ []))
before_delivery = record {
  refused = record {
    legal = (tt, tt);
    fits = (refl, right refl refl refl (λ h. refl));
    refused = λ h. false≢true h.0;
  };
  asleep = refl;
  snapshot_is = refl;
  outcome_is = inr (lamp_unpressed_none, refl);
}

pub second_reaction : IsAsleep lamp press lamp_run 0 (reading (0 ∷ 1 ∷ []))
    (idling (0 ∷ []) (0 ∷ []))
second_reaction = record {
  refused = record {
    legal = lamp_once.legal;
    fits = (refl, right refl refl refl (λ h. refl));
    refused = λ h. false≢true h.0;
  };
  asleep = refl;
  snapshot_is = refl;
  outcome_is = inr (none_lit, refl);
}

pressed_is_legal : Legal lamp press lamp_pressed
pressed_is_legal = ((refl, tt), (([], refl), tt))

pub stale_snapshot : HasOtherSnapshot lamp press lamp_pressed 0 (reading (0 ∷ 0 ∷ []))
    (idling (0 ∷ []) (0 ∷ [])) (reading (1 ∷ 0 ∷ []))
stale_snapshot = record {
  refused = record {
    legal = pressed_is_legal;
    fits = (refl, right refl refl refl (λ h. refl));
    refused = λ h. let codes = ap (λ (s : Snapshot). slice_index s.codes 0) h.1 in omega arith;
  };
  woken = refl;
  snapshot_is = refl;
  outcome_is = inr (lamp_unpressed_none, refl);
}

pub idle_outcome : HasOtherOutcome lamp press lamp_pressed 0 (reading (1 ∷ 0 ∷ []))
    (idling (0 ∷ []) (0 ∷ [])) (firing (2 ∷ []) (1 ∷ []))
idle_outcome = record {
  refused = record {
    legal = pressed_is_legal;
    fits = (refl, right refl refl refl (λ h. refl));
    refused = λ h.
        false≢true (ap (λ (o : Outcome). o.fires) (one_row (idling (0 ∷ []) (0 ∷ [])) h.2));
  };
  woken = refl;
  snapshot_is = refl;
  outcome_is = inl (0, refl, refl);
}

pub dropped_emission : HasOtherOutcome lamp press lamp_pressed 0 (reading (1 ∷ 0 ∷ []))
    (firing (2 ∷ []) (0 ∷ [])) (firing (2 ∷ []) (1 ∷ []))
dropped_emission = record {
  refused = record {
    legal = pressed_is_legal;
    fits = (refl, right refl refl refl (λ h. cc));
    refused = λ h. let code =
        ap (λ (o : Outcome). slice_index o.outs 0)
        (one_row (firing (2 ∷ []) (0 ∷ [])) h.2) in omega arith;
  };
  woken = refl;
  snapshot_is = refl;
  outcome_is = inl (0, refl, refl);
}
