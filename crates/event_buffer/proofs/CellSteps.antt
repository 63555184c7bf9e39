-- The calls of a cell are the core's steps.
use Rattle.std.specs.Prelude.{◌≡◌, ℕ, Bool, true, nat_lt, max, List, [], ◌∷◌, ◌++◌, map, set, Option, Some, None}
use Rattle.std.specs.Bool.{then_some}
use Rattle.std.proofs.Common.{refl, sym, ap, ◌∙◌}
use Rattle.std.proofs.lemmas.Bool.{and_from, lt-ltb}
use Rattle.transition_table.specs.declared.network.Network.{Network}
use Rattle.journals.specs.declared.entry.Owed.{Owed}
use Rattle.journals.specs.declared.stamped.Stamped.{Stamped}
use Rattle.journals.specs.Journals.{is_woken}
use Rattle.journals.specs.Logs.{clock, entries, max_stamp}
use Rattle.journals.specs.Schedules.{firing_deliveries}
use Rattle.worker_core.specs.declared.state.Hand.{Hand}
use Rattle.worker_core.specs.Cores.{CoreState, log_of, hand_of, hand_after, may_react, may_land, reacting, landing, taken_up, land, free, fed}
use Rattle.event_buffer.specs.Arrivals.{arrival_of, owed_of}
use Rattle.event_buffer.specs.Steps.{FreezingIsReact, GivenIsInHand, LandingIsLand, FreeingIsFree, FeedingIsFeed}
use Rattle.event_buffer.proofs.FreezingKeepsCell.{ready_parts}

taken : {X : Type 0} (b : Bool) (x : X) → b ≡ true → then_some b x ≡ Some x
taken true x h = refl
taken b x h = ap (λ (b : Bool). then_some b x) h

abbrev with_reaction : Network → CoreState → ℕ → List Stamped → CoreState
with_reaction net state m log = record state {
  logs = set state.logs m (log ++ reacting net m log ∷ []);
  hands = set state.hands m (hand_after net (reacting net m log));
}

pub freezing_is_react : FreezingIsReact
freezing_is_react state c has none ready room =
    let parts = ready_parts c.busy c.frozen (is_woken (entries c.log) c.machine) ready in
    let may : may_react c.machine c.log None ≡ true =
    and_from (is_woken (entries c.log) c.machine) (nat_lt (clock c.log) max_stamp) parts.2
    (lt-ltb (clock c.log) max_stamp room) in
    ap
    (λ (log : List Stamped).
    then_some (may_react c.machine log (hand_of state c.machine))
    (with_reaction c.net state c.machine log)) has
    ∙ ap
    (λ (hand : Option Hand).
    then_some (may_react c.machine c.log hand) (with_reaction c.net state c.machine c.log)) none
    ∙ taken (may_react c.machine c.log None) (with_reaction c.net state c.machine c.log) may

without_stamps : (stamp : ℕ) (ds : List Owed) → map owed_of (map (arrival_of stamp) ds) ≡ ds
without_stamps stamp [] = refl
without_stamps stamp (d ∷ ds) = ap (λ l. d ∷ l) (without_stamps stamp ds)

pub given_is_in_hand : GivenIsInHand
given_is_in_hand net x arrivals is =
    ap (taken_up x.stamp)
    (sym (ap (map owed_of) is ∙ without_stamps x.stamp (firing_deliveries net x.entry)))

abbrev with_landing : CoreState → ℕ → Hand → ℕ → ℕ → Owed → List Stamped → Option CoreState
with_landing state s left to stamp d log =
    then_some (may_land log stamp)
    (record state {
      logs = set state.logs to (log ++ landing log stamp d ∷ []);
      hands = set state.hands s (Some left);
    })

pub landing_is_land : LandingIsLand
landing_is_land net state c s a rest has to held room =
    let left : Hand = record { stamp = a.stamp; deliveries = rest } in
    ap (land state s) held
    ∙ ap (λ (m : ℕ). with_landing state s left m a.stamp (owed_of a) (log_of state m)) to
    ∙ ap (with_landing state s left c.machine a.stamp (owed_of a)) has
    ∙ taken (may_land c.log a.stamp)
    (record state {
      logs = set state.logs c.machine (c.log ++ landing c.log a.stamp (owed_of a) ∷ []);
      hands = set state.hands s (Some left);
    })
    (lt-ltb (max (clock c.log) a.stamp) max_stamp room)

pub freeing_is_free : FreeingIsFree
freeing_is_free net state c stamp held = ap (free state c.machine) held

abbrev with_feeding : CoreState → List Owed → ℕ → Owed → List Stamped → Option CoreState
with_feeding state rest to d log =
    then_some (may_land log 0)
    (record state { logs = set state.logs to (log ++ landing log 0 d ∷ []); rest = rest })

pub feeding_is_feed : FeedingIsFeed
feeding_is_feed net state c d rest has to held room =
    ap (fed state) held
    ∙ ap (λ (m : ℕ). with_feeding state rest m d (log_of state m)) to
    ∙ ap (with_feeding state rest c.machine d) has
    ∙ taken (may_land c.log 0)
    (record state {
      logs = set state.logs c.machine (c.log ++ landing c.log 0 d ∷ []);
      rest = rest;
    })
    (lt-ltb (max (clock c.log) 0) max_stamp room)
