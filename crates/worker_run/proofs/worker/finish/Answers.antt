use Rattle.std.proofs.Common.{◌≡◌, ℕ, List, true, length, ap, sym, subst, ◌∙◌}
use Rattle.std.proofs.lemmas.List.{length-map}
use Rattle.event_buffer.specs.declared.arrival.Arrival.{Arrival}
use Rattle.event_buffer.specs.Arrivals.{are_arrivals, arrival_of}
use Rattle.event_buffer.specs.Reacting.{FrozenState}
use Rattle.transition_table.specs.declared.snapshot.Outcome.{Outcome}
use Rattle.worker_run.specs.declared.locked.Settled.{Settled}
use Rattle.worker_run.specs.inner.Tries.{Hands, arrivals_of, frozen_deliveries, given_by}
use Rattle.worker_run.specs.inner.Turns.{CountsTurn}
use Rattle.worker_run.proofs.worker.finish.Goals as goal

pub run-requires : goal.run-requires
run-requires g c = c.requires.network ∙ sym c.requires.frozen

pub settle_under_lock-requires-clause-network : goal.settle_under_lock-requires-clause-network
settle_under_lock-requires-clause-network g c =
    ap (λ (s : FrozenState). s.net) c.run.ensures.same ∙ c.requires.frozen

pub settle_under_lock-requires-clause-ran : goal.settle_under_lock-requires-clause-ran
settle_under_lock-requires-clause-ran g c = c.run.ensures.ran

pub deliver-requires : goal.deliver-requires
deliver-requires g c =
    subst (λ (s : Settled). are_arrivals g.N.Naming.net (given_by s) ≡ true) c.in-Sending.is
    c.settle_under_lock.ensures.arrivals

-- running a reaction changes nothing of how many deliveries it gives
size : (f ran : FrozenState) (outcome : Outcome) → ran ≡ record f { outcome = outcome }
    → length (arrivals_of ran) ≡ length (frozen_deliveries f)
size f ran outcome same =
    ap (λ (s : FrozenState). length (arrivals_of s)) same
    ∙ length-map (frozen_deliveries f) (arrival_of f.stamp)

pub returns-in-Sending : goal.returns-in-Sending
returns-in-Sending g c =
    let ran = c.run.new.self in
    let hands = subst (λ (s : Settled). Hands ran s) c.in-Sending.is
    c.settle_under_lock.ensures.hands in
    subst
    (λ (n : ℕ).
    CountsTurn c.args.worker.now.budget c.deliver.new.worker.budget n c.deliver.result)
    (ap (λ (l : List Arrival). length l) hands ∙ size c.args.f ran ran.outcome c.run.ensures.same)
    c.deliver.ensures
