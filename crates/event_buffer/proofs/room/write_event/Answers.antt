use Rattle.std.proofs.Common.{◌≡◌, ◌+◌, ◌++◌, ◌∷◌, [], ℕ, List, suc, length, map, take, slice_set, refl, ap, sym, ◌∙◌, arith, append_assoc, add-one}
use Rattle.transition_table.specs.declared.decl.Party.TheVariants.{Machine as Sender}
use Rattle.journals.specs.Schedules.{receivers_of}
use Rattle.event_buffer.specs.declared.arrival.Arrival.{Arrival}
use Rattle.event_buffer.proofs.Lists.{length_of_set, take_set_next}
use Rattle.event_buffer.proofs.WrittenDeliveries.{an_arrival, map_next, receivers_of_event, arrivals_to}
use Rattle.event_buffer.proofs.room.write_event.Goals as goal
use Rattle.polis_base.proofs.Places.{take_whole}

pub loop-k-preserved : goal.loop-k-preserved
loop-k-preserved c =
    let a = c.args in
    let inv = c.loop-k.invariant in
    let old = a.room.now in
    let count = a.count in
    let k = c.loop-k.k in
    let room : List Arrival = c.loop-k.room in
    let list : List ℕ = c.get.result.now.receivers in
    let to : ℕ → Arrival = λ m. an_arrival (Sender a.m) m a.event a.code a.stamp in
    let all =
    ap (λ (l : List ℕ). length l)
    (receivers_of_event a.net.now a.event c.get.result.now c.get.ensures) in
    let x : ℕ = c.get-in-loop-k.result.now in
    let here = take_set_next room (count + k) (to x) (omega arith) in
    let place : count + (k + 1) ≡ suc (count + k) = omega arith in (
      ap (λ (l : List Arrival). length l) c.set.ensures
          ∙ length_of_set room (count + k) (to x)
          ∙ inv.0,
      ap (take (count + (k + 1))) c.set.ensures
          ∙ ap (λ n. take n (slice_set room (count + k) (to x))) place
          ∙ here
          ∙ ap (λ (l : List Arrival). l ++ to x ∷ []) inv.1
          ∙ append_assoc (take count old) (map to (take k list)) (to x ∷ [])
          ∙ ap (λ (l : List Arrival). take count old ++ l)
          (sym (map_next to list k x c.get-in-loop-k.ensures) ∙ rw add-one refl),
    )

pub returns-clause-written : goal.returns-clause-written
returns-clause-written c =
    let a = c.args in
    let inv = c.loop-k.invariant in
    let list : List ℕ = c.get.result.now.receivers in
    let to : ℕ → Arrival = λ m. an_arrival (Sender a.m) m a.event a.code a.stamp in
    let is = receivers_of_event a.net.now a.event c.get.result.now c.get.ensures in
    let end : c.loop-k.k ≡ c.len.result = omega arith in
    let whole = take_whole list c.loop-k.k (omega arith) in
    ap (λ n. take (a.count + n) c.loop-k.room) (sym end)
    ∙ inv.1
    ∙ ap (λ (l : List ℕ). take a.count a.room.now ++ map to l) (whole ∙ sym is)
    ∙ ap (λ (l : List Arrival). take a.count a.room.now ++ l)
    (arrivals_to (Sender a.m) a.event a.code a.stamp (receivers_of a.net.now a.event))
