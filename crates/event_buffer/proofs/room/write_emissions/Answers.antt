use Rattle.std.proofs.Common.{◌≡◌, ◌<◌, ◌≤◌, ◌+◌, ◌++◌, ℕ, List, length, map, flat_map, take, drop, slice_get, get_or, ap, sym, ◌∙◌, arith}
use Rattle.std.proofs.lemmas.List.{map-append}
use Rattle.std.proofs.lemmas.Option.{slice_get-get_or}
use Rattle.transition_table.specs.declared.decl.Party.{Party}
use Rattle.transition_table.specs.declared.decl.Party.TheVariants.{Machine as Sender}
use Rattle.journals.specs.declared.entry.Owed.{Owed}
use Rattle.journals.specs.Journals.{outputs_of}
use Rattle.journals.specs.Schedules.{deliveries_of}
use Rattle.event_buffer.specs.declared.arrival.Arrival.{Arrival}
use Rattle.event_buffer.specs.Arrivals.{arrival_of}
use Rattle.event_buffer.proofs.WrittenDeliveries.{given_by, few_deliveries, room_for, written_on}
use Rattle.event_buffer.proofs.room.write_emissions.Goals.{then-code-gt0, else-code-gt0}
use Rattle.journals.proofs.Emitted.{output_is_event, emitted_one, emitted_none, outputs_of_machine}
use Rattle.event_buffer.proofs.room.write_emissions.Goals as goal

pub write_event-count-requires-clause-event : goal.write_event-count-requires-clause-event
write_event-count-requires-clause-event c =
    output_is_event c.args.net.now c.args.m c.get-machine.result.now c.loop-k.k c.get.result.now
    c.get-machine.ensures c.get.ensures

pub write_event-count-requires-clause-room : goal.write_event-count-requires-clause-room
write_event-count-requires-clause-room c =
    let net = c.args.net.now in
    let s : Party = Sender c.args.m in
    let k = c.loop-k.k in
    let e = c.get.result.now in
    let code = c.get-code.result.now in
    let events : List ℕ = outputs_of net c.args.m in
    let codes : List ℕ = c.args.outs.now in
    let inv = c.loop-k.invariant in
    let machine = c.get-machine in
    let same = outputs_of_machine net c.args.m machine.result.now machine.ensures in
    let event = ap (λ (l : List ℕ). slice_get l k) same ∙ c.get.ensures in
    let one =
    ap (flat_map (deliveries_of net s))
    (emitted_one events codes k e code event c.get-code.ensures c.if-code-gt0.true) in
    let few = few_deliveries net s events codes in
    let room = c.requires.room in
    let size = inv.1 in
    room_for net s c.args.stamp c.loop-k.room c.loop-k.count e code
    (given_by net s (drop k events) (drop k codes))
    (given_by net s (drop (k + 1) events) (drop (k + 1) codes))
    (given_by net s events codes) inv.0 (omega arith) one inv.2

pub loop-k-preserved : goal.loop-k-preserved
loop-k-preserved c =
    let net = c.args.net.now in
    let s : Party = Sender c.args.m in
    let k = c.loop-k.k in
    let stamp = c.args.stamp in
    let code = c.get-code.result.now in
    let events : List ℕ = outputs_of net c.args.m in
    let codes : List ℕ = c.args.outs.now in
    let count = c.loop-k.count in
    let room : List Arrival = c.loop-k.room in
    let here = given_by net s (drop k events) (drop k codes) in
    let rest = given_by net s (drop (k + 1) events) (drop (k + 1) codes) in
    let whole = given_by net s events codes in
    let inv = c.loop-k.invariant in
    let machine = c.get-machine in
    let same = outputs_of_machine net c.args.m machine.result.now machine.ensures in
    let after = c.if-code-gt0 in
    elim after.branch [
      | then-code-gt0 w ↦
          let e = w.get.result.now in
          let event = ap (λ (l : List ℕ). slice_get l k) same ∙ w.get.ensures in
          let one : here ≡ deliveries_of net s (e, code) ++ rest =
          ap (flat_map (deliveries_of net s))
          (emitted_one events codes k e code event c.get-code.ensures w.if-code-gt0.true) in
          let few = few_deliveries net s events codes in
          let enough = c.requires.room in
          let size = inv.1 in
          let fits =
          room_for net s stamp room count e code here rest whole inv.0 (omega arith) one inv.2 in
          let made = w.write_event-count.ensures in
          let sizes = made.same in
          let counts = made.count in
          let a = w.count-is in
          let b = ap (λ (l : List Arrival). length l) w.room-is in (
            omega arith,
            b ∙ made.same ∙ inv.1,
            written_on (take count room) (take after.count after.room)
                (map (arrival_of stamp) here) (map (arrival_of stamp) rest)
                (map (arrival_of stamp) whole)
                (map (arrival_of stamp) (deliveries_of net s (e, code)))
                (ap (λ n. take n after.room) a
                ∙ ap (λ (l : List Arrival). take w.write_event-count.result l) w.room-is
                ∙ made.written)
                (ap (map (arrival_of stamp)) one
                ∙ map-append (arrival_of stamp) (deliveries_of net s (e, code)) rest)
                inv.2,
          )
      | else-code-gt0 w ↦
          let zero_code : code ≤ 0 = w.if-code-gt0.false in
          let below : k < length events = let size = ap length same in omega arith in
          let none : here ≡ rest =
          ap (flat_map (deliveries_of net s))
          (emitted_none events codes k (get_or events k 0) code
          (slice_get-get_or events k 0 below) c.get-code.ensures (omega arith)) in
          let a = w.count-is in
          let b = ap (λ (l : List Arrival). length l) w.room-is in
          let inside = inv.0 in (
            omega arith,
            b ∙ inv.1,
            ap (λ n. take n after.room ++ map (arrival_of stamp) rest) a
                ∙ ap (λ (l : List Arrival). take count l ++ map (arrival_of stamp) rest) w.room-is
                ∙ sym (ap (λ (l : List Owed). take count room ++ map (arrival_of stamp) l) none)
                ∙ inv.2,
          )
    ]
