use Rattle.std.proofs.Common.{◌≡◌, ◌+◌, ◌++◌, ℕ, List, drop, flat_map, get_or, slice_get, subst, ap, ◌∙◌, arith, append_assoc}
use Rattle.std.proofs.lemmas.List.{get_or_default}
use Rattle.transition_table.specs.declared.decl.Party.TheVariants.{Machine as Sender}
use Rattle.journals.specs.declared.entry.Owed.{Owed}
use Rattle.journals.specs.Journals.{outputs_of, emitted}
use Rattle.journals.specs.Schedules.{deliveries_of}
use Rattle.net_core.specs.Emissions.{IsMore}
use Rattle.net_core.proofs.Outputs.{given_and_rest}
use Rattle.journals.proofs.Emitted.{outputs_of_machine, output_is_event}
use Rattle.net_core.proofs.IsQueue.{more_and_more}
use Rattle.net_core.specs.inner.Emissions.{given_to}
use Rattle.net_core.proofs.config.emissions.emit_all.Goals as goal

pub bounds-readers-event : goal.bounds-readers-event
bounds-readers-event c =
    let event = output_is_event c.args.net.now c.args.m c.get.result.now c.loop-k.k
    c.get-event.result.now c.get.ensures c.get-event.ensures in
    let long = c.requires.readers.long in
    omega arith

pub loop-k-preserved : goal.loop-k-preserved
loop-k-preserved c =
    let net = c.args.net.now in
    let m = c.args.m in
    let k = c.loop-k.k in
    let outs : List ℕ = c.args.outs.now in
    let outputs : List ℕ = outputs_of net m in
    let e = c.get-event.result.now in
    let code = c.get-in-loop-k.result.now in
    let left = get_or c.args.readers.now e 0 in
    let old = c.loop-k.invariant.more in
    let xs : List Owed = old.0 in
    let one : List Owed = given_to m e code left in
    let of : List (ℕ × ℕ) → List Owed = flat_map (deliveries_of net (Sender m)) in
    let event = ap (λ (l : List ℕ). slice_get l k)
    (outputs_of_machine net m c.get.result.now c.get.ensures) ∙ c.get-event.ensures in
    let below = output_is_event net m c.get.result.now k e c.get.ensures c.get-event.ensures in
    let here = given_and_rest net m outputs outs k e code left event c.get-in-loop-k.ensures
    (c.requires.readers.are e below) in
    let long = c.requires.readers.long in
    let read = c.index-readers-event.result in
    let is : read ≡ left =
    c.index-readers-event.is ∙ get_or_default c.args.readers.now e read 0 (omega arith) in
    let added : IsMore c.loop-k.records.items c.loop-k.last.items c.emit.new.records.items
    c.emit.new.last.items one =
    subst (λ (n : ℕ). IsMore c.loop-k.records.items c.loop-k.last.items c.emit.new.records.items
    c.emit.new.last.items (given_to m e code n)) is c.emit.ensures.more in
    let few = c.loop-k.invariant.few in
    let room = c.loop-k.invariant.room in
    let len = c.emit.ensures.len in
    let kept = c.emit.ensures.room in
    record {
      more = (
        xs ++ one,
        more_and_more c.args.records.now.items c.args.last.now.items c.loop-k.records.items
            c.loop-k.last.items c.emit.new.records.items c.emit.new.last.items xs one old.1 added,
        append_assoc xs one (of (emitted (drop (k + 1) outputs) (drop (k + 1) outs)))
            ∙ ap (λ (l : List Owed). xs ++ l) here ∙ old.2,
      );
      few = omega arith;
      room = omega arith;
    }
