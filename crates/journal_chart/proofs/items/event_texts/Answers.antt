use Rattle.std.proofs.Common.{arith, refl}
use Rattle.std.proofs.lemmas.Slice.Zip.{Zip-more, either_empty_from_Zip}
use Rattle.journal_text.specs.Texts.{event_items}
use Rattle.journal_text.specs.inner.Texts.{event_size}
use Rattle.journal_text.proofs.WrittenItems.{head_fits, code_fits}
use Rattle.journal_chart.proofs.ItemsLeft.{all_made}
use Rattle.journal_chart.proofs.items.event_texts.Goals as goal

pub event_text-requires : goal.event_text-requires
event_text-requires c =
    let turn = Zip-more c.loop-event.event-iterator c.next.new.self _ _ c.in-Some.is
    c.next.ensures.steps in
    let below = head_fits (event_size c.args.net.now) _ _ _ _ _ _ turn.0 turn.1
    c.loop-event.invariant.fit in
    code_fits c.args.net.now _ _ (omega arith) below

pub returns : goal.returns
returns c =
    let last = either_empty_from_Zip c.loop-event.event-iterator c.next.new.self _ c.in-None.is
    c.next.ensures.steps in
    all_made (event_size c.args.net.now) (event_items c.args.net.now) _ _ _ _ refl
    c.loop-event.invariant last
