use Rattle.std.proofs.Common.{◌+◌, ◌∙◌, map, drop, ap, sym, subst, refl, get_or, option_copied, Err}
use Rattle.journal_text.specs.Items.{Named, as_event, some_codes}
use Rattle.journal_text.specs.Cursors.{items_in}
use Rattle.polis_base.specs.Pieces.{left}
use Rattle.journal_text.specs.inner.Steps.{Takes, Halts}
use Rattle.journal_text.proofs.ReadItems.{taken_start, taken_more, halted, left_over, all_read, next_number, event_is, no_things, on_ok_then}
use Rattle.journals.proofs.ValueWords.{domain_in}
use Rattle.journal_text.proofs.codes.push_event_codes.Goals as goal

pub loop-e-init : goal.loop-e-init
loop-e-init c = taken_start (some_codes c.args.net.now) _ _ _ _ c.items_of-items.ensures

pub push_code-requires : goal.push_code-requires
push_code-requires c = domain_in c.args.net.now _ c.get-event.result.now c.get-event.ensures

pub loop-e-preserved : goal.loop-e-preserved
loop-e-preserved c =
    let xs = c.args.events.now in
    let i = c.loop-e.e-index in
    taken_more (some_codes c.args.net.now) (map (as_event c.args.net.now) xs) (items_in c.args.list.now) c.args.into.now
    c.loop-e.into c.push_code.new.into (map (as_event c.args.net.now) (drop i xs)) (map (as_event c.args.net.now) (drop (i + 1) xs))
    (as_event c.args.net.now (get_or xs i 0)) _ _ c.loop-e.invariant
    (next_number (as_event c.args.net.now) xs i c.loop-e-test.true)
    (subst (λ (named : Named). Takes (some_codes c.args.net.now) named
    (left 32 (option_copied c.loop-e.items)) c.loop-e.into c.push_code.new.into
    (left 32 (option_copied c.in-Ok.after)))
    (event_is c.args.net.now (get_or xs i 0) c.get-event.result.now c.get-event.ensures)
    (rw c.bytes.ensures.bytes at c.in-Ok.ensures.ok))

pub returns-in-Err-clause-fault : goal.returns-in-Err-clause-fault
returns-in-Err-clause-fault c = λ kind e.
    let xs = c.args.events.now in
    let i = c.loop-e.e-index in
    halted (some_codes c.args.net.now) (map (as_event c.args.net.now) xs) (items_in c.args.list.now) c.args.into.now
    c.loop-e.into (map (as_event c.args.net.now) (drop i xs)) (map (as_event c.args.net.now) (drop (i + 1) xs)) (as_event c.args.net.now (get_or xs i 0)) _ kind
    c.loop-e.invariant
    (next_number (as_event c.args.net.now) xs i c.loop-e-test.true)
    (subst (λ (named : Named). Halts (some_codes c.args.net.now) named
    (left 32 (option_copied c.loop-e.items)) kind)
    (event_is c.args.net.now (get_or xs i 0) c.get-event.result.now c.get-event.ensures)
    (rw c.bytes.ensures.bytes at (c.in-Err.ensures.fault kind (cc))))

pub returns-clause-ok : goal.returns-clause-ok
returns-clause-ok c =
    let xs = c.args.events.now in
    on_ok_then c.ended.result c.ended.ensures.ok
    (all_read (some_codes c.args.net.now) refl (map (as_event c.args.net.now) xs) (items_in c.args.list.now)
    c.args.into.now c.loop-e.into (map (as_event c.args.net.now) (drop c.loop-e.e-index xs)) c.loop-e.items
    c.loop-e.invariant (no_things (as_event c.args.net.now) xs c.loop-e.e-index c.loop-e-test.false))

pub returns-clause-fault : goal.returns-clause-fault
returns-clause-fault c = λ kind e.
    let xs = c.args.events.now in
    let over = c.ended.ensures.fault kind e in
    left_over (some_codes c.args.net.now) (λ item ws. refl) (map (as_event c.args.net.now) xs) (items_in c.args.list.now)
    c.args.into.now c.loop-e.into (map (as_event c.args.net.now) (drop c.loop-e.e-index xs)) c.loop-e.items
    c.loop-e.invariant (no_things (as_event c.args.net.now) xs c.loop-e.e-index c.loop-e-test.false) over.1
    ∙ ap Err (sym over.0)
