use Rattle.std.proofs.Common.{◌+◌, ◌∙◌, map, drop, ap, sym, refl, Err}
use Rattle.journal_text.specs.Items.{as_state, some_codes}
use Rattle.journal_text.specs.Cursors.{items_in}
use Rattle.journal_text.proofs.ReadItems.{taken_start, taken_more, halted, left_over, all_read, next_thing, no_things, on_ok_then}
use Rattle.journal_text.proofs.codes.push_state_codes.Goals as goal

pub loop-variable-init : goal.loop-variable-init
loop-variable-init c = taken_start (some_codes c.args.net.now) _ _ _ _ c.items_of-items.ensures

pub loop-variable-preserved : goal.loop-variable-preserved
loop-variable-preserved c =
    let xs = c.args.states.now in
    let i = c.loop-variable.variable-index in
    taken_more (some_codes c.args.net.now) (map as_state xs) (items_in c.args.list.now) c.args.into.now
    c.loop-variable.into c.push_code.new.into (map as_state (drop i xs)) (map as_state (drop (i + 1) xs))
    (as_state c.variable-item.result) _ _ c.loop-variable.invariant
    (next_thing as_state xs i c.variable-item.result c.loop-variable-test.true c.variable-item.is)
    (rw c.bytes.ensures.bytes at c.in-Ok.ensures.ok)

pub returns-in-Err-clause-fault : goal.returns-in-Err-clause-fault
returns-in-Err-clause-fault c = λ kind e.
    let xs = c.args.states.now in
    let i = c.loop-variable.variable-index in
    halted (some_codes c.args.net.now) (map as_state xs) (items_in c.args.list.now) c.args.into.now
    c.loop-variable.into (map as_state (drop i xs)) (map as_state (drop (i + 1) xs)) (as_state c.variable-item.result) _ kind
    c.loop-variable.invariant
    (next_thing as_state xs i c.variable-item.result c.loop-variable-test.true c.variable-item.is)
    (rw c.bytes.ensures.bytes at (c.in-Err.ensures.fault kind (cc)))

pub returns-clause-ok : goal.returns-clause-ok
returns-clause-ok c =
    let xs = c.args.states.now in
    on_ok_then c.ended.result c.ended.ensures.ok
    (all_read (some_codes c.args.net.now) refl (map as_state xs) (items_in c.args.list.now)
    c.args.into.now c.loop-variable.into (map as_state (drop c.loop-variable.variable-index xs)) c.loop-variable.items
    c.loop-variable.invariant (no_things as_state xs c.loop-variable.variable-index c.loop-variable-test.false))

pub returns-clause-fault : goal.returns-clause-fault
returns-clause-fault c = λ kind e.
    let xs = c.args.states.now in
    let over = c.ended.ensures.fault kind e in
    left_over (some_codes c.args.net.now) (λ item ws. refl) (map as_state xs) (items_in c.args.list.now)
    c.args.into.now c.loop-variable.into (map as_state (drop c.loop-variable.variable-index xs)) c.loop-variable.items
    c.loop-variable.invariant (no_things as_state xs c.loop-variable.variable-index c.loop-variable-test.false) over.1
    ∙ ap Err (sym over.0)
