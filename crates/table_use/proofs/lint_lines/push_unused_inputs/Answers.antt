use Rattle.std.proofs.Common.{List, ℕ, ◌++◌, flat_map, ap, ◌∙◌, arith}
use Rattle.std.specs.List.{zip}
use Rattle.table_use.specs.LintLines.{is_snapshot, unused_input, unused_line}
use Rattle.table_use.proofs.InNetwork.{input_within, name_of_event}
use Rattle.table_use.proofs.Written.{paired_all, paired_more}
use Rattle.table_use.proofs.lint_lines.push_unused_inputs.Goals as goal
use Rattle.polis_base.proofs.ListTests.{all_get}

pub get-event-requires : goal.get-event-requires
get-event-requires c =
    input_within c.args.net.now c.args.machine.now c.loop-i.i c.get.result.now c.requires.machine
    c.get.ensures

pub push_unused-requires-clause-snapshot : goal.push_unused-requires-clause-snapshot
push_unused-requires-clause-snapshot c =
    all_get (λ input. is_snapshot c.args.machine.now input.unused.least) c.args.inputs.now
    c.loop-i.i c.get-in-loop-i.result.now c.requires.snapshots c.get-in-loop-i.ensures

pub loop-i-preserved : goal.loop-i-preserved
loop-i-preserved c =
    let net = c.args.net.now in
    let machine = c.args.machine.now in
    let inputs = c.args.inputs.now in
    let f = unused_input net machine in
    let e = c.get.result.now in
    let input = c.get-in-loop-i.result.now in
    let named = name_of_event net e c.get-event.result.now c.bytes.result.now
    c.get-event.ensures c.bytes.ensures.bytes in
    paired_more f machine.inputs inputs c.loop-i.i e input c.loop-i.into c.push_unused.new.into
    (c.args.into.now ++ flat_map f (zip machine.inputs inputs)) c.get.ensures
    c.get-in-loop-i.ensures
    (c.in_ok-push_unused.ensures
    ∙ ap (λ (l : List ℕ). c.loop-i.into
    ++ unused_line net machine l input.unused.count input.unused.least) named)
    c.loop-i.invariant

pub returns : goal.returns
returns c =
    let machine = c.args.machine.now in
    let inputs = c.args.inputs.now in
    let f = unused_input c.args.net.now machine in
    let one = c.len.ensures in
    let other = c.len-2.ensures in
    let count = c.min-count.ensures in
    let test = c.loop-i-test.false in
    paired_all f machine.inputs inputs c.loop-i.i c.loop-i.into
    (c.args.into.now ++ flat_map f (zip machine.inputs inputs)) (omega arith) c.loop-i.invariant
