use Rattle.std.proofs.Common.{List, ℕ, ◌++◌, flat_map, ap, ◌∙◌, arith}
use Rattle.std.specs.List.{zip}
use Rattle.table_use.specs.CoverageLines.{input_line, line_of_input}
use Rattle.table_use.proofs.InNetwork.{input_within, name_of_event}
use Rattle.table_use.proofs.Written.{paired_all, paired_more}
use Rattle.table_use.proofs.coverage_lines.push_inputs.Goals as goal

pub get-event-requires : goal.get-event-requires
get-event-requires c =
    input_within c.args.net.now c.args.machine.now c.loop-i.i c.get.result.now c.requires
    c.get.ensures

pub loop-i-preserved : goal.loop-i-preserved
loop-i-preserved c =
    let net = c.args.net.now in
    let machine = c.args.machine.now in
    let inputs = c.args.inputs.now in
    let f = line_of_input net machine in
    let e = c.get.result.now in
    let input = c.get-in-loop-i.result.now in
    let named = name_of_event net e c.get-event.result.now c.bytes-in-loop-i.result.now
    c.get-event.ensures c.bytes-in-loop-i.ensures.bytes in
    paired_more f machine.inputs inputs c.loop-i.i e input c.loop-i.into c.push_input.new.into
    (c.args.into.now ++ flat_map f (zip machine.inputs inputs)) c.get.ensures
    c.get-in-loop-i.ensures
    (c.in_ok-push_input.ensures
    ∙ ap (λ (l : List ℕ). c.loop-i.into ++ input_line l c.bytes-in-loop-i.result.now input)
    c.bytes.ensures.bytes
    ∙ ap (λ (l : List ℕ). c.loop-i.into ++ input_line machine.name l input) named)
    c.loop-i.invariant

pub returns : goal.returns
returns c =
    let machine = c.args.machine.now in
    let inputs = c.args.inputs.now in
    let f = line_of_input c.args.net.now machine in
    let one = c.len.ensures in
    let other = c.len-2.ensures in
    let count = c.min-count.ensures in
    let test = c.loop-i-test.false in
    paired_all f machine.inputs inputs c.loop-i.i c.loop-i.into
    (c.args.into.now ++ flat_map f (zip machine.inputs inputs)) (omega arith) c.loop-i.invariant
