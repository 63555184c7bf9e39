use Rattle.std.proofs.Common.{List, ℕ, ◌++◌, codes, flat_map, ap, ◌∙◌, arith}
use Rattle.std.specs.List.{zip}
use Rattle.table_use.specs.LintLines.{never_output, note_line}
use Rattle.table_use.proofs.InNetwork.{output_within, name_of_event}
use Rattle.table_use.proofs.Written.{paired_all, paired_more}
use Rattle.table_use.proofs.lint_lines.push_never_outputs.Goals as goal

pub get-event-requires : goal.get-event-requires
get-event-requires c =
    output_within c.args.net.now c.args.machine.now c.loop-y.y c.get.result.now c.requires
    c.get.ensures

pub loop-y-preserved : goal.loop-y-preserved
loop-y-preserved c =
    let net = c.args.net.now in
    let machine = c.args.machine.now in
    let outputs = c.args.outputs.now in
    let f = never_output net machine in
    let e = c.get.result.now in
    let item = c.get-in-loop-y.result.now in
    let holds = item in
    let named = name_of_event net e c.get-event.result.now c.bytes-in-loop-y.result.now
    c.get-event.ensures c.bytes-in-loop-y.ensures.bytes in
    paired_more f machine.outputs outputs c.loop-y.y e item c.loop-y.into
    c.push_note.new.into (c.args.into.now ++ flat_map f (zip machine.outputs outputs)) c.get.ensures
    c.get-in-loop-y.ensures
    (c.in_ok-push_note.ensures
    ∙ ap (λ (l : List ℕ). c.loop-y.into
    ++ note_line holds (codes "output") l c.bytes-in-loop-y.result.now (codes "never"))
    c.bytes.ensures.bytes
    ∙ ap (λ (l : List ℕ). c.loop-y.into
    ++ note_line holds (codes "output") machine.name l (codes "never")) named)
    c.loop-y.invariant

pub returns : goal.returns
returns c =
    let machine = c.args.machine.now in
    let outputs = c.args.outputs.now in
    let f = never_output c.args.net.now machine in
    let one = c.len.ensures in
    let other = c.len-2.ensures in
    let count = c.min-count.ensures in
    let test = c.loop-y-test.false in
    paired_all f machine.outputs outputs c.loop-y.y c.loop-y.into
    (c.args.into.now ++ flat_map f (zip machine.outputs outputs)) (omega arith)
    c.loop-y.invariant
