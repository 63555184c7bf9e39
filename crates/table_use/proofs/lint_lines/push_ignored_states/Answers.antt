use Rattle.std.proofs.Common.{List, ℕ, ◌++◌, codes, flat_map, ap, ◌∙◌, arith}
use Rattle.std.specs.List.{zip}
use Rattle.table_use.specs.LintLines.{ignored_state, note_line}
use Rattle.table_use.proofs.Written.{paired_all, paired_more}
use Rattle.table_use.proofs.lint_lines.push_ignored_states.Goals as goal

pub loop-x-preserved : goal.loop-x-preserved
loop-x-preserved c =
    let machine = c.args.machine.now in
    let states = c.args.states.now in
    let f = ignored_state machine in
    let variable = c.get-variable.result.now in
    let ignored = c.get.result.now in
    paired_more f machine.states states c.loop-x.x variable ignored c.loop-x.into
    c.push_note.new.into (c.args.into.now ++ flat_map f (zip machine.states states))
    c.get-variable.ensures c.get.ensures
    (c.in_ok-push_note.ensures
    ∙ ap (λ (l : List ℕ). c.loop-x.into
    ++ note_line ignored (codes "state") l c.bytes-in-loop-x.result.now (codes "ignored"))
    c.bytes.ensures.bytes
    ∙ ap (λ (l : List ℕ). c.loop-x.into
    ++ note_line ignored (codes "state") machine.name l (codes "ignored"))
    c.bytes-in-loop-x.ensures.bytes)
    c.loop-x.invariant

pub returns : goal.returns
returns c =
    let machine = c.args.machine.now in
    let states = c.args.states.now in
    let f = ignored_state machine in
    let one = c.len.ensures in
    let other = c.len-2.ensures in
    let count = c.min-count.ensures in
    let test = c.loop-x-test.false in
    paired_all f machine.states states c.loop-x.x c.loop-x.into
    (c.args.into.now ++ flat_map f (zip machine.states states)) (omega arith) c.loop-x.invariant
