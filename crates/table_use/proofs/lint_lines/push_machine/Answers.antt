use Rattle.std.proofs.Common.{◌++◌, flat_map}
use Rattle.std.specs.List.{enumerate_from, zip}
use Rattle.table_use.specs.LintLines.{ignored_input, ignored_state, jam_line, large_line, never_line, never_output, repeats_of, sums_line, unused_input}
use Rattle.table_use.proofs.lint_lines.push_machine.Goals as goal
use Rattle.polis_base.proofs.Places.{append_twice}

pub returns : goal.returns
returns c =
    let net = c.args.net.now in
    let m = c.args.machine.now in
    let lint = c.args.lint.now in
    let into = c.args.into.now in
    let sums = sums_line m lint in
    let jam = jam_line net m lint.jam.least in
    let never = flat_map (never_line m) (enumerate_from 0 lint.rows) in
    let repeats = flat_map (repeats_of m) (enumerate_from 0 lint.rows) in
    let inputs = flat_map (ignored_input net m) (zip m.inputs lint.inputs) in
    let states = flat_map (ignored_state m) (zip m.states lint.states) in
    let outputs = flat_map (never_output net m) (zip m.outputs lint.outputs) in
    let unused = flat_map (unused_input net m) (zip m.inputs lint.inputs) in
    let large = large_line m lint.large in
    let to_jam = sums ++ jam in
    let to_never = to_jam ++ never in
    let to_repeats = to_never ++ repeats in
    let to_inputs = to_repeats ++ inputs in
    let to_states = to_inputs ++ states in
    let to_outputs = to_states ++ outputs in
    let to_unused = to_outputs ++ unused in
    let with_jam =
    append_twice into c.push_sums.new.into c.push_jam.new.into sums jam c.in_ok-push_sums.ensures
    c.in_ok-push_jam.ensures in
    let with_never =
    append_twice into c.push_jam.new.into c.push_never_rows.new.into to_jam never with_jam
    c.in_ok-push_never_rows.ensures in
    let with_repeats =
    append_twice into c.push_never_rows.new.into c.push_repeating_rows.new.into to_never repeats with_never
    c.in_ok-push_repeating_rows.ensures in
    let with_inputs =
    append_twice into c.push_repeating_rows.new.into c.push_ignored_inputs.new.into to_repeats inputs
    with_repeats c.in_ok-push_ignored_inputs.ensures in
    let with_states =
    append_twice into c.push_ignored_inputs.new.into c.push_ignored_states.new.into to_inputs states
    with_inputs c.in_ok-push_ignored_states.ensures in
    let with_outputs =
    append_twice into c.push_ignored_states.new.into c.push_never_outputs.new.into to_states outputs
    with_states c.in_ok-push_never_outputs.ensures in
    let with_unused =
    append_twice into c.push_never_outputs.new.into c.push_unused_inputs.new.into to_outputs unused
    with_outputs c.in_ok-push_unused_inputs.ensures in
    append_twice into c.push_unused_inputs.new.into c.push_large.new.into to_unused large with_unused
    c.in_ok-push_large.ensures
