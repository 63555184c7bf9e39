use Rattle.std.proofs.Common.{◌+◌, ◌%◌, slice_index, arith, sym, ap, ◌∙◌}
use Rattle.std.proofs.lemmas.Option.{get_or_from_slice_get}
use Rattle.transition_table.specs.Sources.{code_of as code_from, variable_of}
use Rattle.transition_table.specs.declared.row.Source.{Source}
use Rattle.transition_table.proofs.Rows.{machine_sizes}
use Rattle.transition_table.proofs.Ranges.{reads_of, adds_of, below_size}
use Rattle.transition_table.proofs.reactor.code_of.Goals as goal
use Rattle.domains.proofs.Ranks.{length_fits, size_few}

pub get-requires : goal.get-requires
get-requires c =
    let m = c.args.machine.now in
    let reads = reads_of m c.args.act.now c.in-Input.var c.requires.action c.in-Input.is in
    let size = length_fits m.vars c.args.s.now.codes c.requires.snapshot in
    let below = reads.1 in
    omega arith

pub get-requires-in-Add : goal.get-requires-in-Add
get-requires-in-Add c =
    let m = c.args.machine.now in
    let adds = adds_of m c.args.act.now c.in-Add.step c.requires.action c.in-Add.is in
    let size = length_fits m.vars c.args.s.now.codes c.requires.snapshot in
    let below = adds.var in
    let inputs = c.len.ensures in
    omega arith

pub further-requires-clause-code : goal.further-requires-clause-code
further-requires-clause-code c =
    let m = c.args.machine.now in
    let adds = adds_of m c.args.act.now c.in-Add.step c.requires.action c.in-Add.is in
    let below = below_size m.vars c.args.s.now.codes (variable_of m.inputs c.args.act.now.result)
    c.requires.snapshot adds.var in
    let code = get_or_from_slice_get c.args.s.now.codes (variable_of m.inputs c.args.act.now.result)
    c.get-in-Add.result.now 0 (rw c.len.ensures at c.get-in-Add.ensures) in
    let size = get_or_from_slice_get m.vars (variable_of m.inputs c.args.act.now.result)
    c.get-in-Add-2.result.now 0 (rw c.len.ensures at c.get-in-Add-2.ensures) in
    omega arith

pub further-requires-clause-step : goal.further-requires-clause-step
further-requires-clause-step c =
    let m = c.args.machine.now in
    let adds = adds_of m c.args.act.now c.in-Add.step c.requires.action c.in-Add.is in
    let step = adds.step in
    let size = get_or_from_slice_get m.vars (variable_of m.inputs c.args.act.now.result)
    c.get-in-Add-2.result.now 0 (rw c.len.ensures at c.get-in-Add-2.ensures) in
    omega arith

pub further-requires-clause-size : goal.further-requires-clause-size
further-requires-clause-size c =
    let m = c.args.machine.now in
    let few = size_few m.vars (variable_of m.inputs c.args.act.now.result) (machine_sizes m) in
    let size = get_or_from_slice_get m.vars (variable_of m.inputs c.args.act.now.result)
    c.get-in-Add-2.result.now 0 (rw c.len.ensures at c.get-in-Add-2.ensures) in
    omega arith

pub returns-in-Input : goal.returns-in-Input
returns-in-Input c =
    let m = c.args.machine.now in
    sym (ap (λ (source : Source). code_from m.inputs m.vars c.args.s.now.codes c.args.act.now.result
    source) c.in-Input.is ∙ get_or_from_slice_get c.args.s.now.codes c.in-Input.var
    c.get.result.now 0 c.get.ensures)

pub returns-in-Add : goal.returns-in-Add
returns-in-Add c =
    let m = c.args.machine.now in
    let k = variable_of m.inputs c.args.act.now.result in
    let code = get_or_from_slice_get c.args.s.now.codes k c.get-in-Add.result.now 0
    (rw c.len.ensures at c.get-in-Add.ensures) in
    let size = get_or_from_slice_get m.vars k c.get-in-Add-2.result.now 0
    (rw c.len.ensures at c.get-in-Add-2.ensures) in
    c.further.ensures
    ∙ sym
    (ap (λ (source : Source). code_from m.inputs m.vars c.args.s.now.codes c.args.act.now.result
    source) c.in-Add.is
    ∙ ap (λ n. 1 + (n + c.in-Add.step) % slice_index m.vars k) code
    ∙ ap (λ n. 1 + (c.get-in-Add.result.now + c.in-Add.step) % n) size)
