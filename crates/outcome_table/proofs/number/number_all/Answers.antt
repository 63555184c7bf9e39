use Rattle.std.proofs.Common.{◌≡◌, ◌∙◌, take, drop, get_or, [], arith, sym}
use Rattle.std.proofs.lemmas.Option.{get_or_from_slice_get}
use Rattle.domains.specs.Tables.{product}
use Rattle.outcome_table.proofs.NumberedOutcomes.{adds_many, same_after}
use Rattle.transition_table.proofs.CodeSets.{machine_sizes}
use Rattle.outcome_table.proofs.number.number_all.Goals as goal
use Rattle.domains.proofs.FittingCodes.{product_after}
use Rattle.transition_table.proofs.MachineCounts.{few_snapshots}

pub get-times-requires : goal.get-times-requires
get-times-requires c =
    let long = c.args.narrowing.now.are_counts.long in
    let low = c.requires.at in
    omega arith

pub push_times-requires : goal.push_times-requires
push_times-requires c =
    let m = c.args.narrowing.now.machine.now in
    let times = c.get-times.result.now in
    let many : times ≡ product (drop c.args.at m.vars) =
    sym (get_or_from_slice_get c.args.narrowing.now.counts.now c.args.at times 0
    c.get-times.ensures)
    ∙ c.args.narrowing.now.are_counts.each c.args.at c.requires.at in
    let most = product_after m.vars c.args.at (machine_sizes m) in
    let few = few_snapshots m in
    omega arith

pub returns : goal.returns
returns c =
    let m = c.args.narrowing.now.machine.now in
    let fixed = take c.args.at c.args.s.now.codes in
    let sizes = drop c.args.at m.vars in
    let times = c.get-times.result.now in
    let many : times ≡ product sizes =
    sym (get_or_from_slice_get c.args.narrowing.now.counts.now c.args.at times 0
    c.get-times.ensures)
    ∙ c.args.narrowing.now.are_counts.each c.args.at c.requires.at in
    let after = c.in_ok-number.ensures.number in
    adds_many m c.args.made.now _ c.in_ok-number.number times _ c.requires.within
    c.in_ok-number.ensures.kept c.in_ok-push_times.ensures after.low
    (same_after m fixed sizes (get_or c.number_after.new.outcomes c.in_ok-number.number [])
    times many after.gives)
