use Rattle.std.proofs.Common.{◌-◌, arith}
use Rattle.std.proofs.lemmas.Option.{get_or_from_slice_get}
use Rattle.domains.proofs.Ranks.{length_fits}
use Rattle.domains.proofs.Greatest.{greatest_none, greatest_more, code_below}
use Rattle.domains.proofs.codes.last_below.Goals as goal

pub loop-k-init : goal.loop-k-init
loop-k-init c =
    let h = greatest_none c.args.vars.now c.args.codes.now
    (length_fits c.args.vars.now c.args.codes.now c.requires) in
    rw c.len-k.ensures.len h

pub get-requires : goal.get-requires
get-requires c = omega (arith, length_fits c.args.vars.now c.args.codes.now c.requires)

pub overflow_add-get : goal.overflow_add-get
overflow_add-get c =
    let b = code_below c.args.vars.now c.args.codes.now (c.loop-k.k - 1) c.get-size.result.now
    c.get.result.now c.len-k.ensures.sizes c.requires c.get-size.ensures c.get.ensures in
    omega arith

pub returns-then-get-size-clause-place : goal.returns-then-get-size-clause-place
returns-then-get-size-clause-place c =
    omega (arith, length_fits c.args.vars.now c.args.codes.now c.requires)

pub returns-then-get-size-clause-below : goal.returns-then-get-size-clause-below
returns-then-get-size-clause-below c =
    omega (
      arith,
      get_or_from_slice_get c.args.codes.now _ _ 0 c.get.ensures,
      get_or_from_slice_get c.args.vars.now _ _ 0 c.get-size.ensures,
    )

pub loop-k-preserved : goal.loop-k-preserved
loop-k-preserved c =
    let b = code_below c.args.vars.now c.args.codes.now (c.loop-k.k - 1) c.get-size.result.now
    c.get.result.now c.len-k.ensures.sizes c.requires c.get-size.ensures c.get.ensures in
    greatest_more c.args.vars.now c.args.codes.now (c.loop-k.k - 1) c.loop-k.k c.get-size.result.now
    c.get.result.now (omega arith) c.get-size.ensures c.get.ensures (omega arith)
    c.loop-k.invariant
