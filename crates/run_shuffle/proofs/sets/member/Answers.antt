use Rattle.std.proofs.Common.{◌≡◌, ℕ, ap, drop, sym, ◌∙◌, arith}
use Rattle.std.proofs.lemmas.List.{drop-drop}
use Rattle.polis_base.specs.Lists.{head_of}
use Rattle.polis_base.specs.Sets.{members}
use Rattle.run_shuffle.proofs.MembersOfSets.{first_left, some_left, without_lowest}
use Rattle.run_shuffle.proofs.sets.member.Goals as goal

pub least-requires : goal.least-requires
least-requires c =
    let test = c.loop-test.true in
    let number = c.requires in
    some_left c.args.set c.loop.left c.loop.counter c.loop.invariant (omega (arith, test, number))

pub loop-preserved : goal.loop-preserved
loop-preserved c =
    without_lowest c.loop.left c.least.result c.without-left.result c.least.ensures.first
    c.least.ensures.below c.without-left.ensures
    ∙ ap (drop 1) c.loop.invariant
    ∙ drop-drop 1 c.loop.counter (members c.args.set)

pub least-requires-2 : goal.least-requires-2
least-requires-2 c =
    let last = c.loop.auto.counter-end in
    let number = c.requires in
    some_left c.args.set c.loop.left c.loop.counter c.loop.invariant (omega (arith, last, number))

pub returns : goal.returns
returns c =
    let past = c.loop-test.false in
    let last = c.loop.auto.counter-end in
    let all : c.loop.counter ≡ c.args.number = omega (arith, past, last) in
    first_left (members c.args.set) c.args.number c.least-2.result
    (ap (λ (k : ℕ). head_of (drop k (members c.args.set))) (sym all)
    ∙ ap head_of (sym c.loop.invariant)
    ∙ c.least-2.ensures.first)
