use Rattle.std.proofs.Common.{rules, arith, ◌≡◌, ◌<◌, ◌∙◌, List, Option, length, drop, ap, sym}
use Rattle.machine_compiler.specs.declared.compiled.Compiled.{Compiled}
use Rattle.machine_compiler.specs.Parts.{IsRightPart, part_of_compiled}
use Rattle.machine_compiler.proofs.RightParts.{none_paired, more_paired, length_push, all_right}
use Rattle.machine_compiler.proofs.HasPlaces.{drop_next, drop_none}
use Rattle.machine_compiler.proofs.shares.in_order.Goals as goal
use Rattle.polis_base.proofs.Places.{some_at}

pub loop-place-init : goal.loop-place-init
loop-place-init c = record {
  left = c.into_iter-place-iterator.ensures.into_iter_gives.0 ∙ c.into_vec-place-items.ensures;
  within = omega arith;
  count = search rules;
  right = none_paired (λ m x. IsRightPart m (part_of_compiled x)) c.args.net.now.machines
      c.new-compiled.result c.new-compiled.ensures;
  long = ap (λ (l : List Compiled). length l) c.new-compiled.ensures;
}

pub or_compiled-requires-clause-machine : goal.or_compiled-requires-clause-machine
or_compiled-requires-clause-machine c =
    let next = drop_next c.args.places c.loop-place.k c.in-Some.place _
    (sym c.loop-place.invariant.left ∙ c.in-Some.ensures.steps.0) in
    let low = next.1 in
    let long = c.requires.places.long in
    omega (arith, low, long)

pub or_compiled-requires-clause-right : goal.or_compiled-requires-clause-right
or_compiled-requires-clause-right c =
    let next = drop_next c.args.places c.loop-place.k c.in-Some.place _
    (sym c.loop-place.invariant.left ∙ c.in-Some.ensures.steps.0) in
    c.requires.places.right c.loop-place.k c.in-Some.place next.0

pub overflow_add-k : goal.overflow_add-k
overflow_add-k c =
    let next = drop_next c.args.places c.loop-place.k c.in-Some.place _
    (sym c.loop-place.invariant.left ∙ c.in-Some.ensures.steps.0) in
    let low = next.1 in
    let long = c.requires.places.long in
    let few = c.args.net.now.few_machines in
    omega (arith, low, long, few)

pub loop-place-preserved : goal.loop-place-preserved
loop-place-preserved c =
    let ms = c.args.net.now.machines in
    let next = drop_next c.args.places c.loop-place.k c.in-Some.place _
    (sym c.loop-place.invariant.left ∙ c.in-Some.ensures.steps.0) in
    let low : c.loop-place.k < length ms =
    let here = next.1 in let long = c.requires.places.long in omega (arith, here, long) in
    let at = some_at ms c.loop-place.k low in
    record {
      left = sym next.2;
      within = let here = next.1 in omega (arith, here);
      count = search rules;
      right = more_paired (λ m x. IsRightPart m (part_of_compiled x)) ms c.loop-place.compiled
          c.push.new.self c.loop-place.k at.0 c.in_ok-part.part c.loop-place.invariant.right
          c.loop-place.invariant.long c.in_ok-push.ensures.ok at.1
          (c.in_ok-part.ensures at.0 at.1);
      long = length_push c.loop-place.compiled c.push.new.self c.in_ok-part.part c.loop-place.k
          c.loop-place.invariant.long c.in_ok-push.ensures.ok;
    }

pub returns : goal.returns
returns c =
    let before = c.loop-place.invariant in
    let none = c.in-None.ensures.steps.0 in
    let left : length (drop c.loop-place.k c.args.places) ≡ 0 =
    ap (λ (l : List (Option Compiled)). length l) (sym before.left) ∙ sym before.count ∙ none in
    let past = drop_none c.args.places c.loop-place.k left in
    let within = before.within in
    let long = c.requires.places.long in
    let all : c.loop-place.k ≡ length c.args.net.now.machines = omega (arith, past, within, long) in
    all_right c.args.net.now c.loop-place.compiled before.right (before.long ∙ all)
