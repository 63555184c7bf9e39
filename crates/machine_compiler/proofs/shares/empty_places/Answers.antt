use Rattle.std.proofs.Common.{◌≡◌, ◌∙◌, length, arith}
use Rattle.machine_compiler.proofs.RightParts.{length_push}
use Rattle.machine_compiler.proofs.HasPlaces.{places_more, nothing_placed}
use Rattle.machine_compiler.proofs.shares.empty_places.Goals as goal

pub loop-preserved : goal.loop-preserved
loop-preserved c = record {
  long = length_push c.loop.places c.push.new.self _ c.loop.counter c.loop.invariant.long
      c.in_ok-push.ensures.ok;
  empty = places_more c.loop.places c.push.new.self c.loop.invariant.empty
      c.in_ok-push.ensures.ok;
}

pub returns : goal.returns
returns c =
    let end = c.loop-test.false in
    let within = c.loop.auto.counter-end in
    let long = c.len-end.ensures in
    let all : c.loop.counter ≡ length c.args.net.now.machines = omega arith in
    nothing_placed c.args.net.now c.loop.places (c.loop.invariant.long ∙ all)
    c.loop.invariant.empty
