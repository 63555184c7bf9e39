use Rattle.std.proofs.Common.{arith, map, slice_index}
use Rattle.cost_bound.specs.Certificates.{greatest}
use Rattle.cost_bound.proofs.LabelSteps.{greatest_more}
use Rattle.cost_bound.proofs.certificate.greatest_of.Goals as goal

pub loop-j-preserved : goal.loop-j-preserved
loop-j-preserved c =
    let within = c.loop-j-test.true in
    let len = c.len-j-end.ensures in
    greatest_more c.loop-j.most c.get-in-loop-j.result.now c.max-most.result
    (greatest (map (slice_index c.args.labels.now) c.args.places.now)) c.args.labels.now
    c.args.places.now c.loop-j.j c.get.result.now (omega arith) c.get.ensures
    c.get-in-loop-j.ensures c.max-most.ensures c.loop-j.invariant
