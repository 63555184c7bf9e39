use Rattle.machine_compiler.proofs.HasPlaces.{share_more, right_at}
use Rattle.machine_compiler.proofs.shares.compile_share.Goals as goal

pub compile_machine-requires : goal.compile_machine-requires
compile_machine-requires g c = c.requires c.take_next-number.result c.get.result.now c.get.ensures

pub loop-preserved : goal.loop-preserved
loop-preserved g c =
    share_more c.args.net.now c.loop.share.items c.push.new.self.items _ c.loop.invariant
    c.in_ok-push.ensures.items
    (right_at c.args.net.now c.take_next-number.result c.get.result.now c.in_ok-compiled.compiled
    c.get.ensures c.in_ok-compiled.ensures)
