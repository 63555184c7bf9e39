use Rattle.std.proofs.Common.{◌+◌, take, arith}
use Rattle.std.proofs.lemmas.List.{length-take}
use Rattle.polis_base.proofs.KnownBytes.{consumed_within}
use Rattle.polis_base.proofs.std_host.read_whole.Goals as goal

pub returns-then-count-room-clause-bounded : goal.returns-then-count-room-clause-bounded
returns-then-count-room-clause-bounded g c =
    consumed_within (g.R.Read.remaining c.args.reader.now) (g.R.Read.remaining c.loop-count.reader)
    (g.R.Read.remaining c.read.new.self) c.loop-count.into (take c.in-Ok.count c.read.new.buf)
    (c.args.max + 1) c.loop-count.invariant.consumed c.in-Ok.ensures.bytes.0
    (omega (
      arith,
      c.read.auto.buf,
      length-take c.in-Ok.count c.read.new.buf,
      length-take c.min-wanted.result c.loop-count.piece,
    ))

pub returns-then-is_err-clause-bounded : goal.returns-then-is_err-clause-bounded
returns-then-is_err-clause-bounded g c =
    consumed_within (g.R.Read.remaining c.args.reader.now) (g.R.Read.remaining c.loop-count.reader)
    (g.R.Read.remaining c.read.new.self) c.loop-count.into (take c.in-Ok.count c.read.new.buf)
    (c.args.max + 1) c.loop-count.invariant.consumed c.in-Ok.ensures.bytes.0
    (omega (arith, length-take c.in-Ok.count c.read.new.buf))
