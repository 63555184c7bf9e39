use Rattle.task_code.specs.Listings.{instr_words, numbered_lines}
use Rattle.std.proofs.Common.{◌++◌}
use Rattle.task_code.proofs.NumberedLines.{more_lines}
use Rattle.task_code.proofs.listing.push_instrs.Goals as goal

pub loop-k-preserved : goal.loop-k-preserved
loop-k-preserved c =
    more_lines (instr_words c.args.net.now c.args.machine.now) c.args.code.now c.loop-k.k
    c.get.result.now c.loop-k.out c.push_instr_line.new.out
    (c.args.out.now ++ numbered_lines (instr_words c.args.net.now c.args.machine.now) 0
    c.args.code.now) c.loop-k.invariant c.get.ensures c.in_ok-push_instr_line.ensures
