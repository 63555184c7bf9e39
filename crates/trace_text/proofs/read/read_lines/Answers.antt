use Rattle.std.proofs.Common.{◌≡◌, Err, ap}
use Rattle.trace_text.proofs.Lines.{read_fault}
use Rattle.trace_text.proofs.read.read_lines.Goals as goal

pub returns-in-Err-clause-fault : goal.returns-in-Err-clause-fault
returns-in-Err-clause-fault c = λ fault is real.
    let same : c.in-Err.fault ≡ fault = cc in
    read_fault c.args.sent.now.net.now c.args.text.now c.loop-rest.line c.loop-rest.trace
    c.loop-rest.rest.now c.next_line.result.0.now c.next_line.result.1.now fault
    c.loop-rest.invariant.same c.next_line.ensures.line
    (c.in-Err.ensures.fault fault (ap Err same) real)
