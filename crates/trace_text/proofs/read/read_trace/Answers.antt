use Rattle.trace_text.proofs.read.read_trace.Goals as goal

pub returns-in-Ok-clause-fault : goal.returns-in-Ok-clause-fault
returns-in-Ok-clause-fault c = λ fault is real.
    rw c.in-Ok.ensures at (c.read_lines.ensures.fault fault is real)
