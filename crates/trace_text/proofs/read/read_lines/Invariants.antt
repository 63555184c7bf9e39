use Rattle.std.proofs.Common.{◌≤◌, ◌+◌, length, Ok}
use Rattle.journals.specs.Journals.{IsTrace}
use Rattle.trace_text.proofs.Lines.{IsReadUpTo}
use Rattle.trace_text.proofs.read.read_lines.Given as goal

-- the lines before the rest are read, and say the items of the trace
abbrev pub invariant-loop-rest : goal.invariant-loop-rest
invariant-loop-rest l = record {
  same : IsReadUpTo l.sent.net.now l.text l.line (Ok l.trace) l.rest;
  fits : IsTrace l.sent.net.now l.trace;
  few : length l.trace ≤ 10000;
  short : l.line + length l.rest ≤ length l.text;
}

abbrev pub decreases-loop-rest : goal.decreases-loop-rest
decreases-loop-rest l = length l.rest
