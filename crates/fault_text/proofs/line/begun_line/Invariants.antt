use Rattle.std.proofs.Common.{◌≡◌, ◌-◌, slice_get}
use Rattle.fault_text.specs.Positions.{numbered, begun_lines}
use Rattle.fault_text.proofs.line.begun_line.Given as goal

-- the wanted line is that of what is left
abbrev pub invariant-loop : goal.invariant-loop
invariant-loop l =
    slice_get (begun_lines l.rest) (l.fn.number - l.counter)
    ≡ numbered l.fn.number (begun_lines l.fn.text)
