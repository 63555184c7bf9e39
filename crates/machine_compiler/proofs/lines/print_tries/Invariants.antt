use Rattle.std.proofs.Common.{◌≡◌, ◌++◌, drop}
use Rattle.machine_compiler.specs.Parts.{parts_of}
use Rattle.machine_compiler.specs.Lines.{side_by_side, tries_line, tries_text}
use Rattle.machine_compiler.proofs.lines.print_tries.Given as goal

-- what is written, with what is left, is the whole
abbrev pub invariant-loop-k : goal.invariant-loop-k
invariant-loop-k l =
    l.text ++ side_by_side (tries_line l.fn.journal) l.k (drop l.k l.fn.r.net.now.machines)
    (parts_of (drop l.k l.compiled)) ≡ tries_text l.fn.r.net.now (parts_of l.compiled) l.fn.journal
