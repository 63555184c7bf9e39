use Rattle.std.proofs.Common.{◌≡◌, ◌++◌, drop}
use Rattle.machine_compiler.specs.Lines.{code_tries_line, code_tries_text, side_by_side}
use Rattle.machine_compiler.proofs.lines.print_code_tries.Given as goal

-- what is written, with what is left, is the whole
abbrev pub invariant-loop-k : goal.invariant-loop-k
invariant-loop-k l =
    l.text ++ side_by_side (code_tries_line l.fn.journal) l.k (drop l.k l.fn.r.net.now.machines)
    (drop l.k l.fn.r.codes) ≡ code_tries_text l.fn.r.net.now l.fn.r.codes l.fn.journal
