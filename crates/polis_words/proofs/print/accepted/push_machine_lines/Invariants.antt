use Rattle.std.proofs.Common.{◌≡◌, ◌++◌, drop}
use Rattle.std.specs.Prelude.{flat_map}
use Rattle.polis_words.specs.Texts.{machine_line}
use Rattle.polis_words.proofs.print.accepted.push_machine_lines.Given as goal

-- what is written, with the lines of the machines that are left, is the whole
abbrev pub invariant-loop-machine : goal.invariant-loop-machine
invariant-loop-machine l = l.into ++ flat_map machine_line (drop l.machine-index l.machine-items)
    ≡ l.fn.into ++ flat_map machine_line l.fn.net.machines
