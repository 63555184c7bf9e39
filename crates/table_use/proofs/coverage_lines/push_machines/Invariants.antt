use Rattle.std.proofs.Common.{◌≡◌, ◌++◌, flat_map}
use Rattle.std.specs.List.{zip}
use Rattle.table_use.specs.CoverageLines.{machine_text}
use Rattle.table_use.proofs.Written.{paired_from}
use Rattle.table_use.proofs.coverage_lines.push_machines.Given as goal

-- what is written, with the lines of the machines that are left, is the whole
abbrev pub invariant-loop-m : goal.invariant-loop-m
invariant-loop-m l =
    l.into ++ paired_from (machine_text l.net) l.m l.net.machines l.used
    ≡ l.fn.into ++ flat_map (machine_text l.net) (zip l.net.machines l.used)
