use Rattle.std.proofs.Common.{◌≡◌, ◌++◌, drop, flat_map}
use Rattle.commands.specs.Lint.{table_text}
use Rattle.commands.proofs.lint.push_tables.Given as goal

-- what is written, with what the tables that are left leave open, is the whole
abbrev pub invariant-loop-m : goal.invariant-loop-m
invariant-loop-m l = l.into ++ flat_map (table_text l.net) (drop l.m l.net.machines)
    ≡ l.fn.into ++ flat_map (table_text l.net) l.net.machines
