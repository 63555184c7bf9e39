use Rattle.std.proofs.Common.{◌≡◌, List, ℕ}
use Rattle.net_names.specs.Tables.{number_at}
use Rattle.transition_table.specs.declared.machine.Machine.{Machine}
use Rattle.journal_text.proofs.NameNumbers.{first_of}
use Rattle.journal_text.proofs.index.number_machines.Given as goal

-- those before this one have their numbers
abbrev pub invariant-loop-m : goal.invariant-loop-m
invariant-loop-m l = (word : List ℕ)
    → number_at l.table word ≡ first_of (λ (machine : Machine). machine.name) l.net.machines l.m word
