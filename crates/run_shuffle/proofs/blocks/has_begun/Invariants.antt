use Rattle.std.proofs.Common.{◌≡◌, length, take}
use Rattle.std.specs.List.{list_any}
use Rattle.polis_base.specs.Lists.{upto}
use Rattle.transition_table.specs.NetworkFacts.{has}
use Rattle.transition_table.specs.declared.decl.Party.TheVariants.{Env}
use Rattle.journals.specs.Journals.{delivered}
use Rattle.run_shuffle.specs.Blocks.{blocks_to}
use Rattle.run_shuffle.proofs.blocks.has_begun.Given as goal

-- the machines before this one are looked at
abbrev pub invariant-loop-m : goal.invariant-loop-m
invariant-loop-m l =
    l.begun
    ≡ list_any
    (λ m. has
    (take (length (delivered Env m l.config.journal)) (blocks_to l.config.net l.config.trace m))
    l.block) (upto l.m)
