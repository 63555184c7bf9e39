use Rattle.std.proofs.Common.{◌≡◌, ◌++◌, codes, drop}
use Rattle.polis_base.specs.Lines.{line}
use Rattle.task_code.specs.Listings.{parts_text}
use Rattle.machine_compiler.specs.Parts.{parts_of}
use Rattle.machine_compiler.proofs.listing.print_listing.Given as goal

-- what is written, with what is left, is the first line and all parts
abbrev pub invariant-loop-k : goal.invariant-loop-k
invariant-loop-k l =
    l.text ++ parts_text l.net (drop l.k l.net.machines) (parts_of (drop l.k l.compiled))
    ≡ line (codes "polis listing 1") ++ parts_text l.net l.net.machines (parts_of l.compiled)
