-- What `lint` shows.
use Rattle.std.specs.Prelude.{ℕ, cond, List, [], ◌++◌, flat_map}
use Rattle.transition_table.specs.NetworkFacts.{has}
use Rattle.transition_table.specs.declared.machine.Machine.{Machine}
use Rattle.transition_table.specs.declared.network.Network.{Network}
use Rattle.net_reader.specs.declared.raw.RawDomain.{RawDomain}
use Rattle.net_reader.specs.declared.raw.RawNet.{RawNet}
use Rattle.polis_base.specs.Lists.{numbered}
use Rattle.table_use.specs.DomainUse.{unused_domains, unused_domain_line}
use Rattle.table_use.specs.Lint.{lint_of}
use Rattle.table_use.specs.LintLines.{lint_text}

-- what the table of a machine leaves open
abbrev pub table_text : Network → Machine → List ℕ
table_text net machine = lint_text net machine (lint_of machine)

-- the line of the declared domain of number d, where it is among those that are unused
abbrev pub domain_text : List ℕ → ℕ → RawDomain → List ℕ
domain_text unused d domain = cond (has unused d) (unused_domain_line domain.name.name) []

-- what the tables of the machines leave open, and the domains that no event and no state variable
-- has, by the names that they are declared with
abbrev pub tables_text : RawNet → Network → List ℕ
tables_text raw net =
    flat_map (table_text net) net.machines
    ++ numbered (domain_text (unused_domains net)) 0 raw.domains
