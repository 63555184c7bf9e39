use Rattle.std.proofs.Common.{◌≡◌, ◌++◌, drop}
use Rattle.polis_base.specs.Lists.{numbered}
use Rattle.commands.specs.Lint.{domain_text}
use Rattle.commands.proofs.lint.push_domains.Given as goal

-- what is written, with the lines of the domains that are left, is the whole
abbrev pub invariant-loop-d : goal.invariant-loop-d
invariant-loop-d l =
    l.into ++ numbered (domain_text l.unused) l.d (drop l.d l.raw.domains)
    ≡ l.fn.into ++ numbered (domain_text l.unused) 0 l.raw.domains
