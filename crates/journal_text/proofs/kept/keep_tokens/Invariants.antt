use Rattle.std.proofs.Common.{◌≡◌, true, take}
use Rattle.std.specs.List.{list_all}
use Rattle.polis_base.specs.Names.{is_name}
use Rattle.journal_text.proofs.kept.keep_tokens.Given as goal

-- the names before this one are name tokens
abbrev pub invariant-loop-i : goal.invariant-loop-i
invariant-loop-i l = list_all is_name (take l.i l.names) ≡ true
