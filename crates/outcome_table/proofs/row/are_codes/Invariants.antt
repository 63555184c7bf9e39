use Rattle.std.proofs.Common.{◌≡◌, true, take}
use Rattle.std.specs.List.{list_all}
use Rattle.outcome_table.specs.inner.Numbering.{is_fixed}
use Rattle.outcome_table.proofs.row.are_codes.Given as goal

-- those before this one are
abbrev pub invariant-loop-act : goal.invariant-loop-act
invariant-loop-act l = list_all is_fixed (take l.act-index l.acts) ≡ true
