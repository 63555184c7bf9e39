use Rattle.std.proofs.Common.{map, drop, option_copied}
use Rattle.journal_text.specs.Items.{as_state, all_values}
use Rattle.journal_text.specs.Cursors.{items_in}
use Rattle.polis_base.specs.Pieces.{left}
use Rattle.journal_text.proofs.ReadItems.{Taken}
use Rattle.journal_text.proofs.codes.push_values.Given as goal

-- the items of the state variables before this one are read
abbrev pub invariant-loop-variable : goal.invariant-loop-variable
invariant-loop-variable l =
    Taken (all_values l.net) (map as_state l.states) (items_in l.list) l.fn.into l.into
    (map as_state (drop l.variable-index l.states)) (left 32 (option_copied l.items))
