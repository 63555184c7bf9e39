use Rattle.std.proofs.Common.{◌≡◌, drop}
use Rattle.table_use.specs.inner.Emitting.{gives_some}
use Rattle.table_use.proofs.emitting.gives_some.Given as goal

-- none of the actions before this one names the result
abbrev pub invariant-loop-act : goal.invariant-loop-act
invariant-loop-act l =
    gives_some (drop l.act-index l.act-items) l.y ≡ gives_some l.row.acts l.y
