use Rattle.std.proofs.Common.{◌≡◌, ◌++◌, take}
use Rattle.std.specs.List.{flat_map}
use Rattle.wave_text.specs.inner.Changing.{value_change}
use Rattle.wave_text.proofs.change.push_values.Given as goal

-- what those before this one change stands at the end
abbrev pub invariant-loop-out : goal.invariant-loop-out
invariant-loop-out l =
    l.changes.items
    ≡ l.fn.changes.items ++ flat_map (value_change l.outs l.values) (take l.out-index l.out_values)
