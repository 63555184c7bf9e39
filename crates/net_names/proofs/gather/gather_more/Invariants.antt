-- What was put after and what is left are the whole.
use Rattle.std.proofs.Common.{◌≡◌, ◌++◌, flat_map, drop}
use Rattle.net_names.proofs.gather.gather_more.Given as goal

abbrev pub invariant-loop-item : goal.invariant-loop-item
invariant-loop-item g l = l.into ++ flat_map (g.G.Gather.words l.from) (drop l.item-index l.items)
    ≡ l.fn.into ++ flat_map (g.G.Gather.words l.from) l.fn.items
