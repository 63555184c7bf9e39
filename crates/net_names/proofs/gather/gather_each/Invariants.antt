-- What was gathered and what is left give what the whole gives.
use Rattle.std.proofs.Common.{◌≡◌, ◌++◌, flat_map, drop}
use Rattle.net_names.proofs.gather.gather_each.Given as goal

abbrev pub invariant-loop-item : goal.invariant-loop-item
invariant-loop-item g l = l.words ++ flat_map (g.G.Gather.words l.from) (drop l.item-index l.items)
    ≡ flat_map (g.G.Gather.words l.from) l.fn.items
