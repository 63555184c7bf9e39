use Rattle.std.proofs.Common.{◌≡◌, length}
use Rattle.net_reader.specs.Reading.{listed, with_before}
use Rattle.net_reader.proofs.lists.listed.Given as goal

-- the parts so far and the list from here on are the whole list
abbrev pub invariant-loop-made : goal.invariant-loop-made
invariant-loop-made g l =
    with_before l.made (listed (g.T.Part.rule l.version) l.reader)
    ≡ listed (g.T.Part.rule l.fn.version) l.fn.reader

abbrev pub decreases-loop-made : goal.decreases-loop-made
decreases-loop-made g l = length l.reader
