use Rattle.std.proofs.Common.{◌≡◌, length}
use Rattle.net_reader.specs.Reading.{is, many, with_before}
use Rattle.net_reader.proofs.lists.more.Given as goal

abbrev pub invariant-loop-begins : goal.invariant-loop-begins
invariant-loop-begins g l =
    with_before l.made (many (is l.begins) (g.T.Part.rule l.version) l.reader)
    ≡ with_before l.fn.made (many (is l.fn.begins) (g.T.Part.rule l.fn.version) l.fn.reader)

abbrev pub decreases-loop-begins : goal.decreases-loop-begins
decreases-loop-begins g l = length l.reader
