use Rattle.commands.proofs.ranges.push_range_of.Goals as goal

pub returns : goal.returns
returns c = record {
  range = c.in_ok-range.range;
  is = c.in_ok-range.ensures;
  added = c.in_ok-push_range.ensures;
}
