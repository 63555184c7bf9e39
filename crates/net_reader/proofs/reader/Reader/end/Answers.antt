use Rattle.net_reader.specs.Pieces.{seen}
use Rattle.net_reader.proofs.NextToken.{end_yes, end_no}
use Rattle.net_reader.proofs.reader.Reader.end.Goals as goal

pub returns-in-Some : goal.returns-in-Some
returns-in-Some c = end_no c.args.self.now (seen c.in-Some.field-0) c.in-Some.ensures.seen

pub returns-in-None : goal.returns-in-None
returns-in-None c = end_yes c.args.self.now c.in-None.ensures.seen
