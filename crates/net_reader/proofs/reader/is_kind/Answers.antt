use Rattle.net_reader.proofs.NextToken.{tested}
use Rattle.net_reader.proofs.reader.is_kind.Goals as goal

pub returns : goal.returns
returns c = tested c.same.result c.args.kind c.args.wanted c.requires c.same.ensures.there
    c.same.ensures.back
