use Rattle.net_reader.specs.Lexemes.{num_of}
use Rattle.net_reader.specs.Reading.{num_at}
use Rattle.net_reader.proofs.NextToken.{next_none, next_some, next_long}
use Rattle.std.proofs.Common.{sym}
use Rattle.net_reader.proofs.reader.Reader.num.Goals as goal

pub skip-requires : goal.skip-requires
skip-requires c = next_long num_of c.args.self.now c.in-Some.num (sym c.in-Some.ensures)

pub returns-in-None : goal.returns-in-None
unfolding num_at
returns-in-None c = next_none num_of c.args.self.now (sym c.in-None.ensures)

pub returns-in-Some : goal.returns-in-Some
unfolding num_at
returns-in-Some c =
    rw c.skip.ensures (next_some num_of c.args.self.now c.in-Some.num (sym c.in-Some.ensures))
