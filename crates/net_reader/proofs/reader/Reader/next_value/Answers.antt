use Rattle.net_reader.specs.Lexemes.{value_of}
use Rattle.net_reader.specs.Pieces.{seen}
use Rattle.net_reader.proofs.NextToken.{head_next, no_next}
use Rattle.std.proofs.Common.{◌∙◌}
use Rattle.net_reader.proofs.reader.Reader.next_value.Goals as goal

pub returns-in-Some : goal.returns-in-Some
returns-in-Some c = c.value_of.ensures
    ∙ head_next value_of c.args.self.now (seen c.in-Some.piece) c.in-Some.ensures.seen

pub returns-in-None : goal.returns-in-None
returns-in-None c = no_next value_of c.args.self.now c.in-None.ensures.seen
