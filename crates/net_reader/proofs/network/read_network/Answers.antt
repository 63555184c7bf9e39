use Rattle.net_reader.proofs.Sentences.{ok_clause, ok_there_clause, syntax_clause, syntax_there_clause}
use Rattle.net_reader.proofs.LastToken.{last_missing_clause}
use Rattle.net_reader.proofs.network.read_network.Goals as goal

pub returns-clause-ok : goal.returns-clause-ok
returns-clause-ok c = ok_clause c.args.text.now c.read.result c.read.ensures.settled

pub returns-clause-ok_there : goal.returns-clause-ok_there
returns-clause-ok_there c = ok_there_clause c.args.text.now c.read.result c.read.ensures.settled

pub returns-clause-syntax : goal.returns-clause-syntax
returns-clause-syntax c = syntax_clause c.args.text.now c.read.result c.read.ensures.settled

pub returns-clause-syntax_there : goal.returns-clause-syntax_there
returns-clause-syntax_there c =
    syntax_there_clause c.args.text.now c.read.result c.read.ensures.settled

pub returns-clause-last_missing : goal.returns-clause-last_missing
returns-clause-last_missing c =
    last_missing_clause c.args.text.now c.read.result c.read.ensures.settled
