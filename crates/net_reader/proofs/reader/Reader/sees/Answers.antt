use Rattle.std.proofs.Common.{◌∙◌, sym, ap}
use Rattle.polis_base.specs.Lists.{head_of}
use Rattle.net_reader.specs.Lexemes.{lexeme, lexemes}
use Rattle.net_reader.specs.Pieces.{left}
use Rattle.net_reader.specs.Reading.{is}
use Rattle.net_reader.proofs.NextToken.{head_begins, no_begins}
use Rattle.net_reader.proofs.reader.Reader.sees.Goals as goal

pub returns-in-Some : goal.returns-in-Some
returns-in-Some c =
    let text = c.self.inside.text.now in
    c.is_kind.ensures
    ∙ head_begins (is c.args.kind) c.args.self.now (lexeme text c.in-Some.token)
    (ap (λ next. head_of (lexemes text (left text next))) (sym c.in-Some.is)
    ∙ ap head_of c.self.view_is)

pub returns-in-None : goal.returns-in-None
returns-in-None c =
    let text = c.self.inside.text.now in
    no_begins (is c.args.kind) c.args.self.now
    (ap (λ next. head_of (lexemes text (left text next))) (sym c.in-None.is)
    ∙ ap head_of c.self.view_is)
