use Rattle.std.proofs.Common.{◌∙◌, sym, Some, ap}
use Rattle.polis_base.specs.Lists.{head_of}
use Rattle.net_reader.specs.Lexemes.{lexemes}
use Rattle.net_reader.specs.Pieces.{left}
use Rattle.net_reader.proofs.reader.Reader.peek.Goals as goal

pub returns-in-Some-clause-seen : goal.returns-in-Some-clause-seen
returns-in-Some-clause-seen c =
    let text = c.self.inside.text.now in
    ap Some c.piece_of.ensures ∙ ap (λ next. head_of (lexemes text (left text next)))
    (sym c.in-Some.is) ∙ ap head_of c.self.view_is
