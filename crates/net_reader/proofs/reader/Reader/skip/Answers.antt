use Rattle.std.proofs.Common.{◌+◌, drop, ap, sym, ◌∙◌}
use Rattle.net_reader.specs.Lexemes.{lexemes}
use Rattle.net_reader.specs.Pieces.{left}
use Rattle.net_reader.proofs.NextToken.{left_after, stands_after}
use Rattle.net_reader.proofs.reader.Reader.skip.Goals as goal

pub invariant_of-self : goal.invariant_of-self
invariant_of-self c =
    stands_after c.self.inside.text.now (c.in-Some.token.at + c.in-Some.token.len)
    c.go_to.new.next c.go_to.ensures.some

pub returns-in-Some : goal.returns-in-Some
returns-in-Some c =
    let text = c.self.inside.text.now in
    let token = c.in-Some.token in
    let e = left_after text (token.at + token.len) c.go_to.new.next
    c.go_to.ensures.some c.go_to.ensures.none in
    ap (lexemes text) e ∙ ap (λ next. drop 1 (lexemes text (left text next))) (sym c.in-Some.is)
    ∙ ap (drop 1) c.self.view_is
