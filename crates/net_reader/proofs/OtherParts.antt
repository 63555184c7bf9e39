-- Tokens of one part and then of another, where one of them is of another part too.
use Rattle.std.proofs.Common.{List}
use Rattle.net_reader.specs.Lexemes.{Lexeme}
use Rattle.net_reader.specs.Grammar.{Part, ◌⨾◌}

pub with_rest : {P Q R : Part} {ts : List Lexeme} → (f : (P ⨾ Q) ts) → R f.1 → (P ⨾ R) ts
with_rest f rest = (f.0, f.1, f.2, f.3, rest)

pub with_both : {P Q S R : Part} {ts : List Lexeme} → (f : (P ⨾ Q) ts) → S f.0 → R f.1
    → (S ⨾ R) ts
with_both f first rest = (f.0, f.1, f.2, first, rest)
