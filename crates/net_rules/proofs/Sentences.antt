-- The domains of a sentence have values.
use Rattle.std.proofs.Common.{◌≡◌, ◌&&◌, true, List, [], ◌∷◌, refl}
use Rattle.std.specs.List.{list_all}
use Rattle.net_reader.specs.Lexemes.{Lexeme}
use Rattle.net_reader.specs.Grammar.{IsDomain, IsShape, Each}
use Rattle.net_reader.specs.declared.raw.RawShape.{RawShape}
use Rattle.net_reader.specs.declared.raw.RawShape.TheVariants as shapes
use Rattle.net_reader.specs.declared.raw.RawDomain.{RawDomain}
use Rattle.net_rules.specs.Sentence.{has_value, SentencesHaveValues}

shape_value : (shape : RawShape) (ts : List Lexeme) → IsShape shape ts → has_value shape ≡ true
shape_value (shapes.Names []) ts h = absurd h.4.3
shape_value (shapes.Names (word ∷ words)) ts h = refl
shape_value (shapes.Range first last) ts h = refl

all_values : (domains : List RawDomain) (ts : List Lexeme) → Each IsDomain domains ts
    → list_all (λ (d : RawDomain). has_value d.shape) domains ≡ true
all_values [] ts h = refl
all_values (d ∷ domains) ts h =
    let own = shape_value d.shape h.3.4.4.1 h.3.4.4.4 in
    let rest = all_values domains h.1 h.4 in
    λ i. own i && rest i

pub sentences_have_values : SentencesHaveValues
sentences_have_values net h = let n = h.1 in all_values net.domains n.4.4.4.4.0 n.4.4.4.4.3
