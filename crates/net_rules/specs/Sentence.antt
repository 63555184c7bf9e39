-- What the declarations of a sentence have.
use Rattle.std.specs.Prelude.{◌≡◌, Bool, true, false, [], ◌∷◌}
use Rattle.std.specs.List.{list_all}
use Rattle.net_reader.specs.Layout.{IsOfSentence}
use Rattle.net_reader.specs.declared.raw.RawShape.{RawShape}
use Rattle.net_reader.specs.declared.raw.RawShape.TheVariants as shapes
use Rattle.net_reader.specs.declared.raw.RawDomain.{RawDomain}
use Rattle.net_reader.specs.declared.raw.RawNet.{RawNet}

-- an enumerated domain has a value
abbrev pub has_value : RawShape → Bool
has_value (shapes.Names []) = false
has_value (shapes.Names (word ∷ words)) = true
has_value (shapes.Range first last) = true

-- the domains of a sentence have values
abbrev pub SentencesHaveValues : Type 0
SentencesHaveValues = (net : RawNet) → IsOfSentence net
    → list_all (λ (d : RawDomain). has_value d.shape) net.domains ≡ true
