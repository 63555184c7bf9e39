-- The words of a list.
use Rattle.std.proofs.Common.{◌≡◌, [], ◌∷◌, ◌++◌, refl, sym, ap}
use Rattle.std.specs.Prelude.{flat_map}
use Rattle.std.proofs.lemmas.List.{append-nil}
use Rattle.journal_text.specs.Texts.{spaced, space}
use Rattle.journal_text.specs.Forms.{Text, Texts, dash}
use Rattle.polis_base.proofs.TextPieces.{joined_by}

-- items, or `-` where there is none
abbrev pub words_in : Texts → Texts
words_in [] = dash ∷ []
words_in (item ∷ items) = item ∷ items

pub spaced_joined : (items : Texts) → spaced items ≡ joined_by 32 (words_in items)
spaced_joined [] = refl
spaced_joined (item ∷ items) = sym (go item items)
  where
    go : (item : Text) (items : Texts)
        → joined_by 32 (item ∷ items) ≡ item ++ flat_map (λ next. space ++ next) items
    go item [] = sym (append-nil item)
    go item (next ∷ items) = ap (λ t. item ++ 32 ∷ t) (go next items)
