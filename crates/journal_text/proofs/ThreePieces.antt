-- Words of which there are just three, and decimal words.
use Rattle.std.proofs.Common.{◌≡◌, ◌≢◌, ℕ, ◌<◌, ◌^◌, ◌∷◌, Option, Some, None, refl, sym, ◌∙◌, ap}
use Rattle.std.specs.Prelude.{decimal}
use Rattle.journal_text.specs.Forms.{Text, Texts, decimal_of}
use Rattle.polis_base.specs.Pieces.{pieces}
use Rattle.polis_base.proofs.TextPieces.{some_piece}
use Rattle.journal_text.proofs.Decimals.{decimal_read, decimal_is}

-- what is made of four pieces or more
pub four_pieces : {A : Type 0} (f : Texts → A) (none : A)
    → ((a b c d : Text) (ws : Texts) → f (a ∷ b ∷ c ∷ d ∷ ws) ≡ none) → (t u v w a b c : Text)
    → pieces 32 t ≡ a ∷ pieces 32 u → pieces 32 u ≡ b ∷ pieces 32 v
    → pieces 32 v ≡ c ∷ pieces 32 w → f (pieces 32 t) ≡ none
four_pieces f none more t u v w a b c p q r =
    let s = some_piece 32 w in
    ap f (p ∙ ap (λ ws. a ∷ ws) (q ∙ ap (λ ws. b ∷ ws) (r ∙ ap (λ ws. c ∷ ws) s.2)))
    ∙ more a b c s.0 s.1

pub decimal_some : (text : Text) (n : ℕ) → n < 2 ^ 64 → text ≡ decimal n → Some n ≡ decimal_of text
decimal_some text n below is = sym (ap decimal_of is ∙ decimal_read n below)

pub decimal_none : (text : Text) → ((n : ℕ) → n < 2 ^ 64 → text ≢ decimal n)
    → None ≡ decimal_of text
decimal_none text none = go (decimal_of text) refl
  where
    go : (o : Option ℕ) → decimal_of text ≡ o → None ≡ decimal_of text
    go None e = sym e
    go (Some n) e =
        let d = decimal_is text n e in
        absurd (none n d.1 d.0)
