-- Two lists with a sign between them.
use Rattle.std.proofs.Common.{◌≡◌, true, [], Option, Some, None, is_some, inl, inr, refl, ◌∙◌, ap}
use Rattle.std.specs.Option.{option_and_then}
use Rattle.std.specs.Prelude.{unwrap_or}
use Rattle.std.proofs.lemmas.Bool.{false≢true}
use Rattle.journal_text.specs.Forms.{Texts, list_of, before, after, both, two_lists, four_lists, semicolon, arrow}
use Rattle.journal_text.specs.Cursors.{CutAt, NoCut}

pub lists_cut : (ws prefix rest : Texts) → CutAt semicolon ws prefix rest
    → two_lists ws ≡ both (list_of prefix) (list_of rest)
lists_cut ws prefix rest cut =
    ap (λ f. both (list_of f) (option_and_then list_of (after semicolon ws))) cut.0
    ∙ ap (λ o. both (list_of prefix) (option_and_then list_of o)) cut.1

pub both_lists : (a b : Option Texts) → is_some a ≡ true → is_some b ≡ true
    → both a b ≡ Some (unwrap_or a [], unwrap_or b [])
both_lists (Some a) (Some b) p q = refl
both_lists None b p q = absurd (false≢true p)
both_lists (Some a) None p q = absurd (false≢true q)

-- no list of two answers, where the second is none
pub no_second : {A B : Type 0} (o : Option A) → both {A = A} {B = B} o None ≡ None
no_second None = refl
no_second (Some a) = refl

-- where the arrow is missing, or nothing stands on one side of it, there aren't four lists
pub not_four : (ws : Texts) → NoCut arrow ws → four_lists ws ≡ None
not_four ws (inl none) =
    ap (λ o. both (two_lists (before arrow ws)) (option_and_then two_lists o)) none
    ∙ no_second (two_lists (before arrow ws))
not_four ws (inr (inl none)) =
    ap (λ prefix. both (two_lists prefix) (option_and_then two_lists (after arrow ws))) none
not_four ws (inr (inr none)) =
    ap (λ o. both (two_lists (before arrow ws)) (option_and_then two_lists o)) none
    ∙ no_second (two_lists (before arrow ws))
