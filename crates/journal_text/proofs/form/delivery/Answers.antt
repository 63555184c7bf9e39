use Rattle.std.proofs.Common.{◌≡◌, Bool, true, false, ◌&&◌, [], ◌∷◌, Some, None, refl}
use Rattle.std.specs.List.{list_all}
use Rattle.journal_text.specs.Forms.{Text, Texts, DepForm, words_of, dep_form, is_word}
use Rattle.journal_text.proofs.ThreePieces.{four_pieces}
use Rattle.journal_text.proofs.form.delivery.Goals as goal

three_false : (a b d : Bool) → (a && (b && (d && true))) ≡ false → (a && b && d) ≡ false
three_false true true true h = h
three_false true true false h = refl
three_false true false d h = refl
three_false false b d h = refl

-- words of which one is none are no delivery
not_words : (ws : Texts) → list_all is_word ws ≡ false → dep_form ws ≡ None
not_words [] h = refl
not_words (a ∷ []) h = refl
not_words (a ∷ b ∷ []) h = refl
not_words (a ∷ b ∷ d ∷ []) h = rw (three_false (is_word a) (is_word b) (is_word d) h) refl
not_words (a ∷ b ∷ d ∷ e ∷ ws) h = refl

later_false : (a : Text) (ws vs : Texts) → ws ≡ a ∷ vs → is_word a ≡ true
    → list_all is_word vs ≡ false → list_all is_word ws ≡ false
later_false a ws vs p good h = rw (p, good) h

three_are : (a b d : Text) (ws vs us : Texts) → ws ≡ a ∷ vs → vs ≡ b ∷ us → us ≡ d ∷ []
    → is_word a ≡ true → is_word b ≡ true → is_word d ≡ true
    → dep_form ws ≡ Some (DepForm a b d)
three_are a b d ws vs us p q r x y z = rw (p, q, r, x, y, z) refl

one_is_none : (a : Text) (ws : Texts) → ws ≡ a ∷ [] → dep_form ws ≡ None
one_is_none a ws p = rw p refl

two_are_none : (a b : Text) (ws vs : Texts) → ws ≡ a ∷ vs → vs ≡ b ∷ [] → dep_form ws ≡ None
two_are_none a b ws vs p q = rw (p, q) refl

pub returns-in-None-clause-some : goal.returns-in-None-clause-some
returns-in-None-clause-some c =
    three_are c.in-Some.from.now c.in-Some-next_word.to.now c.in-Some-next_word-2.event.now _ _ _
    (rw c.in-Some-after.is at c.in-Some.ensures.some)
    (rw c.in-Some-after-2.is at c.in-Some-next_word.ensures.some)
    (rw c.in-None.is at c.in-Some-next_word-2.ensures.some)
    c.in-Some.ensures.word c.in-Some-next_word.ensures.word c.in-Some-next_word-2.ensures.word

pub returns-in-Some-after-3-clause-none : goal.returns-in-Some-after-3-clause-none
returns-in-Some-after-3-clause-none c =
    four_pieces dep_form None (λ a b d e ws. refl) c.args.words.now c.in-Some-after.rest.now
    c.in-Some-after-2.rest.now c.in-Some-after-3.field-0.now _ _ _
    (rw c.in-Some-after.is at c.in-Some.ensures.some)
    (rw c.in-Some-after-2.is at c.in-Some-next_word.ensures.some)
    (rw c.in-Some-after-3.is at c.in-Some-next_word-2.ensures.some)

pub returns-in_default-clause-none : goal.returns-in_default-clause-none
returns-in_default-clause-none c = not_words (words_of c.args.words.now) c.in_default.ensures.none

pub returns-in_default-after-clause-none : goal.returns-in_default-after-clause-none
returns-in_default-after-clause-none c =
    one_is_none _ _ (rw c.in_default-after.is at c.in-Some.ensures.some)

pub returns-in_default-next_word-clause-none : goal.returns-in_default-next_word-clause-none
returns-in_default-next_word-clause-none c =
    not_words (words_of c.args.words.now)
    (later_false c.in-Some.from.now _ (words_of c.in-Some-after.rest.now)
    (rw c.in-Some-after.is at c.in-Some.ensures.some)
    c.in-Some.ensures.word c.in_default-next_word.ensures.none)

pub returns-in_default-after-2-clause-none : goal.returns-in_default-after-2-clause-none
returns-in_default-after-2-clause-none c =
    two_are_none _ _ _ _ (rw c.in-Some-after.is at c.in-Some.ensures.some)
    (rw c.in_default-after-2.is at c.in-Some-next_word.ensures.some)

pub returns-in_default-next_word-2-clause-none : goal.returns-in_default-next_word-2-clause-none
returns-in_default-next_word-2-clause-none c =
    not_words (words_of c.args.words.now)
    (later_false c.in-Some.from.now _ (words_of c.in-Some-after.rest.now)
    (rw c.in-Some-after.is at c.in-Some.ensures.some)
    c.in-Some.ensures.word
    (later_false c.in-Some-next_word.to.now _ (words_of c.in-Some-after-2.rest.now)
    (rw c.in-Some-after-2.is at c.in-Some-next_word.ensures.some)
    c.in-Some-next_word.ensures.word c.in_default-next_word-2.ensures.none))
