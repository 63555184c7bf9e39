-- The first piece of a text, by the bytes that words have.
use Rattle.std.proofs.Common.{◌≡◌, ◌<◌, ◌+◌, ◌-◌, ℕ, suc, Bool, true, false, not, ◌&&◌, ◌==◌, cond, [], ◌∷◌, length, take, drop, get_or, refl, ap, ◌∙◌, sym, arith}
use Rattle.std.specs.List.{list_all, prefix_len}
use Rattle.std.proofs.lemmas.List.{take_all}
use Rattle.journal_text.specs.Forms.{Text, Texts, words_of, is_word, is_word_byte, is_sign}
use Rattle.polis_base.specs.Pieces.{with_byte}
use Rattle.std.proofs.lemmas.Bool.{and_from}
use Rattle.polis_base.proofs.TextPieces.{pieces_at, pieces_end, some_piece}
use Rattle.polis_base.proofs.FirstMark.{cut_slice}
use Rattle.journal_text.proofs.IsWord.{byte_differs, word_lacks_space}

-- how many bytes that words have a text begins with
abbrev pub plain_len : Text → ℕ
plain_len text = prefix_len is_word_byte text

pub plain_prefix : (text : Text) → list_all is_word_byte (take (plain_len text) text) ≡ true
plain_prefix [] = refl
plain_prefix (c ∷ text) = by (is_word_byte c) refl (plain_prefix text)
  where
    by : (b : Bool) → is_word_byte c ≡ b
        → list_all is_word_byte (take (plain_len text) text) ≡ true
        → list_all is_word_byte (take (cond b (1 + plain_len text) 0) (c ∷ text)) ≡ true
    by true h rest = let next : 1 + plain_len text ≡ suc (plain_len text) = omega arith in
        rw next (and_from _ _ h rest)
    by false h rest = refl

-- the whole text is a piece
pub plain_whole : (text : Text) → plain_len text ≡ length text
    → list_all is_word_byte text ≡ true
plain_whole text all =
    ap (list_all is_word_byte) (sym (take_all (plain_len text) text (omega (arith, all))))
    ∙ plain_prefix text

pub plain_end : (text : Text) → plain_len text ≡ length text → words_of text ≡ text ∷ []
plain_end text all = pieces_end 32 text (word_lacks_space text (plain_whole text all))

-- the piece that a space ends
pub plain_at : (text : Text) → plain_len text < length text
    → get_or text (plain_len text) 0 ≡ 32
    → words_of text ≡ take (plain_len text) text
    ∷ words_of (take (length text - (plain_len text + 1)) (drop (plain_len text + 1) text))
plain_at text below space =
    ap words_of (cut_slice 32 text (plain_len text) below space)
    ∙ pieces_at 32 _ _ (word_lacks_space (take (plain_len text) text) (plain_prefix text))

-- the first piece has a byte that no word has
abbrev pub BadFirst : Texts → Type 0
BadFirst [] = ⊥
BadFirst (w ∷ ws) = list_all is_word_byte w ≡ false

bad_first : (text : Text) → plain_len text < length text
    → (get_or text (plain_len text) 0 == 32) ≡ false → BadFirst (words_of text)
bad_first [] below other = absurd (omega arith)
bad_first (c ∷ text) below other =
    let s = some_piece 32 text in
    by (is_word_byte c) refl s.0 s.1 s.2 below other (λ b o. bad_first text b o)
  where
    by : (b : Bool) → is_word_byte c ≡ b → (w : Text) (ws : Texts) → words_of text ≡ w ∷ ws
        → cond b (1 + plain_len text) 0 < length (c ∷ text)
        → (get_or (c ∷ text) (cond b (1 + plain_len text) 0) 0 == 32) ≡ false
        → (plain_len text < length text → (get_or text (plain_len text) 0 == 32) ≡ false
        → BadFirst (words_of text)) → BadFirst (with_byte (c == 32) c (words_of text))
    by true h w ws is below other more =
        let next : 1 + plain_len text ≡ suc (plain_len text) = omega arith in
        let first : (c == 32) ≡ false = byte_differs is_word_byte 32 c refl h in
        let rest = more (omega (arith, below)) (rw next at other) in
        let bad = rw is at rest in
        rw (first, is) (ap (λ b. b && list_all is_word_byte w) h ∙ bad)
    by false h w ws is below other more =
        rw (other, is) (ap (λ b. b && list_all is_word_byte w) h)

no_word : (ws : Texts) → BadFirst ws → list_all is_word ws ≡ false
no_word [] bad = absurd bad
no_word ([] ∷ ws) bad = refl
no_word ((c ∷ w) ∷ ws) bad = ap (λ b. (b && not (is_sign (c ∷ w))) && list_all is_word ws) bad

pub bad_word : (text : Text) → plain_len text < length text
    → (get_or text (plain_len text) 0 == 32) ≡ false → list_all is_word (words_of text) ≡ false
bad_word text below other = no_word (words_of text) (bad_first text below other)
