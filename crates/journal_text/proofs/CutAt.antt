-- Words that are walked from the first to the last.
use Rattle.std.proofs.Common.{◌≡◌, ◌≢◌, ◌+◌, ◌-◌, length-drop, ℕ, suc, Bool, true, false, not, ◌&&◌, ◌||◌, ◌==◌, cond, [], ◌∷◌, ◌++◌, ◌⊎◌, inl, inr, length, take, drop, Option, Some, None, is_some, refl, ap, ◌∙◌, arith, sym, subst}
use Rattle.std.specs.Prelude.{unwrap_or}
use Rattle.std.specs.List.{list_all}
use Rattle.std.proofs.lemmas.Bool.{not_from_false, not-true, eq-eqb, and_parts, false≢true, and_from}
use Rattle.std.proofs.lemmas.List.{take_all, take_at, drop_at, append_assoc, length-append}
use Rattle.domains.specs.Names.{is_same}
use Rattle.journal_text.specs.Forms.{Text, Texts, words_of, is_word, list_of, dash, before, after}
use Rattle.polis_base.specs.Pieces.{pieces, with_byte, lacks}
use Rattle.journal_text.specs.Cursors.{items_in, CutAt, NoCut}
use Rattle.domains.proofs.Names.{same_texts, texts_same, same_self}
use Rattle.polis_base.proofs.TextPieces.{pieces_at, pieces_end, some_piece, joined_by, joined_pieces}
use Rattle.journal_text.proofs.FormWords.{avoids, before_at, after_at, words_of_list}
use Rattle.polis_base.proofs.Lists.{all_append}

pub to_the_end : (bytes : Text) (n : ℕ) → take (length bytes - n) (drop n bytes) ≡ drop n bytes
to_the_end bytes n = take_all (length bytes - n) (drop n bytes) (omega (arith, length-drop n bytes))

with_both : (b : Bool) (c : ℕ) (w : Text) (ws more : Texts)
    → with_byte b c ((w ∷ ws) ++ more) ≡ with_byte b c (w ∷ ws) ++ more
with_both true c w ws more = refl
with_both false c w ws more = refl

-- the pieces of two texts with the mark between
pub pieces_both : (mark : ℕ) (x y : Text)
    → pieces mark (x ++ mark ∷ y) ≡ pieces mark x ++ pieces mark y
pieces_both mark [] y = rw (eq-eqb mark mark refl) refl
pieces_both mark (c ∷ x) y =
    let s = some_piece mark x in
    ap (with_byte (c == mark) c) (pieces_both mark x y ∙ ap (λ ps. ps ++ pieces mark y) s.2)
    ∙ with_both (c == mark) c s.0 s.1 (pieces mark y)
    ∙ ap (λ ps. with_byte (c == mark) c ps ++ pieces mark y) (sym s.2)

-- a list is `-`, or all its pieces are words
pub list_test : (words : Text) → is_some (list_of (words_of words))
    ≡ (is_same words dash || list_all is_word (words_of words))
list_test words =
    let s = some_piece 32 words in
    go (is_same words dash) refl s.0 s.1 s.2
  where
    other : (w : Text) (ws : Texts) → words_of words ≡ w ∷ ws → is_same words dash ≡ false
        → is_some (list_of (w ∷ ws)) ≡ list_all is_word (w ∷ ws)
    other w (next ∷ ws) p q = all_or (list_all is_word (w ∷ next ∷ ws))
      where
        all_or : (b : Bool) → is_some (cond b (Some (w ∷ next ∷ ws)) None) ≡ b
        all_or true = refl
        all_or false = refl
    other w [] p q =
        let is : words ≡ w = sym (joined_pieces 32 words) ∙ ap (joined_by 32) p in
        let no_dash : is_same w dash ≡ false = subst (λ x. is_same x dash ≡ false) is q in
        ap (λ b. is_some (cond b (Some []) (cond (is_word w) (Some (w ∷ [])) None))) no_dash
        ∙ one (is_word w)
      where
        one : (b : Bool) → is_some (cond {A = Option Texts} b (Some (w ∷ [])) None) ≡ (b && true)
        one true = refl
        one false = refl

    go : (b : Bool) → is_same words dash ≡ b → (w : Text) (ws : Texts) → words_of words ≡ w ∷ ws
        → is_some (list_of (words_of words)) ≡ (b || list_all is_word (words_of words))
    go true p w ws q =
        let is = same_texts words dash p in
        rw is refl
    go false p w ws q = rw q (other w ws q p)

-- The first pieces of the words were walked, up to a place, and none is the sign.
abbrev pub Passed : Text → Text → ℕ → Type 0
Passed sign words at =
    (at ≡ 0) ⊎ ((prefix : Text) × (words ≡ prefix ++ 32 ∷ drop at words) × (at ≡ length prefix + 1)
    × (avoids sign (words_of prefix) ≡ true))

pub after_past : (sign : Text) (ws more : Texts) → avoids sign ws ≡ true
    → after sign (ws ++ more) ≡ after sign more
after_past sign [] more h = refl
after_past sign (w ∷ ws) more h =
    let parts = and_parts (not (is_same w sign)) _ h in
    rw (not-true _ parts.0) (after_past sign ws more parts.1)

at_the_last : (sign : Text) (ws : Texts) (word : Text) → avoids sign ws ≡ true
    → NoCut sign (ws ++ word ∷ [])
at_the_last sign ws word h = go (is_same word sign) refl
  where
    go : (b : Bool) → is_same word sign ≡ b → NoCut sign (ws ++ word ∷ [])
    go true p = inr (inr (after_past sign ws (word ∷ []) h ∙ rw p refl))
    go false p = inl (after_past sign ws (word ∷ []) h ∙ rw p refl)

-- the last piece
pub no_cut_at_end : (sign words : Text) (at : ℕ) (tail word : Text) → Passed sign words at
    → tail ≡ drop at words → tail ≡ word → lacks 32 word ≡ true → NoCut sign (words_of words)
no_cut_at_end sign words at tail word (inl start) is whole lack =
    let all : words ≡ word = ap (λ n. drop n words) (sym start) ∙ sym is ∙ whole in
    subst (NoCut sign) (sym (ap words_of all ∙ pieces_end 32 word lack))
    (at_the_last sign [] word refl)
no_cut_at_end sign words at tail word (inr passed) is whole lack =
    let rest : drop at words ≡ word = sym is ∙ whole in
    let all : words_of words ≡ words_of passed.0 ++ word ∷ [] =
    ap words_of (passed.1 ∙ ap (λ t. passed.0 ++ 32 ∷ t) rest) ∙ pieces_both 32 passed.0 word
    ∙ ap (λ ws. words_of passed.0 ++ ws) (pieces_end 32 word lack) in
    subst (NoCut sign) (sym all) (at_the_last sign (words_of passed.0) word passed.3)

-- the sign at the start
pub no_cut_at_start : (sign words : Text) (at : ℕ) (tail word rest : Text) → at ≡ 0
    → tail ≡ drop at words → tail ≡ word ++ 32 ∷ rest → lacks 32 word ≡ true → word ≡ sign
    → NoCut sign (words_of words)
no_cut_at_start sign words at tail word rest start is whole lack same =
    let all : words ≡ word ++ 32 ∷ rest = ap (λ n. drop n words) (sym start) ∙ sym is ∙ whole in
    subst (NoCut sign) (sym (ap words_of all ∙ pieces_at 32 word rest lack))
    (inr (inl (rw same (rw (same_self sign) refl))))

-- the sign after a prefix
pub cut_found : (sign words : Text) (at : ℕ) (tail word rest : Text) → Passed sign words at → at ≢ 0
    → tail ≡ drop at words → tail ≡ word ++ 32 ∷ rest → lacks 32 word ≡ true → word ≡ sign
    → CutAt sign (words_of words) (words_of (take (at - 1) words)) (words_of rest)
cut_found sign words at tail word rest (inl start) some is whole lack same = absurd (some start)
cut_found sign words at tail word rest (inr passed) some is whole lack same =
    let back : drop at words ≡ word ++ 32 ∷ rest = sym is ∙ whole in
    let len : length passed.0 ≡ at - 1 = omega (arith, passed.2) in
    let prefix : take (at - 1) words ≡ passed.0 =
    ap (take (at - 1)) passed.1 ∙ take_at passed.0 (32 ∷ drop at words) (at - 1) len in
    let all : words_of words ≡ words_of passed.0 ++ sign ∷ words_of rest =
    ap words_of (passed.1 ∙ ap (λ t. passed.0 ++ 32 ∷ t) back)
    ∙ pieces_both 32 passed.0 (word ++ 32 ∷ rest)
    ∙ ap (λ ws. words_of passed.0 ++ ws)
    (pieces_at 32 word rest lack ∙ ap (λ w. w ∷ words_of rest) same) in (
      ap (before sign) all ∙ before_at sign (words_of passed.0) (words_of rest) passed.3
          ∙ ap words_of (sym prefix),
      ap (after sign) all
          ∙ after_at sign (words_of passed.0) (words_of rest) passed.3,
    )

pub all_past : (sign words prefix word rest : Text) → words ≡ prefix ++ 32 ∷ rest
    → avoids sign (words_of prefix) ≡ true → Passed sign words (length words - length rest)
all_past sign words prefix word rest is free =
    let len : length words ≡ length prefix + (length rest + 1) =
    ap length is ∙ length-append prefix (32 ∷ rest) ∙ add prefix rest in
    let at : length words - length rest ≡ length prefix + 1 = omega arith in
    let whole : words ≡ (prefix ++ 32 ∷ []) ++ rest =
    is ∙ sym (append_assoc prefix (32 ∷ []) rest) in
    let cut : length (prefix ++ 32 ∷ []) ≡ length words - length rest =
    length-append prefix (32 ∷ []) ∙ sym at in
    let tail : drop (length words - length rest) words ≡ rest =
    ap (drop (length words - length rest)) whole
    ∙ drop_at (prefix ++ 32 ∷ []) rest (length words - length rest) cut in
    inr (prefix, is ∙ ap (λ t. prefix ++ 32 ∷ t) (sym tail), at, free)
  where
    add : (prefix rest : Text) → length prefix + suc (length rest)
        ≡ length prefix + (length rest + 1)
    add prefix rest = omega arith

-- one piece more
pub passed_more : (sign words : Text) (at : ℕ) (tail word rest : Text) → Passed sign words at
    → tail ≡ drop at words → tail ≡ word ++ 32 ∷ rest → lacks 32 word ≡ true
    → is_same word sign ≡ false → Passed sign words (length words - length rest)
passed_more sign words at tail word rest (inl start) is whole lack other =
    let all : words ≡ word ++ 32 ∷ rest = ap (λ n. drop n words) (sym start) ∙ sym is ∙ whole in
    all_past sign words word word rest all
    (rw (pieces_end 32 word lack) (and_from _ _ (not_from_false _ other) refl))
passed_more sign words at tail word rest (inr passed) is whole lack other =
    let back : drop at words ≡ word ++ 32 ∷ rest = sym is ∙ whole in
    let all : words ≡ (passed.0 ++ 32 ∷ word) ++ 32 ∷ rest =
    passed.1 ∙ ap (λ t. passed.0 ++ 32 ∷ t) back
    ∙ sym (append_assoc passed.0 (32 ∷ word) (32 ∷ rest)) in
    let free : avoids sign (words_of (passed.0 ++ 32 ∷ word)) ≡ true =
    ap (avoids sign) (pieces_both 32 passed.0 word
    ∙ ap (λ ws. words_of passed.0 ++ ws) (pieces_end 32 word lack))
    ∙ all_append (λ w. not (is_same w sign)) (words_of passed.0) (word ∷ []) passed.3
    (and_from _ _ (not_from_false _ other) refl) in
    all_past sign words (passed.0 ++ 32 ∷ word) word rest all free

pub not_all : (ws : Texts) (w : Text) (more : Texts) → ws ≡ w ∷ more → is_word w ≡ false
    → false ≡ list_all is_word ws
not_all ws w more is isnt = rw (is, isnt) refl

pub one_more : (ws : Texts) (w : Text) (more : Texts) → ws ≡ w ∷ more → is_word w ≡ true
    → list_all is_word ws ≡ list_all is_word more
one_more ws w more is good = ap (list_all is_word) is ∙ ap (λ b. b && list_all is_word more) good

pub no_items : (list : Text) → is_same list dash ≡ true → [] ≡ items_in list
no_items list h = rw (same_texts list dash h) refl

pub all_items : (list : Text) → is_some (list_of (words_of list)) ≡ true → is_same list dash ≡ false
    → words_of list ≡ items_in list
all_items list is isnt = go (list_of (words_of list)) refl is
  where
    go : (o : Option Texts) → list_of (words_of list) ≡ o → is_some o ≡ true
        → words_of list ≡ unwrap_or o []
    go None p q = cc
    go (Some (w ∷ ws)) p q = (words_of_list (words_of list) (w ∷ ws) p).0
    go (Some []) p q =
        let words : words_of list ≡ dash ∷ [] = (words_of_list (words_of list) [] p).0 in
        let whole : list ≡ dash = sym (joined_pieces 32 list) ∙ ap (joined_by 32) words in
        absurd (false≢true (sym isnt ∙ texts_same list dash whole))
