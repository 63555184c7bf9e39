-- Words that are skipped, since they lack a byte of the sign.
use Rattle.std.proofs.Common.{◌≡◌, ◌+◌, ◌-◌, ◌<◌, ◌≤◌, ℕ, suc, Bool, true, false, not, ◌==◌, [], ◌∷◌, ◌++◌, inl, inr, length, take, drop, get_or, refl, ap, ◌∙◌, arith, sym, subst}
use Rattle.std.specs.List.{list_all}
use Rattle.std.proofs.lemmas.Bool.{and_parts, eqb-true, not-true, and_from}
use Rattle.std.proofs.lemmas.List.{append_assoc, append-nil, get_or-take, length-append, length-take-le}
use Rattle.domains.specs.Names.{is_same}
use Rattle.journal_text.specs.Forms.{Text, Texts, words_of, after}
use Rattle.polis_base.specs.Pieces.{with_byte, lacks}
use Rattle.journal_text.specs.Cursors.{NoCut}
use Rattle.journal_text.specs.inner.Cursors.{SkippedTo}
use Rattle.polis_base.proofs.AllPass.{all_pass}
use Rattle.polis_base.proofs.FirstMark.{NoneBefore, cut_here, prefix_lacks}
use Rattle.polis_base.proofs.TextPieces.{some_piece}
use Rattle.journal_text.proofs.FormWords.{avoids}
use Rattle.journal_text.proofs.CutAt.{Passed, pieces_both, after_past, all_past}
use Rattle.polis_base.proofs.Lists.{all_append}

-- no piece of a text without the mark has it
pub pieces_lack : (mark : ℕ) (text : Text) → lacks mark text ≡ true
    → list_all (lacks mark) (words_of text) ≡ true
pieces_lack mark [] h = refl
pieces_lack mark (c ∷ text) h =
    let parts = and_parts (not (c == mark)) _ h in
    let s = some_piece 32 text in
    let later : list_all (lacks mark) (s.0 ∷ s.1) ≡ true =
    subst (λ ps. list_all (lacks mark) ps ≡ true) s.2 (pieces_lack mark text parts.1) in
    ap (λ ps. list_all (lacks mark) (with_byte (c == 32) c ps)) s.2
    ∙ go (c == 32) parts.0 s.0 s.1 later
  where
    go : (b : Bool) → not (c == mark) ≡ true → (w : Text) (ws : Texts)
        → list_all (lacks mark) (w ∷ ws) ≡ true
        → list_all (lacks mark) (with_byte b c (w ∷ ws)) ≡ true
    go true other w ws lack = lack
    go false other w ws lack =
        let halves = and_parts (lacks mark w) _ lack in
        and_from _ _ (and_from _ _ other halves.0) halves.1

-- a word without the first byte of the sign isn't the sign
other_word : (mark : ℕ) (sign w : Text) → 0 < length sign → get_or sign 0 0 ≡ mark
    → lacks mark w ≡ true → not (is_same w sign) ≡ true
other_word mark [] w some first lack = absurd (omega arith)
other_word mark (s ∷ sign) [] some first lack = refl
other_word mark (s ∷ sign) (c ∷ w) some first lack =
    let parts = and_parts (not (c == mark)) _ lack in
    let other : (c == s) ≡ false = ap (λ m. c == m) first ∙ not-true _ parts.0 in
    rw other refl

pub lacking_avoids : (mark : ℕ) (sign text : Text) → 0 < length sign → get_or sign 0 0 ≡ mark
    → lacks mark text ≡ true → avoids sign (words_of text) ≡ true
lacking_avoids mark sign text some first lack =
    all_pass (lacks mark) (λ w. not (is_same w sign))
    (λ w free. other_word mark sign w some first free) (words_of text)
    (pieces_lack mark text lack)

-- nothing that is left has the mark
pub no_cut_left : (mark : ℕ) (sign words : Text) (from : ℕ) (tail : Text) → 0 < length sign
    → get_or sign 0 0 ≡ mark → Passed sign words from → tail ≡ drop from words
    → lacks mark tail ≡ true → NoCut sign (words_of words)
no_cut_left mark sign words from tail some first (inl start) is lack =
    let all : words ≡ tail = ap (λ n. drop n words) (sym start) ∙ sym is in
    let free = lacking_avoids mark sign tail some first lack in
    inl (ap (λ t. after sign (words_of t)) all ∙ ap (after sign) (sym (append-nil (words_of tail)))
    ∙ after_past sign (words_of tail) [] free)
no_cut_left mark sign words from tail some first (inr passed) is lack =
    let free = lacking_avoids mark sign tail some first lack in
    let all : words_of words ≡ words_of passed.0 ++ words_of tail =
    ap words_of (passed.1 ∙ ap (λ t. passed.0 ++ 32 ∷ t) (sym is))
    ∙ pieces_both 32 passed.0 tail in
    let both = all_append (λ w. not (is_same w sign)) (words_of passed.0) (words_of tail)
    passed.3 free in
    inl (ap (after sign) (all ∙ sym (append-nil (words_of passed.0 ++ words_of tail)))
    ∙ after_past sign (words_of passed.0 ++ words_of tail) [] both)

-- the words up to the next one with the mark
pub passed_on : (mark : ℕ) (sign words : Text) (from skipped : ℕ) (tail : Text) → 0 < length sign
    → get_or sign 0 0 ≡ mark → Passed sign words from → tail ≡ drop from words → from ≤ length words
    → SkippedTo mark tail skipped → Passed sign words (from + skipped)
passed_on mark sign words from skipped tail some first passed is within (inl none) =
    let same : from ≡ from + skipped = omega arith in
    subst (Passed sign words) same passed
passed_on mark sign words from skipped tail some first (inl start) is within (inr next) =
    let free = lacking_avoids mark sign next.0 some first next.3 in
    let whole : words ≡ next.0 ++ 32 ∷ drop skipped tail =
    ap (λ n. drop n words) (sym start) ∙ sym is ∙ next.1 in
    let len : length words ≡ length next.0 + suc (length (drop skipped tail)) =
    ap length whole ∙ length-append next.0 (32 ∷ drop skipped tail) in
    let place : length words - length (drop skipped tail) ≡ from + skipped =
    omega (arith, start, next.2, len) in
    subst (Passed sign words) place
    (all_past sign words next.0 next.0 (drop skipped tail) whole free)
passed_on mark sign words from skipped tail some first (inr passed) is within (inr next) =
    let free = lacking_avoids mark sign next.0 some first next.3 in
    let back : drop from words ≡ next.0 ++ 32 ∷ drop skipped tail = sym is ∙ next.1 in
    let whole : words ≡ (passed.0 ++ 32 ∷ next.0) ++ 32 ∷ drop skipped tail =
    passed.1 ∙ ap (λ t. passed.0 ++ 32 ∷ t) back
    ∙ sym (append_assoc passed.0 (32 ∷ next.0) (32 ∷ drop skipped tail)) in
    let both : avoids sign (words_of (passed.0 ++ 32 ∷ next.0)) ≡ true =
    ap (avoids sign) (pieces_both 32 passed.0 next.0)
    ∙ all_append (λ w. not (is_same w sign)) (words_of passed.0) (words_of next.0)
    passed.3 free in
    let inner : length (passed.0 ++ 32 ∷ next.0) ≡ length passed.0 + suc (length next.0) =
    length-append passed.0 (32 ∷ next.0) in
    let len : length words ≡ length (passed.0 ++ 32 ∷ next.0) + suc (length (drop skipped tail)) =
    ap length whole ∙ length-append (passed.0 ++ 32 ∷ next.0) (32 ∷ drop skipped tail) in
    let place : length words - length (drop skipped tail) ≡ from + skipped =
    omega (arith, passed.2, next.2, inner, len) in
    subst (Passed sign words) place
    (all_past sign words (passed.0 ++ 32 ∷ next.0) next.0 (drop skipped tail) whole both)

-- the place after the last space before a byte is the start of a word, where nothing before the
-- byte is the mark
pub skipped_to : (mark : ℕ) (text : Text) (found space : ℕ) → found < length text
    → NoneBefore mark text found → space < length (take found text)
    → (get_or (take found text) space 0 == 32) ≡ true → SkippedTo mark text (space + 1)
skipped_to mark text found space below none high here =
    let whole : length (take found text) ≡ found = length-take-le found text (omega arith) in
    let byte : get_or text space 0 ≡ 32 =
    sym (get_or-take found text space 0 (omega arith)) ∙ eqb-true _ _ here in
    let next : suc space ≡ space + 1 = omega arith in
    let cut : text ≡ take space text ++ 32 ∷ drop (space + 1) text =
    cut_here 32 text space (omega arith) byte
    ∙ ap (λ n. take space text ++ 32 ∷ drop n text) next in
    let prefix : length (take space text) ≡ space = length-take-le space text (omega arith) in
    inr (
      take space text,
      cut,
      omega arith,
      prefix_lacks mark text space (λ j h. none j (omega arith)) (omega arith),
    )
