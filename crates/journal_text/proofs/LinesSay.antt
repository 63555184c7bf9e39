-- Lines, and whole texts, that are printed read back.
use Rattle.std.proofs.Common.{◌≡◌, ◌<◌, ◌≤◌, ◌+◌, ◌^◌, ℕ, suc, Bool, true, false, not, ◌&&◌, ◌==◌, nat_le, List, [], ◌∷◌, ◌++◌, map, length, Some, None, refl, sym, ◌∙◌, ap, arith, subst}
use Rattle.std.specs.Prelude.{codes, flat_map, ⊤}
use Rattle.std.specs.List.{list_all}
use Rattle.std.specs.Fmt.{decimal}
use Rattle.std.proofs.lemmas.Bool.{and_parts, lt-ltb, leb-true, eqb-true, eq-eqb, and_from}
use Rattle.std.proofs.lemmas.List.{append-nil, append_assoc, length-append}
use Rattle.polis_base.specs.Lines.{line}
use Rattle.polis_base.specs.Digits.{is_digit}
use Rattle.domains.specs.Names.{is_same}
use Rattle.domains.specs.Domains.{WordsDiffer}
use Rattle.transition_table.specs.declared.network.Network.{Network}
use Rattle.journals.specs.declared.entry.Entry.{Entry}
use Rattle.journals.specs.Journals.{FitsNetwork}
use Rattle.journal_text.specs.Texts.{entry_text, stamp_text, last_text, ending, is_stamp}
use Rattle.journals.specs.Logs.{max_stamp}
use Rattle.journal_text.specs.Forms.{Text, Texts, EntryForm, DepForm, FireForm, IdleForm, lines_of, words_of, is_word, is_word_byte, colon, arrow, last_form}
use Rattle.polis_base.specs.Pieces.{pieces, lacks}
use Rattle.journal_text.specs.Reading.{Timeline, More, Last, line_says, entry_says, went_on, lines_say, words_say}
use Rattle.polis_base.proofs.AllPass.{all_pass}
use Rattle.journal_text.proofs.Pieces.{words_in}
use Rattle.polis_base.proofs.TextPieces.{pieces_at, joined_by, pieces_of_joined}
use Rattle.journal_text.proofs.FormWords.{form_words, lists_words, good_lists, good_form, form_of_words}
use Rattle.journal_text.proofs.Decimals.{decimal_read, digits_of}
use Rattle.journal_text.proofs.IsWord.{word_lacks_space, word_lacks_lf, digit_byte}
use Rattle.journal_text.proofs.EntryForms.{Holds, form_of, entry_joined}
use Rattle.journal_text.proofs.EntryReadsBack.{form_good, entry_back}
use Rattle.polis_base.proofs.Lists.{all_append}

-- 1. The bytes of the words of a form.
abbrev pub all_bytes : Texts → Bool
all_bytes words = list_all (λ w. list_all is_word_byte w) words

word_bytes : (w : Text) → is_word w ≡ true → list_all is_word_byte w ≡ true
word_bytes [] h = refl
word_bytes (c ∷ w) h = (and_parts (list_all is_word_byte (c ∷ w)) _ h).0

words_bytes : (items : Texts) → list_all is_word items ≡ true → all_bytes (words_in items) ≡ true
words_bytes [] h = refl
words_bytes (w ∷ ws) h = all_pass is_word (λ w. list_all is_word_byte w) word_bytes (w ∷ ws) h

lists_bytes : (a b : Texts) → good_lists (a, b) ≡ true → all_bytes (lists_words (a, b)) ≡ true
lists_bytes a b h =
    let parts = and_parts (list_all is_word a) _ h in
    all_append (λ w. list_all is_word_byte w) (words_in a) _ (words_bytes a parts.0)
    (words_bytes b parts.1)

pub form_bytes : (form : EntryForm) → good_form form ≡ true → all_bytes (form_words form) ≡ true
form_bytes (DepForm from to event) h =
    let a = and_parts (is_word from && is_word to) _ h in
    let b = and_parts (is_word from) _ a.0 in
    rw (word_bytes from b.0, word_bytes to b.1, word_bytes event a.1) refl
form_bytes (FireForm machine (a, b) (d, e)) h =
    let parts = and_parts (is_word machine) _ h in
    let lists = and_parts (good_lists (a, b)) _ parts.1 in
    rw (word_bytes machine parts.0)
    (all_append (λ w. list_all is_word_byte w) (lists_words (a, b)) _ (lists_bytes a b lists.0)
    (lists_bytes d e lists.1))
form_bytes (IdleForm machine (a, b)) h =
    let parts = and_parts (is_word machine) _ h in
    rw (word_bytes machine parts.0) (lists_bytes a b parts.1)

bytes_lack_space : (words : Texts) → all_bytes words ≡ true → list_all (lacks 32) words ≡ true
bytes_lack_space words h =
    all_pass (λ w. list_all is_word_byte w) (lacks 32) word_lacks_space words h

-- words without LF, with spaces between
joined_lacks_lf : (words : Texts) → all_bytes words ≡ true → lacks 10 (joined_by 32 words) ≡ true
joined_lacks_lf [] h = refl
joined_lacks_lf (w ∷ []) h = word_lacks_lf w (and_parts (list_all is_word_byte w) _ h).0
joined_lacks_lf (w ∷ next ∷ ws) h =
    let parts = and_parts (list_all is_word_byte w) _ h in
    all_append (λ c. not (c == 10)) w (32 ∷ joined_by 32 (next ∷ ws)) (word_lacks_lf w parts.0)
    (joined_lacks_lf (next ∷ ws) parts.1)

-- 2. An entry's line.
entry_words : (net : Network) (entry : Entry) → Holds net → FitsNetwork net entry
    → words_of (entry_text net entry) ≡ form_words (form_of net entry)
entry_words net entry hold fit =
    let good = form_good net entry hold fit in
    rw (entry_joined net entry fit)
    (some_words (form_of net entry)
    (bytes_lack_space (form_words (form_of net entry)) (form_bytes (form_of net entry) good)))
  where
    some_words : (form : EntryForm) → list_all (lacks 32) (form_words form) ≡ true
        → pieces 32 (joined_by 32 (form_words form)) ≡ form_words form
    some_words (DepForm from to event) h = pieces_of_joined 32 _ _ h
    some_words (FireForm machine seen given) h = pieces_of_joined 32 _ _ h
    some_words (IdleForm machine seen) h = pieces_of_joined 32 _ _ h

entry_lacks_lf : (net : Network) (entry : Entry) → Holds net → FitsNetwork net entry
    → lacks 10 (entry_text net entry) ≡ true
entry_lacks_lf net entry hold fit =
    rw (entry_joined net entry fit)
    (joined_lacks_lf (form_words (form_of net entry))
    (form_bytes (form_of net entry) (form_good net entry hold fit)))

-- the line of an entry, with its stamp in version 2
abbrev pub line_text : Bool → Network → ℕ × Entry → Text
line_text false net (stamp, entry) = entry_text net entry
line_text true net (stamp, entry) = stamp_text stamp ++ entry_text net entry

-- the stamp of an entry: from 1 on in version 2, and 0 in version 1, where there is none
abbrev pub stamp_fits : Bool → ℕ → Bool
stamp_fits false stamp = stamp == 0
stamp_fits true stamp = is_stamp stamp

pub stamp_small : (stamp : ℕ) → is_stamp stamp ≡ true → stamp < 2 ^ 64
stamp_small stamp h =
    let top = leb-true stamp max_stamp (and_parts (nat_le 1 stamp) _ h).1 in
    omega (arith, top)

stamp_bytes : (stamp : ℕ) → is_stamp stamp ≡ true
    → list_all is_word_byte (64 ∷ decimal stamp) ≡ true
stamp_bytes stamp h =
    all_pass is_digit is_word_byte digit_byte (decimal stamp)
    (digits_of stamp (stamp_small stamp h))

pub stamp_split : (stamp : ℕ) (text : Text)
    → stamp_text stamp ++ text ≡ (64 ∷ decimal stamp) ++ 32 ∷ text
stamp_split stamp text = append_assoc (64 ∷ decimal stamp) (32 ∷ []) text

not_last : (w : Text) (ws : Texts) → is_same w (codes "end") ≡ false → last_form (w ∷ ws) ≡ None
not_last w [] h = refl
not_last w (a ∷ []) h = refl
not_last w (a ∷ b ∷ []) h = rw h refl
not_last w (a ∷ b ∷ d ∷ ws) h = refl

form_not_last : (form : EntryForm) → last_form (form_words form) ≡ None
form_not_last (DepForm from to event) = refl
form_not_last (FireForm machine seen given) =
    not_last (codes "fire") (machine ∷ colon ∷ (lists_words seen ++ arrow ∷ lists_words given)) refl
form_not_last (IdleForm machine seen) =
    not_last (codes "idle") (machine ∷ colon ∷ lists_words seen) refl

entry_is_said : WordsDiffer → (stamped : Bool) (net : Network) (count stamp : ℕ) (entry : Entry)
    → Holds net → FitsNetwork net entry → count < 60000 → stamp_fits stamped stamp ≡ true
    → entry_says stamped net count (Some (stamp, form_of net entry)) ≡ More (stamp, entry)
entry_is_said differ false net count stamp entry hold fit few ok =
    rw (lt-ltb _ _ few, entry_back differ net entry hold fit) refl
entry_is_said differ true net count stamp entry hold fit few ok =
    rw (lt-ltb _ _ few, ok, entry_back differ net entry hold fit) refl

pub line_is_said : WordsDiffer → (stamped : Bool) (net : Network) (count stamp : ℕ) (entry : Entry)
    → Holds net → FitsNetwork net entry → count < 60000 → stamp_fits stamped stamp ≡ true
    → line_says stamped net count (line_text stamped net (stamp, entry)) ≡ More (stamp, entry)
line_is_said differ false net count stamp entry hold fit few ok =
    let first : stamp ≡ 0 = eqb-true stamp 0 ok in
    let said = entry_is_said differ false net count stamp entry hold fit few ok in
    let zero_said : entry_says false net count (Some (0, form_of net entry)) ≡ More (stamp, entry) =
    subst (λ n. entry_says false net count (Some (n, form_of net entry)) ≡ More (stamp, entry))
    first said in
    rw (entry_words net entry hold fit)
    (rw (
      form_not_last (form_of net entry),
      form_of_words (form_of net entry) (form_good net entry hold fit),
    ) zero_said)
line_is_said differ true net count stamp entry hold fit few ok =
    let split : words_of (stamp_text stamp ++ entry_text net entry)
    ≡ (64 ∷ decimal stamp) ∷ form_words (form_of net entry) =
    ap words_of (stamp_split stamp (entry_text net entry))
    ∙ pieces_at 32 (64 ∷ decimal stamp) (entry_text net entry)
    (word_lacks_space (64 ∷ decimal stamp) (stamp_bytes stamp ok))
    ∙ ap (λ ws. (64 ∷ decimal stamp) ∷ ws) (entry_words net entry hold fit) in
    rw split (rw (
      not_last (64 ∷ decimal stamp) (form_words (form_of net entry)) refl,
      decimal_read stamp (stamp_small stamp ok),
      form_of_words (form_of net entry) (form_good net entry hold fit),
    )
    (entry_is_said differ true net count stamp entry hold fit few ok))

line_lacks_lf : (stamped : Bool) (net : Network) (stamp : ℕ) (entry : Entry) → Holds net
    → FitsNetwork net entry → stamp_fits stamped stamp ≡ true
    → lacks 10 (line_text stamped net (stamp, entry)) ≡ true
line_lacks_lf false net stamp entry hold fit ok = entry_lacks_lf net entry hold fit
line_lacks_lf true net stamp entry hold fit ok =
    ap (lacks 10) (stamp_split stamp (entry_text net entry))
    ∙ all_append (λ c. not (c == 10)) (64 ∷ decimal stamp) (32 ∷ entry_text net entry)
    (word_lacks_lf (64 ∷ decimal stamp) (stamp_bytes stamp ok))
    (entry_lacks_lf net entry hold fit)

-- 3. The last line.
pub last_split : (n : ℕ) (complete : Bool)
    → codes "end " ++ (decimal n ++ codes " " ++ ending complete)
    ≡ codes "end " ++ (decimal n ++ 32 ∷ ending complete)
last_split n complete =
    ap (λ t. codes "end " ++ t) (append_assoc (decimal n) (codes " ") (ending complete))

decimal_lacks_space : (n : ℕ) → n < 2 ^ 64 → list_all is_word_byte (decimal n) ≡ true
decimal_lacks_space n small =
    all_pass is_digit is_word_byte digit_byte (decimal n) (digits_of n small)

last_words : (n : ℕ) (complete : Bool) → n < 2 ^ 64
    → words_of (codes "end " ++ (decimal n ++ codes " " ++ ending complete))
    ≡ codes "end" ∷ decimal n ∷ ending complete ∷ []
last_words n complete small =
    let rest : pieces 32 (decimal n ++ 32 ∷ ending complete) ≡ decimal n ∷ ending complete ∷ [] =
    pieces_at 32 (decimal n) (ending complete)
    (word_lacks_space (decimal n) (decimal_lacks_space n small))
    ∙ ap (λ ws. decimal n ∷ ws) (end_words complete) in
    ap words_of (last_split n complete) ∙ rw rest refl
  where
    end_words : (complete : Bool) → pieces 32 (ending complete) ≡ ending complete ∷ []
    end_words true = refl
    end_words false = refl

pub last_is_said : (stamped : Bool) (net : Network) (journal : List Entry) (count : ℕ)
    (complete : Bool) → count ≡ length journal → length journal < 2 ^ 64
    → line_says stamped net count (last_text journal complete) ≡ Last complete
last_is_said stamped net journal count complete same small =
    rw (last_words (length journal) complete small) (go complete)
  where
    go : (complete : Bool)
        → words_say stamped net count (codes "end" ∷ decimal (length journal) ∷ ending complete
        ∷ []) (last_form (codes "end" ∷ decimal (length journal) ∷ ending complete ∷ []))
        ≡ Last complete
    go true = rw (
      decimal_read (length journal) small,
      eq-eqb (length journal) count (sym same),
    ) refl
    go false = rw (
      decimal_read (length journal) small,
      eq-eqb (length journal) count (sym same),
    ) refl

pub last_lacks_lf : (journal : List Entry) (complete : Bool) → length journal < 2 ^ 64
    → lacks 10 (last_text journal complete) ≡ true
last_lacks_lf journal complete small =
    ap (lacks 10) (last_split (length journal) complete)
    ∙ all_append (λ c. not (c == 10)) (decimal (length journal)) (32 ∷ ending complete)
    (word_lacks_lf (decimal (length journal)) (decimal_lacks_space (length journal) small))
    (go complete)
  where
    go : (complete : Bool) → lacks 10 (32 ∷ ending complete) ≡ true
    go true = refl
    go false = refl

-- 4. The lines of a text.
pub lines_from : (ls : Texts) (rest : Text) → list_all (lacks 10) ls ≡ true
    → lines_of (flat_map line ls ++ rest) ≡ ls ++ lines_of rest
lines_from [] rest h = refl
lines_from (l ∷ ls) rest h =
    let parts = and_parts (lacks 10 l) _ h in
    let split : (line l ++ flat_map line ls) ++ rest ≡ l ++ 10 ∷ (flat_map line ls ++ rest) =
    append_assoc (line l) (flat_map line ls) rest
    ∙ append_assoc l (10 ∷ []) (flat_map line ls ++ rest) in
    ap lines_of split ∙ pieces_at 10 l (flat_map line ls ++ rest) parts.0
    ∙ ap (λ ps. l ∷ ps) (lines_from ls rest parts.1)

-- entries with stamps that fit
abbrev pub AllFit : Bool → Network → Timeline → Type 0
AllFit stamped net [] = ⊤
AllFit stamped net ((stamp, entry) ∷ rest) =
    (stamp_fits stamped stamp ≡ true) × FitsNetwork net entry × AllFit stamped net rest

pub entries_lack_lf : (stamped : Bool) (net : Network) (entries : Timeline) → Holds net
    → AllFit stamped net entries → list_all (lacks 10) (map (line_text stamped net) entries) ≡ true
entries_lack_lf stamped net [] hold fit = refl
entries_lack_lf stamped net ((stamp, entry) ∷ rest) hold fit =
    and_from _ _ (line_lacks_lf stamped net stamp entry hold fit.1 fit.0)
    (entries_lack_lf stamped net rest hold fit.2)

abbrev some_lines : Texts → Bool
some_lines [] = false
some_lines (l ∷ ls) = true

one_line : (stamped : Bool) (net : Network) (k : ℕ) (read : Timeline) (text : Text) (ls : Texts)
    → some_lines ls ≡ true
    → lines_say stamped net k read (text ∷ ls)
    ≡ went_on k read ls (λ more. lines_say stamped net (k + 1) more ls)
    (line_says stamped net (length read) text)
one_line stamped net k read text [] h = cc
one_line stamped net k read text (l ∷ ls) h = refl

some_after : (xs : Texts) (t : Text) (ts : Texts) → some_lines (xs ++ t ∷ ts) ≡ true
some_after [] t ts = refl
some_after (x ∷ xs) t ts = refl

-- the lines of entries are passed
pub entries_passed : WordsDiffer
    → (stamped : Bool) (net : Network) (k : ℕ) (read entries : Timeline) (t : Text) (ts : Texts)
    → Holds net → AllFit stamped net entries → length read + length entries ≤ 60000
    → lines_say stamped net k read (map (line_text stamped net) entries ++ t ∷ ts)
    ≡ lines_say stamped net (k + length entries) (read ++ entries) (t ∷ ts)
entries_passed differ stamped net k read [] t ts hold fit few =
    let same : k ≡ k + 0 = omega arith in
    rw (append-nil read, ← same) refl
entries_passed differ stamped net k read ((stamp, entry) ∷ rest) t ts hold fit few =
    let said = line_is_said differ stamped net (length read) stamp entry hold fit.1 (omega arith)
    fit.0 in
    let more : length (read ++ (stamp, entry) ∷ []) + length rest ≤ 60000 =
    rw (length-append read ((stamp, entry) ∷ [])) (omega arith) in
    let next = entries_passed differ stamped net (k + 1) (read ++ (stamp, entry) ∷ []) rest t ts
    hold fit.2 more in
    let place : k + 1 + length rest ≡ k + suc (length rest) = omega arith in
    let first = one_line stamped net k read (line_text stamped net (stamp, entry))
    (map (line_text stamped net) rest ++ t ∷ ts)
    (some_after (map (line_text stamped net) rest) t ts) in
    first ∙ rw said (next ∙ rw (place, append_assoc read ((stamp, entry) ∷ []) rest) refl)
