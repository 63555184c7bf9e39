-- What reads was printed.
use Rattle.std.proofs.Common.{◌≡◌, ◌<◌, ◌≤◌, ◌+◌, ℕ, Bool, true, false, not, ◌||◌, ◌==◌, nat_lt, cond, List, [], ◌∷◌, ◌++◌, map, length, Option, Some, None, Result, Ok, Err, refl, sym, ◌∙◌, ap, arith, subst}
use Rattle.std.specs.Prelude.{codes, flat_map}
use Rattle.std.specs.List.{list_all, zip}
use Rattle.std.specs.Fmt.{decimal}
use Rattle.std.proofs.lemmas.Bool.{eq-eqb, eqb-true, ltb-true, and_from}
use Rattle.std.proofs.lemmas.List.{append-nil, append_assoc, length-append, length-map}
use Rattle.polis_base.specs.Lines.{line}
use Rattle.domains.specs.Names.{is_same}
use Rattle.transition_table.specs.declared.network.Network.{Network}
use Rattle.journals.specs.declared.entry.Entry.{Entry}
use Rattle.journals.specs.Journals.{FitsNetwork, IsJournal}
use Rattle.journal_text.specs.declared.fault.JournalFault.{JournalFault}
use Rattle.journal_text.specs.declared.fault.JournalKind.{JournalKind}
use Rattle.journal_text.specs.declared.fault.JournalKind.TheVariants.{Many, Stamp, Count}
use Rattle.journal_text.specs.Texts.{entry_text, last_text, ending, is_stamp, journal_text, stamped_journal_text, AreStamps}
use Rattle.journal_text.specs.Forms.{Text, Texts, EntryForm, DepForm, FireForm, IdleForm, lines_of, words_of, both, decimal_of, ending_of, last_form, stamp_of, entry_form, stamped_form}
use Rattle.journal_text.specs.Items.{entry_read}
use Rattle.journal_text.specs.Reading.{Timeline, Said, More, Last, Bad, said_entry, entry_says, words_say, line_says, went_on, ended, lines_say, version_of, as_read, read_as, body_says, text_says, read_of, ReadText}
use Rattle.journal_text.specs.Laws.{ReadIsPrinted, StampedReadIsPrinted}
use Rattle.domains.proofs.Names.{same_texts}
use Rattle.polis_base.proofs.TextPieces.{joined_by, joined_pieces}
use Rattle.journal_text.proofs.FormWords.{form_words, some_same, both_are, words_of_form}
use Rattle.journal_text.proofs.Decimals.{decimal_is}
use Rattle.journal_text.proofs.EntryForms.{form_of, entry_joined}
use Rattle.journal_text.proofs.EntryIsPrinted.{entry_only, ok_same}
use Rattle.journal_text.proofs.LinesSay.{line_text, stamp_fits, AllFit, stamp_split, last_split}
use Rattle.journal_text.proofs.ReadsBack.{head_text, without_stamps, printed_lines, plain_text, stamped_text}

-- 1. One line.
entry_text_is : (net : Network) (words : Texts) (form : EntryForm) (entry : Entry)
    → entry_form words ≡ Some form → entry_read net form ≡ Ok entry
    → (joined_by 32 words ≡ entry_text net entry) × FitsNetwork net entry
    × (words ≡ form_words (form_of net entry))
entry_text_is net words form entry shape read =
    let w = words_of_form words form shape in
    let e = entry_only net form entry read in
    let is : words ≡ form_words (form_of net entry) = w.0 ∙ ap form_words e.0 in
    (ap (joined_by 32) is ∙ sym (entry_joined net entry e.1), e.1, is)

stamp_is : (word : Text) (stamp : ℕ) → stamp_of word ≡ Some stamp → word ≡ 64 ∷ decimal stamp
stamp_is [] stamp h = cc
stamp_is (c ∷ digits) stamp h = go (c == 64) refl h
  where
    go : (b : Bool) → (c == 64) ≡ b → cond b (decimal_of digits) None ≡ Some stamp
        → c ∷ digits ≡ 64 ∷ decimal stamp
    go true p e =
        let d = decimal_is digits stamp e in
        let first = eqb-true c 64 p in
        ap (λ x. x ∷ digits) first ∙ ap (λ xs. 64 ∷ xs) d.0
    go false p e = cc

joined_stamp : (word : Text) (words : Texts) (form : EntryForm) → words ≡ form_words form
    → joined_by 32 (word ∷ words) ≡ word ++ 32 ∷ joined_by 32 words
joined_stamp word words form is = ap (λ ws. joined_by 32 (word ∷ ws)) is ∙ go form
    ∙ ap (λ ws. word ++ 32 ∷ joined_by 32 ws) (sym is)
  where
    go : (form : EntryForm) → joined_by 32 (word ∷ form_words form)
        ≡ word ++ 32 ∷ joined_by 32 (form_words form)
    go (DepForm from to event) = refl
    go (FireForm machine seen given) = refl
    go (IdleForm machine seen) = refl

stamped_line_is : (stamped : Bool) (net : Network) (words : Texts) (stamp : ℕ) (form : EntryForm)
    (entry : Entry) → stamped_form stamped words ≡ Some (stamp, form)
    → entry_read net form ≡ Ok entry → (not stamped || is_stamp stamp) ≡ true
    → (joined_by 32 words ≡ line_text stamped net (stamp, entry))
    × (stamp_fits stamped stamp ≡ true) × FitsNetwork net entry
stamped_line_is false net words stamp form entry shape read ok =
    let parts = both_are (Some 0) (entry_form words) stamp form shape in
    let zero_first : 0 ≡ stamp = some_same parts.0 in
    let e = entry_text_is net words form entry parts.1 read in
    (e.0, eq-eqb stamp 0 (sym zero_first), e.1)
stamped_line_is true net [] stamp form entry shape read ok = cc
stamped_line_is true net (word ∷ words) stamp form entry shape read ok =
    let parts = both_are (stamp_of word) (entry_form words) stamp form shape in
    let e = entry_text_is net words form entry parts.1 read in
    let first = stamp_is word stamp parts.0 in (
      joined_stamp word words (form_of net entry) e.2 ∙ ap (λ w. w ++ 32 ∷ joined_by 32 words) first
          ∙ ap (λ t. (64 ∷ decimal stamp) ++ 32 ∷ t) e.0
          ∙ sym (stamp_split stamp (entry_text net entry)),
      ok,
      e.1,
    )

abbrev LineIs : Bool → Network → ℕ → Texts → ℕ → Entry → Type 0
LineIs stamped net count words stamp entry =
    (joined_by 32 words ≡ line_text stamped net (stamp, entry)) × (stamp_fits stamped stamp ≡ true)
    × FitsNetwork net entry × (count < 60000)

-- what a line says that is an entry more
more_same : (a b : ℕ × Entry) → More a ≡ More b → a ≡ b
more_same a b e = ap (λ (said : Said). or_else a said) e
  where
    or_else : ℕ × Entry → Said → ℕ × Entry
    or_else d (More p) = p
    or_else d (Last c) = d
    or_else d (Bad kind) = d

entry_line_is : (stamped : Bool) (net : Network) (count : ℕ) (words : Texts) (stamp : ℕ)
    (entry : Entry) → entry_says stamped net count (stamped_form stamped words)
    ≡ More (stamp, entry) → LineIs stamped net count words stamp entry
entry_line_is stamped net count words stamp entry h = go (stamped_form stamped words) refl h
  where
    read : (t : ℕ) (form : EntryForm) (r : Result Entry JournalKind)
        → stamped_form stamped words ≡ Some (t, form) → nat_lt count 60000 ≡ true
        → (not stamped || is_stamp t) ≡ true → entry_read net form ≡ r
        → said_entry t r ≡ More (stamp, entry) → LineIs stamped net count words stamp entry
    read t form (Err kind) p few ok q e = cc
    read t form (Ok x) p few ok q e =
        let same = more_same (t, x) (stamp, entry) e in
        let line = stamped_line_is stamped net words t form x p q ok in
        subst (λ (y : ℕ × Entry). LineIs stamped net count words y.0 y.1) same
        (line.0, line.1, line.2, ltb-true _ _ few)

    some : (t : ℕ) (form : EntryForm) (a b : Bool) → stamped_form stamped words ≡ Some (t, form)
        → nat_lt count 60000 ≡ a → (not stamped || is_stamp t) ≡ b
        → cond (not a) (Bad Many) (cond (not b) (Bad Stamp) (said_entry t (entry_read net form)))
        ≡ More (stamp, entry) → LineIs stamped net count words stamp entry
    some t form false b p few ok e = cc
    some t form true false p few ok e = cc
    some t form true true p few ok e = read t form (entry_read net form) p few ok refl e

    go : (o : Option (ℕ × EntryForm)) → stamped_form stamped words ≡ o
        → entry_says stamped net count o ≡ More (stamp, entry)
        → LineIs stamped net count words stamp entry
    go None p e = cc
    go (Some (t, form)) p e =
        some t form (nat_lt count 60000) (not stamped || is_stamp t) p refl refl e

pub line_only : (stamped : Bool) (net : Network) (count : ℕ) (text : Text) (stamp : ℕ)
    (entry : Entry) → line_says stamped net count text ≡ More (stamp, entry)
    → (text ≡ line_text stamped net (stamp, entry)) × (stamp_fits stamped stamp ≡ true)
    × FitsNetwork net entry × (count < 60000)
line_only stamped net count text stamp entry h =
    let r = go (last_form (words_of text)) h in
    (sym (joined_pieces 32 text) ∙ r.0, r.1, r.2, r.3)
  where
    counted : (b complete : Bool) → cond b (Last complete) (Bad Count) ≡ More (stamp, entry)
        → LineIs stamped net count (words_of text) stamp entry
    counted true complete e = cc
    counted false complete e = cc

    go : (o : Option (ℕ × Bool)) → words_say stamped net count (words_of text) o
        ≡ More (stamp, entry) → LineIs stamped net count (words_of text) stamp entry
    go None e = entry_line_is stamped net count (words_of text) stamp entry e
    go (Some (n, complete)) e = counted (n == count) complete e

-- 2. The last line.
ending_is : (word : Text) (complete : Bool) → ending_of word ≡ Some complete
    → word ≡ ending complete
ending_is word complete h =
    go (is_same word (codes "complete")) (is_same word (codes "limit")) refl refl h
  where
    go : (a b : Bool) → is_same word (codes "complete") ≡ a → is_same word (codes "limit") ≡ b
        → cond a (Some true) (cond b (Some false) None) ≡ Some complete → word ≡ ending complete
    go true b p q e = same_texts word (codes "complete") p ∙ ap ending (some_same e)
    go false true p q e = same_texts word (codes "limit") q ∙ ap ending (some_same e)
    go false false p q e = cc

-- the last line after so many entries
abbrev pub last_line : ℕ → Bool → Text
last_line n complete = codes "end " ++ (decimal n ++ codes " " ++ ending complete)

last_words_are : (words : Texts) (n : ℕ) (complete : Bool) → last_form words ≡ Some (n, complete)
    → joined_by 32 words ≡ last_line n complete
last_words_are [] n complete h = cc
last_words_are (a ∷ []) n complete h = cc
last_words_are (a ∷ b ∷ []) n complete h = cc
last_words_are (a ∷ b ∷ d ∷ e ∷ words) n complete h = cc
last_words_are (word ∷ number ∷ ends ∷ []) n complete h = go (is_same word (codes "end")) refl h
  where
    go : (b : Bool) → is_same word (codes "end") ≡ b
        → cond {A = Option (ℕ × Bool)} b (both (decimal_of number) (ending_of ends)) None
        ≡ Some (n, complete) → joined_by 32 (word ∷ number ∷ ends ∷ []) ≡ last_line n complete
    go true p e =
        let parts = both_are (decimal_of number) (ending_of ends) n complete e in
        let first = same_texts word (codes "end") p in
        let d = decimal_is number n parts.0 in
        let f = ending_is ends complete parts.1 in
        ap (λ w. w ++ 32 ∷ (number ++ 32 ∷ ends)) first
        ∙ ap (λ t. codes "end" ++ 32 ∷ (t ++ 32 ∷ ends)) d.0
        ∙ ap (λ t. codes "end" ++ 32 ∷ (decimal n ++ 32 ∷ t)) f ∙ sym (last_split n complete)
    go false p e = cc

last_same : (a b : Bool) → Last a ≡ Last b → a ≡ b
last_same a b e = ap (λ (said : Said). or_else a said) e
  where
    or_else : Bool → Said → Bool
    or_else d (More p) = d
    or_else d (Last c) = c
    or_else d (Bad kind) = d

no_last : (stamped : Bool) (net : Network) (count : ℕ) (o : Option (ℕ × EntryForm))
    (complete : Bool) → entry_says stamped net count o ≡ Last complete → ⊥
no_last stamped net count None complete h = cc
no_last stamped net count (Some (t, form)) complete h =
    go (nat_lt count 60000) (not stamped || is_stamp t) (entry_read net form) h
  where
    go : (a b : Bool) (r : Result Entry JournalKind)
        → cond (not a) (Bad Many) (cond (not b) (Bad Stamp) (said_entry t r)) ≡ Last complete → ⊥
    go false b r e = cc
    go true false r e = cc
    go true true (Err kind) e = cc
    go true true (Ok x) e = cc

pub last_only : (stamped : Bool) (net : Network) (count : ℕ) (text : Text) (complete : Bool)
    → line_says stamped net count text ≡ Last complete → text ≡ last_line count complete
last_only stamped net count text complete h =
    sym (joined_pieces 32 text) ∙ go (last_form (words_of text)) refl h
  where
    counted : (n : ℕ) (c b : Bool) → last_form (words_of text) ≡ Some (n, c) → (n == count) ≡ b
        → cond b (Last c) (Bad Count) ≡ Last complete
        → joined_by 32 (words_of text) ≡ last_line count complete
    counted n c true p q e =
        let same = last_same c complete e in
        let number = eqb-true n count q in
        last_words_are (words_of text) n c p ∙ ap (λ k. last_line k c) number
        ∙ ap (last_line count) same
    counted n c false p q e = cc

    go : (o : Option (ℕ × Bool)) → last_form (words_of text) ≡ o
        → words_say stamped net count (words_of text) o ≡ Last complete
        → joined_by 32 (words_of text) ≡ last_line count complete
    go None p e = absurd
        (no_last stamped net count (stamped_form stamped (words_of text)) complete e)
    go (Some (n, c)) p e = counted n c (n == count) p refl e

-- 3. All lines.
more_few : (xs : Timeline) (stamp : ℕ) (entry : Entry) → length xs < 60000
    → length (xs ++ (stamp, entry) ∷ []) ≤ 60000
more_few xs stamp entry below = rw (length-append xs ((stamp, entry) ∷ [])) (omega arith)

pub lines_only : (stamped : Bool) (net : Network) (k : ℕ) (read : Timeline) (lines : Texts)
    (entries : Timeline) (complete : Bool)
    → lines_say stamped net k read lines ≡ Ok (entries, complete)
    → (more : Timeline) × (entries ≡ read ++ more)
    × (lines ≡ map (line_text stamped net) more ++ last_line (length entries) complete ∷ []
    ∷ []) × AllFit stamped net more × (length read ≤ 60000 → length entries ≤ 60000)
lines_only stamped net k read [] entries complete h = cc
lines_only stamped net k read (rest ∷ []) entries complete h = cc
lines_only stamped net k read (text ∷ next ∷ lines) entries complete h =
    go (line_says stamped net (length read) text) refl h
    (λ more e. lines_only stamped net (k + 1) more (next ∷ lines) entries complete e)
  where
    end_with : (rest : Texts) (c : Bool) → line_says stamped net (length read) text ≡ Last c
        → ended k rest (read, c) ≡ Ok (entries, complete) → (rest ≡ [] → ⊥)
        → (more : Timeline) × (entries ≡ read ++ more)
        × (text ∷ rest ≡ map (line_text stamped net) more ++ last_line (length entries) complete
        ∷ [] ∷ []) × AllFit stamped net more × (length read ≤ 60000 → length entries ≤ 60000)
    end_with [] c p e some = absurd (some refl)
    end_with ((x ∷ xs) ∷ []) c p e some = cc
    end_with (x ∷ y ∷ rest) c p e some = cc
    end_with ([] ∷ []) c p e some =
        let pair : (read, c) ≡ (entries, complete) = ok_same e in
        let first : read ≡ entries = ap (λ (q : Timeline × Bool). q.0) pair in
        let second : c ≡ complete = ap (λ (q : Timeline × Bool). q.1) pair in
        let is = last_only stamped net (length read) text c p in
        let whole : text ∷ [] ∷ [] ≡ last_line (length entries) complete ∷ [] ∷ [] =
        ap (λ t. t ∷ [] ∷ []) (is ∙ ap (λ xs. last_line (length xs) c) first
        ∙ ap (last_line (length entries)) second) in (
          [],
          sym first ∙ sym (append-nil read),
          whole,
          tt,
          λ few.
              subst (λ xs. length xs ≤ 60000) first few,
        )

    go : (said : Said) → line_says stamped net (length read) text ≡ said
        → went_on k read (next ∷ lines) (λ more. lines_say stamped net (k + 1) more (next ∷ lines))
        said ≡ Ok (entries, complete)
        → ((prefix : Timeline) → lines_say stamped net (k + 1) prefix (next ∷ lines)
        ≡ Ok (entries, complete)
        → (more : Timeline) × (entries ≡ prefix ++ more)
        × (next ∷ lines ≡ map (line_text stamped net) more
        ++ last_line (length entries) complete ∷ [] ∷ []) × AllFit stamped net more
        × (length prefix ≤ 60000 → length entries ≤ 60000))
        → (more : Timeline) × (entries ≡ read ++ more)
        × (text ∷ next ∷ lines ≡ map (line_text stamped net) more
        ++ last_line (length entries) complete ∷ [] ∷ []) × AllFit stamped net more
        × (length read ≤ 60000 → length entries ≤ 60000)
    go (Bad kind) p e again = cc
    go (Last c) p e again = end_with (next ∷ lines) c p e (λ none. cc)
    go (More (stamp, entry)) p e again =
        let r = again (read ++ (stamp, entry) ∷ []) e in
        let one = line_only stamped net (length read) text stamp entry p in (
          (stamp, entry) ∷ r.0,
          r.1 ∙ append_assoc read ((stamp, entry) ∷ []) r.0,
          ap (λ t. t ∷ next ∷ lines) one.0 ∙ ap
              (λ ts. line_text stamped net (stamp, entry) ∷ ts) r.2,
          (one.1, one.2, r.3),
          λ few. r.4 (more_few read stamp entry one.3),
        )

-- 4. The whole text.
joined_lines : (ls : Texts) → joined_by 10 (ls ++ [] ∷ []) ≡ flat_map line ls
joined_lines [] = refl
joined_lines (l ∷ []) = sym (append-nil (line l))
joined_lines (l ∷ next ∷ ls) = ap (λ t. l ++ 10 ∷ t) (joined_lines (next ∷ ls))
    ∙ sym (append_assoc l (10 ∷ []) (flat_map line (next ∷ ls)))

version_is : (first : Text) (stamped : Bool) → version_of first ≡ Some stamped
    → first ≡ head_text stamped
version_is first stamped h =
    go (is_same first (codes "polis journal 1")) (is_same first (codes "polis journal 2"))
    refl refl h
  where
    go : (a b : Bool) → is_same first (codes "polis journal 1") ≡ a
        → is_same first (codes "polis journal 2") ≡ b
        → cond a (Some false) (cond b (Some true) None) ≡ Some stamped → first ≡ head_text stamped
    go true b p q e = same_texts first (codes "polis journal 1") p ∙ ap head_text (some_same e)
    go false true p q e = same_texts first (codes "polis journal 2") q ∙ ap head_text (some_same e)
    go false false p q e = cc

-- what is read of a text, and its lines
pub record TextIs (net : Network) (text : Text) (read : ReadText) : Type 0 where
  pub stamped : Bool
  pub entries : Timeline
  pub complete : Bool
  pub is : as_read stamped (entries, complete) ≡ read
  pub fit : AllFit stamped net entries
  pub few : length entries ≤ 60000
  pub text_is : text ≡ flat_map line
      (head_text stamped
      ∷ (map (line_text stamped net) entries ++ last_line (length entries) complete ∷ [])) ++ []

pub text_only : (net : Network) (text : Text) (read : ReadText) → read_of net text ≡ Ok read
    → TextIs net text read
text_only net text read h = go (lines_of text) refl h
  where
    whole : (first : Text) (lines : Texts) (stamped : Bool)
        (r : Result (Timeline × Bool) JournalFault) → lines_of text ≡ first ∷ lines
        → version_of first ≡ Some stamped → lines_say stamped net 2 [] lines ≡ r
        → read_as stamped r ≡ Ok read → TextIs net text read
    whole first lines stamped (Err fault) p v q e = cc
    whole first lines stamped (Ok (entries, complete)) p v q e =
        let r = lines_only stamped net 2 [] lines entries complete q in
        let head = version_is first stamped v in
        let all : lines ≡ map (line_text stamped net) entries ++ last_line (length entries) complete
        ∷ [] ∷ [] = r.2
        ∙ ap (λ xs. map (line_text stamped net) xs ++ last_line (length entries) complete ∷ []
        ∷ []) (sym r.1) in
        let grouped = append_assoc (map (line_text stamped net) entries)
        (last_line (length entries) complete ∷ []) ([] ∷ []) in
        let pieces_are :
        lines_of text ≡ (head_text stamped
        ∷ (map (line_text stamped net) entries ++ last_line (length entries) complete ∷ []))
        ++ [] ∷ [] =
        p ∙ ap (λ x. x ∷ lines) head ∙ ap (λ xs. head_text stamped ∷ xs) (all ∙ sym grouped) in
        record {
          stamped = stamped;
          entries = entries;
          complete = complete;
          is = ok_same e;
          fit = subst (AllFit stamped net) (sym r.1) r.3;
          few = r.4 (omega arith);
          text_is = sym (joined_pieces 10 text) ∙ ap (joined_by 10) pieces_are
              ∙ joined_lines (head_text stamped
              ∷ (map (line_text stamped net) entries ++ last_line (length entries) complete ∷ []))
              ∙ sym (append-nil _);
        }

    version : (first : Text) (lines : Texts) (o : Option Bool) → lines_of text ≡ first ∷ lines
        → version_of first ≡ o → body_says net o lines ≡ Ok read → TextIs net text read
    version first lines None p v e = cc
    version first lines (Some stamped) p v e =
        whole first lines stamped (lines_say stamped net 2 [] lines) p v refl e

    go : (ls : Texts) → lines_of text ≡ ls → text_says net ls ≡ Ok read → TextIs net text read
    go [] p e = cc
    go (first ∷ []) p e = cc
    go (first ∷ next ∷ lines) p e = version first (next ∷ lines) (version_of first) p refl e

-- in version 1 each stamp is 0
no_stamps : (net : Network) (entries : Timeline) → AllFit false net entries
    → entries ≡ without_stamps (map (λ (p : ℕ × Entry). p.1) entries)
no_stamps net [] fit = refl
no_stamps net ((stamp, entry) ∷ rest) fit =
    let first = eqb-true stamp 0 fit.0 in
    ap (λ n. (n, entry) ∷ rest) first ∙ ap (λ xs. (0, entry) ∷ xs) (no_stamps net rest fit.2)

zip_parts : (entries : Timeline)
    → zip (map (λ (p : ℕ × Entry). p.0) entries) (map (λ (p : ℕ × Entry). p.1) entries) ≡ entries
zip_parts [] = refl
zip_parts ((stamp, entry) ∷ rest) = ap (λ xs. (stamp, entry) ∷ xs) (zip_parts rest)

journal_fits : (stamped : Bool) (net : Network) (entries : Timeline) → AllFit stamped net entries
    → IsJournal net (map (λ (p : ℕ × Entry). p.1) entries)
journal_fits stamped net [] fit = tt
journal_fits stamped net ((stamp, entry) ∷ rest) fit = (fit.1, journal_fits stamped net rest fit.2)

stamps_fit : (net : Network) (entries : Timeline) → AllFit true net entries
    → list_all is_stamp (map (λ (p : ℕ × Entry). p.0) entries) ≡ true
stamps_fit net [] fit = refl
stamps_fit net ((stamp, entry) ∷ rest) fit = and_from _ _ fit.0 (stamps_fit net rest fit.2)

last_is : (journal : List Entry) (n : ℕ) (complete : Bool) → n ≡ length journal
    → last_line n complete ≡ last_text journal complete
last_is journal n complete same = ap (λ k. last_line k complete) same

plain_is : (net : Network) (text : Text) (entries : Timeline) (complete : Bool)
    (journal : List Entry) (whole : Bool) → map (λ (p : ℕ × Entry). p.1) entries ≡ journal
    → complete ≡ whole → AllFit false net entries → length entries ≤ 60000
    → text ≡ flat_map line (head_text false
    ∷ (map (line_text false net) entries ++ last_line (length entries) complete ∷ [])) ++ []
    → (text ≡ journal_text net journal whole) × IsJournal net journal × (length journal ≤ 60000)
plain_is net text entries complete journal whole first second fit few is =
    let zeros = no_stamps net entries fit ∙ ap without_stamps first in
    let len : length entries ≡ length journal =
    sym (length-map entries (λ (p : ℕ × Entry). p.1)) ∙ ap length first in
    let last : last_line (length entries) complete ≡ last_text journal whole =
    last_is journal (length entries) complete len ∙ ap (last_text journal) second in
    let same : text ≡ journal_text net journal whole =
    is ∙ ap (λ l. flat_map line (head_text false ∷ (map (line_text false net) entries ++ l ∷ []))
    ++ []) last ∙ ap (λ xs. flat_map line (printed_lines false net xs (last_text journal whole))
    ++ []) zeros ∙ sym (plain_text net journal whole) in
    (same, subst (IsJournal net) first (journal_fits false net entries fit), omega arith)

stamped_is : (net : Network) (text : Text) (entries : Timeline) (complete : Bool)
    (journal : List Entry) (stamps : List ℕ) (whole : Bool)
    → map (λ (p : ℕ × Entry). p.1) entries ≡ journal → map (λ (p : ℕ × Entry). p.0) entries ≡ stamps
    → complete ≡ whole → AllFit true net entries → length entries ≤ 60000
    → text ≡ flat_map line (head_text true
    ∷ (map (line_text true net) entries ++ last_line (length entries) complete ∷ [])) ++ []
    → (text ≡ stamped_journal_text net journal stamps whole) × IsJournal net journal
    × (length journal ≤ 60000) × AreStamps journal stamps
stamped_is net text entries complete journal stamps whole first numbers second fit few is =
    let zipped : entries ≡ zip stamps journal =
    sym (zip_parts entries) ∙ ap (λ ks. zip ks (map (λ (p : ℕ × Entry). p.1) entries)) numbers
    ∙ ap (zip stamps) first in
    let len : length entries ≡ length journal =
    sym (length-map entries (λ (p : ℕ × Entry). p.1)) ∙ ap length first in
    let count : length entries ≡ length stamps =
    sym (length-map entries (λ (p : ℕ × Entry). p.0)) ∙ ap length numbers in
    let last : last_line (length entries) complete ≡ last_text journal whole =
    last_is journal (length entries) complete len ∙ ap (last_text journal) second in
    let same : text ≡ stamped_journal_text net journal stamps whole =
    is ∙ ap (λ l. flat_map line (head_text true ∷ (map (line_text true net) entries ++ l ∷ []))
    ++ []) last ∙ ap (λ xs. flat_map line (printed_lines true net xs (last_text journal whole))
    ++ []) zipped ∙ sym (stamped_text net journal stamps whole) in (
      same,
      subst (IsJournal net) first (journal_fits true net entries fit),
      omega arith,
      (
        subst (λ ks. list_all is_stamp ks ≡ true) numbers (stamps_fit net entries fit),
        sym count ∙ len,
      ),
    )

some_is_none : {A : Type 0} (a : A) → Some a ≡ None → ⊥
some_is_none a e = cc

pub read_is_printed : ReadIsPrinted
read_is_printed net text journal complete h =
    let t = text_only net text (journal, None, complete) h in
    go t.stamped t.entries t.complete t.is t.fit t.few t.text_is
  where
    go : (stamped : Bool) (entries : Timeline) (c : Bool)
        → as_read stamped (entries, c) ≡ (journal, None, complete) → AllFit stamped net entries
        → length entries ≤ 60000
        → text ≡ flat_map line (head_text stamped
        ∷ (map (line_text stamped net) entries ++ last_line (length entries) c ∷ [])) ++ []
        → (text ≡ journal_text net journal complete) × IsJournal net journal
        × (length journal ≤ 60000)
    go true entries c is fit few text_is = absurd (some_is_none _ (ap (λ (r : ReadText). r.1) is))
    go false entries c is fit few text_is =
        plain_is net text entries c journal complete (ap (λ (r : ReadText). r.0) is)
        (ap (λ (r : ReadText). r.2) is) fit few text_is

pub stamped_read_is_printed : StampedReadIsPrinted
stamped_read_is_printed net text journal stamps complete h =
    let t = text_only net text (journal, Some stamps, complete) h in
    go t.stamped t.entries t.complete t.is t.fit t.few t.text_is
  where
    go : (stamped : Bool) (entries : Timeline) (c : Bool)
        → as_read stamped (entries, c) ≡ (journal, Some stamps, complete)
        → AllFit stamped net entries → length entries ≤ 60000
        → text ≡ flat_map line (head_text stamped
        ∷ (map (line_text stamped net) entries ++ last_line (length entries) c ∷ [])) ++ []
        → (text ≡ stamped_journal_text net journal stamps complete) × IsJournal net journal
        × (length journal ≤ 60000) × AreStamps journal stamps
    go false entries c is fit few text_is =
        absurd (some_is_none stamps (ap (λ (r : ReadText). r.1) (sym is)))
    go true entries c is fit few text_is =
        stamped_is net text entries c journal stamps complete (ap (λ (r : ReadText). r.0) is)
        (some_same (ap (λ (r : ReadText). r.1) is)) (ap (λ (r : ReadText). r.2) is) fit few text_is
