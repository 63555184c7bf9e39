-- A printed text reads back, and its prefixes are at fault.
use Rattle.std.proofs.Common.{◌≡◌, ◌<◌, ◌≤◌, ◌+◌, ◌^◌, ℕ, suc, Bool, true, false, ◌==◌, cond, List, [], ◌∷◌, ◌++◌, map, length, Some, None, Ok, Err, refl, sym, ◌∙◌, ap, arith, subst}
use Rattle.std.specs.Prelude.{codes, flat_map, unwrap_or}
use Rattle.std.specs.List.{list_all, zip}
use Rattle.std.proofs.lemmas.Bool.{and_parts, eqb-true, and_from}
use Rattle.std.proofs.lemmas.List.{append-nil, append_assoc, length-append, length-map}
use Rattle.std.proofs.lemmas.Slice.Zip.{firsts-zip, seconds-zip}
use Rattle.polis_base.specs.Lines.{line}
use Rattle.polis_base.specs.Lists.{last_of}
use Rattle.domains.specs.Domains.{WordsDiffer}
use Rattle.transition_table.specs.declared.network.Network.{Network}
use Rattle.journals.specs.declared.entry.Entry.{Entry}
use Rattle.journals.specs.Journals.{IsJournal}
use Rattle.journal_text.specs.declared.fault.JournalFault.TheVariants.{Line}
use Rattle.journal_text.specs.declared.fault.JournalKind.TheVariants.{Shape, End}
use Rattle.journal_text.specs.Texts.{entry_line, stamp_text, entry_text, stamped_line, last_text, is_stamp, journal_text, stamped_journal_text}
use Rattle.journal_text.specs.Forms.{Text, Texts, lines_of}
use Rattle.polis_base.specs.Pieces.{pieces, is_nonempty, lacks}
use Rattle.journal_text.specs.Reading.{Timeline, ReadText, version_of, as_read, body_says, text_says, read_of}
use Rattle.journal_text.specs.Laws.{ReadsBack, StampedReadsBack, OneJournal, OneStampedJournal, OneVersion, PrefixFaults, StampedPrefixFaults, prefix_fault}
use Rattle.polis_base.proofs.AllPass.{differ_false}
use Rattle.polis_base.proofs.TextPieces.{joined_by, joined_pieces, some_piece}
use Rattle.journal_text.proofs.EntryForms.{Holds, holds_of}
use Rattle.journal_text.proofs.EntryIsPrinted.{ok_same}
use Rattle.journal_text.proofs.LinesSay.{line_text, AllFit, lines_from, entries_lack_lf, last_lacks_lf, last_is_said, entries_passed}
use Rattle.polis_base.proofs.Lists.{all_append}
use Rattle.polis_base.proofs.Places.{last_more}

abbrev pub head_text : Bool → Text
head_text false = codes "polis journal 1"
head_text true = codes "polis journal 2"

head_lacks : (stamped : Bool) → lacks 10 (head_text stamped) ≡ true
head_lacks false = refl
head_lacks true = refl

pub head_version : (stamped : Bool) → version_of (head_text stamped) ≡ Some stamped
head_version false = refl
head_version true = refl

-- the lines of a printed text
abbrev pub printed_lines : Bool → Network → Timeline → Text → Texts
printed_lines stamped net entries last =
    head_text stamped ∷ (map (line_text stamped net) entries ++ last ∷ [])

printed_lack : (stamped : Bool) (net : Network) (entries : Timeline) (journal : List Entry)
    (complete : Bool) → Holds net → AllFit stamped net entries → length journal < 2 ^ 64
    → list_all (lacks 10) (printed_lines stamped net entries (last_text journal complete)) ≡ true
printed_lack stamped net entries journal complete hold fit small =
    and_from _ _ (head_lacks stamped)
    (all_append (lacks 10) (map (line_text stamped net) entries)
    (last_text journal complete ∷ []) (entries_lack_lf stamped net entries hold fit)
    (and_from _ _ (last_lacks_lf journal complete small) refl))

body_from : (net : Network) (first : Text) (xs : Texts) (t : Text) (ts : Texts)
    → text_says net (first ∷ (xs ++ t ∷ ts)) ≡ body_says net (version_of first) (xs ++ t ∷ ts)
body_from net first [] t ts = refl
body_from net first (x ∷ xs) t ts = refl

-- what is said of the lines
said_whole : WordsDiffer
    → (stamped : Bool) (net : Network) (entries : Timeline) (journal : List Entry) (complete : Bool)
    → Holds net → AllFit stamped net entries → length entries ≡ length journal
    → length journal ≤ 60000
    → text_says net (head_text stamped
    ∷ (map (line_text stamped net) entries ++ last_text journal complete ∷ [] ∷ []))
    ≡ Ok (as_read stamped (entries, complete))
said_whole differ stamped net entries journal complete hold fit same few =
    let first = body_from net (head_text stamped) (map (line_text stamped net) entries)
    (last_text journal complete) ([] ∷ []) in
    let passed = entries_passed differ stamped net 2 [] entries (last_text journal complete)
    ([] ∷ []) hold fit (omega arith) in
    let last = last_is_said stamped net journal (length entries) complete same (omega arith) in
    first ∙ rw (head_version stamped, passed, last) refl

pub reads_back : WordsDiffer
    → (stamped : Bool) (net : Network) (entries : Timeline) (journal : List Entry) (complete : Bool)
    → Holds net → AllFit stamped net entries → length entries ≡ length journal
    → length journal ≤ 60000
    → read_of net (flat_map line (printed_lines stamped net entries (last_text journal complete))
    ++ []) ≡ Ok (as_read stamped (entries, complete))
reads_back differ stamped net entries journal complete hold fit same few =
    let cut = lines_from (printed_lines stamped net entries (last_text journal complete)) []
    (printed_lack stamped net entries journal complete hold fit (omega arith)) in
    let grouped = append_assoc (map (line_text stamped net) entries)
    (last_text journal complete ∷ []) ([] ∷ []) in
    ap (text_says net) (cut ∙ ap (λ ls. head_text stamped ∷ ls) grouped)
    ∙ said_whole differ stamped net entries journal complete hold fit same few

-- 1. The printed texts, line by line.
abbrev pub without_stamps : List Entry → Timeline
without_stamps journal = map (λ entry. (0, entry)) journal

plain_lines : (net : Network) (journal : List Entry)
    → flat_map (entry_line net) journal
    ≡ flat_map line (map (line_text false net) (without_stamps journal))
plain_lines net [] = refl
plain_lines net (entry ∷ journal) = ap (λ t. entry_line net entry ++ t) (plain_lines net journal)

stamped_lines : (net : Network) (entries : Timeline)
    → flat_map (stamped_line net) entries ≡ flat_map line (map (line_text true net) entries)
stamped_lines net [] = refl
stamped_lines net ((stamp, entry) ∷ rest) =
    ap (λ t. t ++ flat_map (stamped_line net) rest)
    (sym (append_assoc (stamp_text stamp) (entry_text net entry) (10 ∷ [])))
    ∙ ap (λ t. line (stamp_text stamp ++ entry_text net entry) ++ t) (stamped_lines net rest)

all_lines : (xs : Texts) (last : Text)
    → flat_map line (xs ++ last ∷ []) ≡ flat_map line xs ++ line last
all_lines [] last = append-nil (line last)
all_lines (x ∷ xs) last = ap (λ t. line x ++ t) (all_lines xs last)
    ∙ sym (append_assoc (line x) (flat_map line xs) (line last))

whole_text : (head last : Text) (xs : Texts)
    → line head ++ flat_map line xs ++ line last ≡ flat_map line (head ∷ (xs ++ last ∷ [])) ++ []
whole_text head last xs =
    append_assoc (line head) (flat_map line xs) (line last)
    ∙ ap (λ t. line head ++ t) (sym (all_lines xs last))
    ∙ sym (append-nil (flat_map line (head ∷ (xs ++ last ∷ []))))

pub plain_text : (net : Network) (journal : List Entry) (complete : Bool)
    → journal_text net journal complete
    ≡ flat_map line
    (printed_lines false net (without_stamps journal) (last_text journal complete)) ++ []
plain_text net journal complete =
    ap (λ t. line (codes "polis journal 1") ++ t ++ line (last_text journal complete))
    (plain_lines net journal)
    ∙ whole_text (codes "polis journal 1") (last_text journal complete)
    (map (line_text false net) (without_stamps journal))

pub stamped_text : (net : Network) (journal : List Entry) (stamps : List ℕ) (complete : Bool)
    → stamped_journal_text net journal stamps complete
    ≡ flat_map line (printed_lines true net (zip stamps journal) (last_text journal complete)) ++ []
stamped_text net journal stamps complete =
    ap (λ t. line (codes "polis journal 2") ++ t ++ line (last_text journal complete))
    (stamped_lines net (zip stamps journal))
    ∙ whole_text (codes "polis journal 2") (last_text journal complete)
    (map (line_text true net) (zip stamps journal))

plain_fit : (net : Network) (journal : List Entry) → IsJournal net journal
    → AllFit false net (without_stamps journal)
plain_fit net [] h = tt
plain_fit net (entry ∷ journal) h = (refl, h.0, plain_fit net journal h.1)

stamped_fit : (net : Network) (journal : List Entry) (stamps : List ℕ) → IsJournal net journal
    → list_all is_stamp stamps ≡ true → length stamps ≡ length journal
    → AllFit true net (zip stamps journal)
stamped_fit net [] [] h ok same = tt
stamped_fit net [] (stamp ∷ stamps) h ok same = absurd (omega arith)
stamped_fit net (entry ∷ journal) [] h ok same = absurd (omega arith)
stamped_fit net (entry ∷ journal) (stamp ∷ stamps) h ok same =
    let parts = and_parts (is_stamp stamp) _ ok in
    (parts.0, h.0, stamped_fit net journal stamps h.1 parts.1 (omega arith))

entries_kept : (journal : List Entry)
    → map (λ (p : ℕ × Entry). p.1) (without_stamps journal) ≡ journal
entries_kept [] = refl
entries_kept (entry ∷ journal) = ap (λ xs. entry ∷ xs) (entries_kept journal)

zip_length : (stamps : List ℕ) (journal : List Entry) → length stamps ≡ length journal
    → length (zip stamps journal) ≡ length journal
zip_length [] [] same = refl
zip_length [] (entry ∷ journal) same = absurd (omega arith)
zip_length (stamp ∷ stamps) [] same = absurd (omega arith)
zip_length (stamp ∷ stamps) (entry ∷ journal) same =
    ap suc (zip_length stamps journal (omega arith))

pub plain_reads_back : WordsDiffer → ReadsBack
plain_reads_back differ net journal complete prints =
    let read = reads_back differ false net (without_stamps journal) journal complete
    (holds_of net prints.0) (plain_fit net journal prints.1)
    (length-map journal (λ entry. (0, entry))) prints.2 in
    ap (read_of net) (plain_text net journal complete) ∙ read ∙ rw (entries_kept journal) refl

pub stamped_reads_back : WordsDiffer → StampedReadsBack
stamped_reads_back differ net journal stamps complete prints ok =
    let read = reads_back differ true net (zip stamps journal) journal complete
    (holds_of net prints.0) (stamped_fit net journal stamps prints.1 ok.0 ok.1)
    (zip_length stamps journal ok.1) prints.2 in
    ap (read_of net) (stamped_text net journal stamps complete) ∙ read
    ∙ rw (firsts-zip stamps journal (sym ok.1), seconds-zip stamps journal (sym ok.1)) refl

-- two texts that are the same read the same
same_read : (net : Network) (x y : Text) (r q : ReadText) → x ≡ y → read_of net x ≡ Ok r
    → read_of net y ≡ Ok q → r ≡ q
same_read net x y r q e first second = ok_same (sym first ∙ ap (read_of net) e ∙ second)

abbrev stamps_in : ReadText → List ℕ
stamps_in read = unwrap_or read.1 []

pub one_journal : WordsDiffer → OneJournal
one_journal differ net j k a b first second e =
    let same = same_read net _ _ _ _ e (plain_reads_back differ net j a first)
    (plain_reads_back differ net k b second) in
    (ap (λ (r : ReadText). r.0) same, ap (λ (r : ReadText). r.2) same)

pub one_stamped_journal : WordsDiffer → OneStampedJournal
one_stamped_journal differ net j k s t a b first second f g e =
    let same = same_read net _ _ _ _ e (stamped_reads_back differ net j s a first f)
    (stamped_reads_back differ net k t b second g) in
    (ap (λ (r : ReadText). r.0) same, ap stamps_in same, ap (λ (r : ReadText). r.2) same)

pub one_version : WordsDiffer → OneVersion
one_version differ net j k t a b first second g e =
    let same = same_read net _ _ _ _ e (plain_reads_back differ net j a first)
    (stamped_reads_back differ net k t b second g) in
    let stamps : None ≡ Some t = ap (λ (r : ReadText). r.1) same in
    cc

-- 2. The pieces of a prefix.
abbrev PrefixOf : ℕ → Text → Text → Texts → Text → Type 0
PrefixOf mark prefix more init last =
    (pieces mark prefix ≡ init ++ last ∷ [])
    × ((q : Text) (qs : Texts) → pieces mark more ≡ q ∷ qs
    → pieces mark (prefix ++ more) ≡ init ++ (last ++ q) ∷ qs)

pieces_of_prefix : (mark : ℕ) (prefix more : Text)
    → (init : Texts) × (last : Text) × PrefixOf mark prefix more init last
pieces_of_prefix mark [] more = ([], [], (refl, λ q qs e. e))
pieces_of_prefix mark (c ∷ prefix) more =
    let r = pieces_of_prefix mark prefix more in
    go (c == mark) refl r.0 r.1 r.2
  where
    inner : (i : Text) (init : Texts) (last : Text) → (c == mark) ≡ false
        → PrefixOf mark prefix more (i ∷ init) last
        → PrefixOf mark (c ∷ prefix) more ((c ∷ i) ∷ init) last
    inner i init last p f = (rw (p, f.0) refl, λ q qs e. rw (p, f.1 q qs e) refl)

    only : (last : Text) → (c == mark) ≡ false → PrefixOf mark prefix more [] last
        → PrefixOf mark (c ∷ prefix) more [] (c ∷ last)
    only last p f = (rw (p, f.0) refl, λ q qs e. rw (p, f.1 q qs e) refl)

    marked : (init : Texts) (last : Text) → (c == mark) ≡ true → PrefixOf mark prefix more init last
        → PrefixOf mark (c ∷ prefix) more ([] ∷ init) last
    marked init last p f = (rw (p, f.0) refl, λ q qs e. rw (p, f.1 q qs e) refl)

    go : (b : Bool) → (c == mark) ≡ b → (init : Texts) (last : Text)
        → PrefixOf mark prefix more init last
        → (init2 : Texts) × (last2 : Text) × PrefixOf mark (c ∷ prefix) more init2 last2
    go true p init last f = ([] ∷ init, last, marked init last p f)
    go false p [] last f = ([], c ∷ last, only last p f)
    go false p (i ∷ init) last f = ((c ∷ i) ∷ init, last, inner i init last p f)

nothing_before : (xs ys : Text) → xs ++ ys ≡ [] → ys ≡ []
nothing_before [] ys h = h
nothing_before (x ∷ xs) ys h = cc

abbrev tail_of : Texts → Texts
tail_of [] = []
tail_of (x ∷ xs) = xs

-- lines that end in nothing, cut before their end
cut_before : (ls init : Texts) (x : Text) (qs : Texts) → (qs ≡ [] → ⊥)
    → ls ++ [] ∷ [] ≡ init ++ x ∷ qs → (r : Text) × (rest : Texts) × (ls ≡ init ++ r ∷ rest)
cut_before [] [] x qs some e =
    let none : [] ≡ qs = ap tail_of e in
    absurd (some (sym none))
cut_before (l ∷ ls) [] x qs some e = (l, ls, refl)
cut_before [] (i ∷ []) x qs some e = cc
cut_before [] (i ∷ j ∷ init) x qs some e = cc
cut_before (l ∷ ls) (i ∷ init) x qs some e =
    let first : l ≡ i = cc in
    let rest : ls ++ [] ∷ [] ≡ init ++ x ∷ qs = cc in
    let r = cut_before ls init x qs some rest in
    (r.0, r.1, rw (first, r.2) refl)

-- entries' lines cut before the last line
entries_cut : (stamped : Bool) (net : Network) (entries : Timeline) (last : Text) (init : Texts)
    (r : Text) (rest : Texts) → map (line_text stamped net) entries ++ last ∷ [] ≡ init ++ r ∷ rest
    → (prefix : Timeline) × (back : Timeline) × (entries ≡ prefix ++ back)
    × (init ≡ map (line_text stamped net) prefix)
entries_cut stamped net entries last [] r rest e = ([], entries, refl, refl)
entries_cut stamped net [] last (i ∷ []) r rest e = cc
entries_cut stamped net [] last (i ∷ j ∷ init) r rest e = cc
entries_cut stamped net (p ∷ entries) last (i ∷ init) r rest e =
    let first : line_text stamped net p ≡ i = cc in
    let more : map (line_text stamped net) entries ++ last ∷ [] ≡ init ++ r ∷ rest = cc in
    let s = entries_cut stamped net entries last init r rest more in (
      p ∷ s.0,
      s.1,
      ap (λ xs. p ∷ xs) s.2,
      ap (λ x. x ∷ init) (sym first)
          ∙ ap (λ xs. line_text stamped net p ∷ xs) s.3,
    )

prefix_fits : (stamped : Bool) (net : Network) (prefix back : Timeline)
    → AllFit stamped net (prefix ++ back) → AllFit stamped net prefix
prefix_fits stamped net [] back h = tt
prefix_fits stamped net ((stamp, entry) ∷ prefix) back h =
    (h.0, h.1, prefix_fits stamped net prefix back h.2)

-- the fault of a prefix
lines_fault : WordsDiffer → (stamped : Bool) (net : Network) (prefix : Timeline) (last : Text)
    → Holds net → AllFit stamped net prefix → length prefix ≤ 60000
    → text_says net (head_text stamped ∷ (map (line_text stamped net) prefix ++ last ∷ []))
    ≡ Err (prefix_fault (head_text stamped ∷ (map (line_text stamped net) prefix ++ last ∷ [])))
lines_fault differ stamped net prefix last hold fit few =
    let first = body_from net (head_text stamped) (map (line_text stamped net) prefix) last [] in
    let passed = entries_passed differ stamped net 2 [] prefix last [] hold fit (omega arith) in
    let len : suc (length (map (line_text stamped net) prefix ++ last ∷ [])) ≡ 2 + length prefix =
    rw (
      length-append (map (line_text stamped net) prefix) (last ∷ []),
      length-map prefix (line_text stamped net),
    ) (omega arith) in
    let more : (2 + length prefix == 1) ≡ false =
    differ_false (2 + length prefix == 1) (λ e. let same = eqb-true (2 + length prefix) 1 e in
    absurd (omega arith)) in
    let ends = last_more (head_text stamped) last (map (line_text stamped net) prefix) in
    let said : text_says net (head_text stamped ∷ (map (line_text stamped net) prefix ++ last ∷ []))
    ≡ Err (Line (2 + length prefix) (cond (is_nonempty last) Shape End)) =
    first ∙ rw (head_version stamped, passed) refl in
    said ∙ sym (rw (len, more, ends) refl)

prefix_short : (entries prefix back : Timeline) (n : ℕ) → entries ≡ prefix ++ back
    → length entries ≡ n → n ≤ 60000 → length prefix ≤ 60000
prefix_short entries prefix back n is len few =
    let both : length entries ≡ length prefix + length back =
    ap length is ∙ length-append prefix back in
    omega arith

pub prefix_is_at_fault : WordsDiffer
    → (stamped : Bool) (net : Network) (entries : Timeline) (journal : List Entry) (complete : Bool)
    (prefix : Text) (c : ℕ) (rest : Text) → Holds net → AllFit stamped net entries
    → length entries ≡ length journal → length journal ≤ 60000
    → flat_map line (printed_lines stamped net entries (last_text journal complete)) ++ []
    ≡ prefix ++ c ∷ rest → read_of net prefix ≡ Err (prefix_fault (lines_of prefix))
prefix_is_at_fault differ stamped net entries journal complete prefix c rest hold fit same_length
    few is =
    let ls = printed_lines stamped net entries (last_text journal complete) in
    let cut = lines_from ls []
    (printed_lack stamped net entries journal complete hold fit (omega arith)) in
    let f = pieces_of_prefix 10 prefix (c ∷ rest) in
    let q = some_piece 10 (c ∷ rest) in
    let both : ls ++ [] ∷ [] ≡ f.0 ++ (f.1 ++ q.0) ∷ q.1 =
    sym cut ∙ ap lines_of is ∙ f.2.1 q.0 q.1 q.2 in
    let some : q.1 ≡ [] → ⊥ = λ none.
    let ends : ls ++ [] ∷ [] ≡ f.0 ++ (f.1 ++ q.0) ∷ [] =
    both ∙ ap (λ qs. f.0 ++ (f.1 ++ q.0) ∷ qs) none in
    let empty : [] ≡ f.1 ++ q.0 = sym (last_more [] [] ls) ∙ ap (last_of []) ends
    ∙ last_more [] (f.1 ++ q.0) f.0 in
    let piece : q.0 ≡ [] = nothing_before f.1 q.0 (sym empty) in
    let nothing : c ∷ rest ≡ [] = sym (joined_pieces 10 (c ∷ rest))
    ∙ ap (joined_by 10) (q.2 ∙ ap (λ w. w ∷ q.1) piece ∙ ap (λ ws. [] ∷ ws) none) in
    cc in
    let before = cut_before ls f.0 (f.1 ++ q.0) q.1 some both in
    rw f.2.0 (go f.0 f.1 before.0 before.1 before.2)
  where
    go : (init : Texts) (last r : Text) (more : Texts)
        → head_text stamped
        ∷ (map (line_text stamped net) entries ++ last_text journal complete ∷ [])
        ≡ init ++ r ∷ more
        → text_says net (init ++ last ∷ []) ≡ Err (prefix_fault (init ++ last ∷ []))
    go [] last r more e = refl
    go (i ∷ init) last r more e =
        let first : head_text stamped ≡ i = cc in
        let others : map (line_text stamped net) entries ++ last_text journal complete ∷ []
        ≡ init ++ r ∷ more = cc in
        let s = entries_cut stamped net entries (last_text journal complete) init r more others in
        let fits = prefix_fits stamped net s.0 s.1 (subst (AllFit stamped net) s.2 fit) in
        let same : head_text stamped ∷ map (line_text stamped net) s.0 ≡ i ∷ init =
        ap (λ x. x ∷ map (line_text stamped net) s.0) first ∙ ap (λ xs. i ∷ xs) (sym s.3) in
        subst (λ (ls : Texts). text_says net (ls ++ last ∷ [])
        ≡ Err (prefix_fault (ls ++ last ∷ []))) same
        (lines_fault differ stamped net s.0 last hold fits
        (prefix_short entries s.0 s.1 (length journal) s.2 same_length few))

pub plain_prefix_faults : WordsDiffer → PrefixFaults
plain_prefix_faults differ net journal complete prefix c rest prints is =
    prefix_is_at_fault differ false net (without_stamps journal) journal complete prefix c rest
    (holds_of net prints.0) (plain_fit net journal prints.1)
    (length-map journal (λ entry. (0, entry))) prints.2
    (sym (plain_text net journal complete) ∙ is)

pub stamped_prefix_faults : WordsDiffer → StampedPrefixFaults
stamped_prefix_faults differ net journal stamps complete prefix c rest prints ok is =
    prefix_is_at_fault differ true net (zip stamps journal) journal complete prefix c rest
    (holds_of net prints.0) (stamped_fit net journal stamps prints.1 ok.0 ok.1)
    (zip_length stamps journal ok.1) prints.2
    (sym (stamped_text net journal stamps complete) ∙ is)
