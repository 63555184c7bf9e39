-- Lines that are read one by one.
use Rattle.std.proofs.Common.{◌≡◌, ◌≢◌, ◌≤◌, ◌+◌, ◌==◌, ℕ, suc, Bool, true, false, cond, List, [], ◌∷◌, ◌++◌, length, Option, Some, None, IfSome, IfOk, IfErr, Result, Ok, Err, refl, sym, ◌∙◌, ap, arith}
use Rattle.std.specs.List.{zip}
use Rattle.std.specs.Bool.{then_some}
use Rattle.std.proofs.lemmas.Bool.{eqb-true}
use Rattle.std.proofs.lemmas.List.{length-append}
use Rattle.std.proofs.lemmas.Slice.Zip.{firsts-zip, seconds-zip}
use Rattle.transition_table.specs.declared.network.Network.{Network}
use Rattle.journals.specs.declared.entry.Entry.{Entry}
use Rattle.journals.specs.Journals.{IsJournal}
use Rattle.journal_text.specs.Texts.{AreStamps}
use Rattle.journal_text.specs.Forms.{Text, Texts, lines_of}
use Rattle.polis_base.specs.Pieces.{with_byte}
use Rattle.journal_text.specs.Reading.{Timeline, Said, More, Last, Bad, line_says, went_on, ended, lines_say, version_of, ReadText, read_as, body_says, text_says, read_of}
use Rattle.journal_text.specs.declared.fault.JournalFault.{JournalFault}
use Rattle.journal_text.specs.declared.fault.JournalFault.TheVariants.{Line, NoMemory}
use Rattle.journal_text.specs.declared.codes.Stop.{Stop}
use Rattle.journal_text.specs.declared.codes.Stop.TheVariants.{Kind, NoMemory as OutOfMemory}
use Rattle.journal_text.specs.declared.read.ReadJournal.{ReadJournal}
use Rattle.journal_text.specs.inner.Lines.{at_line}
use Rattle.journal_text.specs.declared.fault.JournalKind.{JournalKind}
use Rattle.journal_text.specs.declared.fault.JournalKind.TheVariants.{After}
use Rattle.polis_base.proofs.TextPieces.{some_piece}
use Rattle.journal_text.proofs.ReadIsPrinted.{line_only, read_is_printed, stamped_read_is_printed}

-- the lines before the rest are read, and gave these entries with these stamps
pub record IsRead (net : Network) (stamped : Bool) (text : Text) (stamps : List ℕ)
    (journal : List Entry) (rest : Text) : Type 0 where
  pub same : length stamps ≡ length journal
  pub few : length journal ≤ 60000
  pub says : lines_say stamped net 2 [] (lines_of text)
      ≡ lines_say stamped net (length journal + 2) (zip stamps journal) (lines_of rest)

zip_length : (stamps : List ℕ) (journal : List Entry) → length stamps ≡ length journal
    → length (zip stamps journal) ≡ length journal
zip_length [] [] same = refl
zip_length [] (entry ∷ journal) same = absurd (omega arith)
zip_length (stamp ∷ stamps) [] same = absurd (omega arith)
zip_length (stamp ∷ stamps) (entry ∷ journal) same =
    ap suc (zip_length stamps journal (omega arith))

zip_more : (stamps : List ℕ) (journal : List Entry) (stamp : ℕ) (entry : Entry)
    → length stamps ≡ length journal → zip (stamps ++ stamp ∷ []) (journal ++ entry ∷ [])
    ≡ zip stamps journal ++ (stamp, entry) ∷ []
zip_more [] [] stamp entry same = refl
zip_more [] (e ∷ journal) stamp entry same = absurd (omega arith)
zip_more (s ∷ stamps) [] stamp entry same = absurd (omega arith)
zip_more (s ∷ stamps) (e ∷ journal) stamp entry same =
    ap (λ xs. (s, e) ∷ xs) (zip_more stamps journal stamp entry (omega arith))

-- what the lines say, by what the next one does
by_next : (net : Network) (stamped : Bool) (text : Text) (stamps : List ℕ) (journal : List Entry)
    (rest first after : Text) (said : Said)
    → IsRead net stamped text stamps journal rest → lines_of rest ≡ first ∷ lines_of after
    → line_says stamped net (length journal) first ≡ said
    → lines_say stamped net 2 [] (lines_of text)
    ≡ went_on (length journal + 2) (zip stamps journal) (lines_of after)
    (λ more. lines_say stamped net (length journal + 2 + 1) more (lines_of after)) said
by_next net stamped text stamps journal rest first after said read cut is =
    let s = some_piece 10 after in
    let len = zip_length stamps journal read.same in
    read.says ∙ ap (lines_say stamped net (length journal + 2) (zip stamps journal))
    (cut ∙ ap (λ ls. first ∷ ls) s.2)
    ∙ ap (λ n. went_on (length journal + 2) (zip stamps journal) (s.0 ∷ s.1)
    (λ more. lines_say stamped net (length journal + 2 + 1) more (s.0 ∷ s.1))
    (line_says stamped net n first)) len
    ∙ ap (λ ls. went_on (length journal + 2) (zip stamps journal) ls
    (λ more. lines_say stamped net (length journal + 2 + 1) more ls)
    (line_says stamped net (length journal) first)) (sym s.2)
    ∙ ap (went_on (length journal + 2) (zip stamps journal) (lines_of after)
    (λ more. lines_say stamped net (length journal + 2 + 1) more (lines_of after))) is

-- one entry more
pub one_more_read : (net : Network) (stamped : Bool) (text : Text) (stamps : List ℕ)
    (journal : List Entry) (rest first after : Text) (stamp : ℕ) (entry : Entry) (stamps2 : List ℕ)
    (journal2 : List Entry)
    → IsRead net stamped text stamps journal rest → lines_of rest ≡ first ∷ lines_of after
    → line_says stamped net (length journal) first ≡ More (stamp, entry)
    → stamps2 ≡ stamps ++ stamp ∷ [] → journal2 ≡ journal ++ entry ∷ []
    → IsRead net stamped text stamps2 journal2 after
one_more_read net stamped text stamps journal rest first after stamp entry stamps2 journal2 read cut
    is s j =
    let line = line_only stamped net (length journal) first stamp entry is in
    let long = length-append journal (entry ∷ []) in
    let stamps_long = length-append stamps (stamp ∷ []) in
    let next : length journal + 2 + 1 ≡ length (journal ++ entry ∷ []) + 2 = omega (arith, long) in
    rw (s, j) (record {
      same = omega (arith, long, stamps_long, read.same);
      few = omega (arith, long, line.3);
      says = by_next net stamped text stamps journal rest first after (More (stamp, entry))
          read cut is
          ∙ ap (λ n. lines_say stamped net n (zip stamps journal ++ (stamp, entry) ∷ [])
          (lines_of after)) next
          ∙ ap (λ xs. lines_say stamped net (length (journal ++ entry ∷ []) + 2) xs
          (lines_of after)) (sym (zip_more stamps journal stamp entry read.same));
    })

-- a line at fault
pub line_at_fault : (net : Network) (stamped : Bool) (text : Text) (stamps : List ℕ)
    (journal : List Entry) (rest first after : Text) (kind : JournalKind)
    → IsRead net stamped text stamps journal rest → lines_of rest ≡ first ∷ lines_of after
    → line_says stamped net (length journal) first ≡ Bad kind
    → body_says net (Some stamped) (lines_of text) ≡ Err (Line (length journal + 2) kind)
line_at_fault net stamped text stamps journal rest first after kind read cut is =
    ap (read_as stamped)
    (by_next net stamped text stamps journal rest first after (Bad kind) read cut is)

-- a line that wasn't read to its end
pub line_stopped : (net : Network) (stamped : Bool) (text : Text) (stamps : List ℕ)
    (journal : List Entry) (rest first after : Text) (stop : Stop) (fault : JournalFault)
    → IsRead net stamped text stamps journal rest → lines_of rest ≡ first ∷ lines_of after
    → ((kind : JournalKind) → stop ≡ Kind kind
    → line_says stamped net (length journal) first ≡ Bad kind)
    → at_line (length journal + 2) stop ≡ fault → fault ≢ NoMemory
    → body_says net (Some stamped) (lines_of text) ≡ Err fault
line_stopped net stamped text stamps journal rest first after (Kind kind) fault read cut says
    is other =
    line_at_fault net stamped text stamps journal rest first after kind read cut (says kind refl)
    ∙ ap Err is
line_stopped net stamped text stamps journal rest first after OutOfMemory fault read cut says is
    other = absurd (other (sym is))

-- the last line
pub last_said : (net : Network) (stamped : Bool) (text : Text) (stamps : List ℕ)
    (journal : List Entry) (rest first after : Text) (complete : Bool)
    → IsRead net stamped text stamps journal rest → lines_of rest ≡ first ∷ lines_of after
    → line_says stamped net (length journal) first ≡ Last complete
    → body_says net (Some stamped) (lines_of text)
    ≡ read_as stamped (ended (length journal + 2) (lines_of after) (zip stamps journal, complete))
last_said net stamped text stamps journal rest first after complete read cut is =
    ap (read_as stamped)
    (by_next net stamped text stamps journal rest first after (Last complete) read cut is)

-- bytes after the last line
pub bytes_after : (line : ℕ) (after : Text) (read : Timeline × Bool) → (length after == 0) ≡ false
    → ended line (lines_of after) read ≡ Err (Line (line + 1) After)
bytes_after line [] read h = cc
bytes_after line (c ∷ xs) read h =
    let s = some_piece 10 xs in
    ap (λ ls. ended line (with_byte (c == 10) c ls) read) s.2 ∙ at (c == 10) s.0 s.1
  where
    at : (b : Bool) (w : Text) (ws : Texts)
        → ended line (with_byte b c (w ∷ ws)) read ≡ Err (Line (line + 1) After)
    at true w [] = refl
    at true w (v ∷ ws) = refl
    at false w [] = refl
    at false w (v ∷ ws) = refl

-- nothing after the last line
pub all_read : (line : ℕ) (after : Text) (stamped : Bool) (stamps : List ℕ) (journal : List Entry)
    (complete : Bool) → (length after == 0) ≡ true → length stamps ≡ length journal
    → read_as stamped (ended line (lines_of after) (zip stamps journal, complete))
    ≡ Ok (journal, then_some stamped stamps, complete)
all_read line (c ∷ after) stamped stamps journal complete none same =
    let zero : length (c ∷ after) ≡ 0 = eqb-true (length (c ∷ after)) 0 none in
    absurd (omega arith)
all_read line [] stamped stamps journal complete none same =
    rw (firsts-zip stamps journal (sym same), seconds-zip stamps journal (sym same))
    (as_option stamped)
  where
    as_option : (b : Bool)
        → ◌≡◌ {A = Result ReadText JournalFault} (Ok (journal, cond b (Some stamps) None, complete))
        (Ok (journal, then_some b stamps, complete))
    as_option true = refl
    as_option false = refl

-- the first line
pub by_first : (net : Network) (text first rest : Text) → lines_of text ≡ first ∷ lines_of rest
    → read_of net text ≡ body_says net (version_of first) (lines_of rest)
by_first net text first rest cut =
    let s = some_piece 10 rest in
    ap (text_says net) (cut ∙ ap (λ ls. first ∷ ls) s.2)
    ∙ ap (body_says net (version_of first)) (sym s.2)

-- what is read is a journal of the network, not too long, with one stamp an entry where there are
-- stamps
pub read_fits : (net : Network) (text : Text) (journal : List Entry) (stamps : Option (List ℕ))
    (complete : Bool) → read_of net text ≡ Ok (journal, stamps, complete)
    → IsJournal net journal × (length journal ≤ 60000) × IfSome stamps (AreStamps journal)
read_fits net text journal None complete h =
    let r = read_is_printed net text journal complete h in
    (r.1, r.2, tt)
read_fits net text journal (Some stamps) complete h =
    let r = stamped_read_is_printed net text journal stamps complete h in
    (r.1, r.2, r.3)

-- where it is read, it fits
abbrev pub IsReadOf : Result ReadText JournalFault → Result ReadJournal JournalFault → Type 0
IsReadOf says result = IfOk result (λ r. says ≡ Ok (r.journal, r.stamps, r.says_complete))

pub read_is_journal : (net : Network) (text : Text) (says : Result ReadText JournalFault)
    (result : Result ReadJournal JournalFault) → read_of net text ≡ says → IsReadOf says result
    → IfOk result (λ r. IsJournal net r.journal)
read_is_journal net text says (Err fault) is h = tt
read_is_journal net text says (Ok r) is h =
    (read_fits net text r.journal r.stamps r.says_complete (is ∙ h)).0

pub read_is_short : (net : Network) (text : Text) (says : Result ReadText JournalFault)
    (result : Result ReadJournal JournalFault) → read_of net text ≡ says → IsReadOf says result
    → IfOk result (λ r. length r.journal ≤ 60000)
read_is_short net text says (Err fault) is h = tt
read_is_short net text says (Ok r) is h =
    (read_fits net text r.journal r.stamps r.says_complete (is ∙ h)).1

pub read_has_stamps : (net : Network) (text : Text) (says : Result ReadText JournalFault)
    (result : Result ReadJournal JournalFault) → read_of net text ≡ says → IsReadOf says result
    → IfOk result (λ r. IfSome r.stamps (AreStamps r.journal))
read_has_stamps net text says (Err fault) is h = tt
read_has_stamps net text says (Ok r) is h =
    (read_fits net text r.journal r.stamps r.says_complete (is ∙ h)).2

-- the first line of a text is that of a version
pub by_version : (net : Network) (text first rest : Text) (o : Option Bool) (stamped : Bool)
    → lines_of text ≡ first ∷ lines_of rest → o ≡ version_of first → o ≡ Some stamped
    → read_of net text ≡ body_says net (Some stamped) (lines_of rest)
by_version net text first rest o stamped cut version is =
    by_first net text first rest cut ∙ ap (λ v. body_says net v (lines_of rest)) (sym version ∙ is)

pub read_at_last : (net : Network) (stamped : Bool) (text : Text)
    (says : Result ReadText JournalFault) (result : Result ReadJournal JournalFault)
    → body_says net (Some stamped) (lines_of text) ≡ says → IsReadOf says result
    → IsReadOf (body_says net (Some stamped) (lines_of text)) result
read_at_last net stamped text says (Err fault) is h = tt
read_at_last net stamped text says (Ok r) is h = is ∙ h

pub fault_at_last : (says : Result ReadText JournalFault) (result : Result ReadJournal JournalFault)
    (fault : JournalFault) → IfErr result (λ f. says ≡ Err f) → result ≡ Err fault
    → says ≡ Err fault
fault_at_last says (Ok r) fault h is = cc
fault_at_last says (Err f) fault h is =
    let same : f ≡ fault = cc in
    h ∙ ap Err same
