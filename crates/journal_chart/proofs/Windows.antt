-- The entries that a chart shows, and their lines.
use Rattle.std.proofs.Common.{◌≡◌, ℕ, zero, suc, ◌+◌, ◌-◌, ◌<◌, min, List, [], ◌∷◌, ◌++◌, map, length, take, drop, slice_get, Some, refl, sym, ap, ◌∙◌, subst, arith}
use Rattle.std.proofs.lemmas.List.{append_assoc}
use Rattle.std.proofs.lemmas.Option.{slice_get_within}
use Rattle.polis_base.specs.Lists.{numbered, upto}
use Rattle.polis_base.proofs.Places.{drop_one, same_some}
use Rattle.polis_base.proofs.UptoPlaces.{get_map_upto}
use Rattle.transition_table.specs.declared.network.Network.{Network}
use Rattle.journals.specs.declared.entry.Entry.{Entry}
use Rattle.journals.specs.declared.entry.Entry.TheVariants.{Dep, Rea}
use Rattle.journals.specs.Journals.{IsJournal}
use Rattle.journal_chart.specs.Chart.{chart_line}
use Rattle.journal_chart.specs.Columns.{shown, width_of}
use Rattle.journal_chart.specs.Labels.{picture}
use Rattle.journal_chart.specs.Notes.{notes}
use Rattle.journal_chart.specs.inner.Lines.{line_of, notes_with}
use Rattle.journal_chart.specs.inner.Marks.{loss_mark, loss_mark_at, lost_notes}
use Rattle.journal_chart.proofs.MarksAfter.{loss_at, notes_by_mark}

-- ---- which are shown

fits_taken : (net : Network) (n : ℕ) (j : List Entry) → IsJournal net j → IsJournal net (take n j)
fits_taken net zero j fits = tt
fits_taken net (suc n) [] fits = tt
fits_taken net (suc n) (x ∷ j) fits = (fits.0, fits_taken net n j fits.1)

fits_dropped : (net : Network) (n : ℕ) (j : List Entry) → IsJournal net j → IsJournal net (drop n j)
fits_dropped net zero j fits = fits
fits_dropped net (suc n) [] fits = tt
fits_dropped net (suc n) (x ∷ j) fits = fits_dropped net n j fits.1

pub shown_fits : (net : Network) (j entries : List Entry) (from to : ℕ) → IsJournal net j
    → entries ≡ shown j from to → IsJournal net entries
shown_fits net j entries from to fits is =
    subst (IsJournal net) (sym is)
    (fits_taken net (to - from) (drop from j) (fits_dropped net from j fits))

at_taken : (n : ℕ) (xs : List Entry) (k : ℕ) (x : Entry) → slice_get (take n xs) k ≡ Some x
    → slice_get xs k ≡ Some x
at_taken zero xs k x at = cc
at_taken (suc n) [] k x at = at
at_taken (suc n) (y ∷ xs) zero x at = at
at_taken (suc n) (y ∷ xs) (suc k) x at = at_taken n xs k x at

taken_low : (n : ℕ) (xs : List Entry) (k : ℕ) (x : Entry) → slice_get (take n xs) k ≡ Some x
    → k < n
taken_low zero xs k x at = cc
taken_low (suc n) [] k x at = cc
taken_low (suc n) (y ∷ xs) zero x at = omega arith
taken_low (suc n) (y ∷ xs) (suc k) x at = let low = taken_low n xs k x at in omega arith

at_dropped : (from : ℕ) (xs : List Entry) (k : ℕ) (x : Entry) → slice_get (drop from xs) k ≡ Some x
    → slice_get xs (from + k) ≡ Some x
at_dropped zero xs k x at = ap (slice_get xs) (none k) ∙ at
  where
    none : (k : ℕ) → 0 + k ≡ k
    none k = omega arith
at_dropped (suc from) [] k x at = cc
at_dropped (suc from) (y ∷ xs) k x at = ap (slice_get (y ∷ xs)) (next from k)
    ∙ at_dropped from xs k x at
  where
    next : (n k : ℕ) → suc n + k ≡ suc (n + k)
    next n k = omega arith

pub shown_at : (j entries : List Entry) (from to k : ℕ) (x : Entry) → entries ≡ shown j from to
    → slice_get entries k ≡ Some x → slice_get j (from + k) ≡ Some x
shown_at j entries from to k x is at =
    at_dropped from j k x
    (at_taken (to - from) (drop from j) k x (ap (λ (l : List Entry). slice_get l k) (sym is) ∙ at))

pub shown_low : (j entries : List Entry) (from to k : ℕ) (x : Entry) → entries ≡ shown j from to
    → slice_get entries k ≡ Some x → from + k < min to (length j)
shown_low j entries from to k x is at =
    low from to k (length j)
    (taken_low (to - from) (drop from j) k x (ap (λ (l : List Entry). slice_get l k) (sym is) ∙ at))
    (slice_get_within j (from + k) x (shown_at j entries from to k x is at))
  where
    low : (from to k n : ℕ) → k < to - from → from + k < n → from + k < min to n
    low from to k n one other = omega arith

pub mark_shown : (net : Network) (j entries : List Entry) (marks : List ℕ) (from to end k : ℕ)
    (x : Entry) → entries ≡ shown j from to → end ≡ min to (length j)
    → marks ≡ map (loss_mark_at net j) (upto end) → slice_get entries k ≡ Some x
    → slice_get marks (from + k) ≡ Some (loss_mark_at net j (from + k))
mark_shown net j entries marks from to end k x is ends are at =
    ap (λ (l : List ℕ). slice_get l (from + k)) are
    ∙ get_map_upto (loss_mark_at net j) end (from + k)
    (subst (λ (n : ℕ). from + k < n) (sym ends) (shown_low j entries from to k x is at))

-- ---- their lines

notes_are : (net : Network) (width mark : ℕ) (before : List Entry) (x : Entry)
    → mark ≡ loss_mark net before x → notes_with net width mark x ≡ notes net width before x
notes_are net width mark before (Dep from to event code) is =
    ap lost_notes is ∙ notes_by_mark net before (Dep from to event code)
notes_are net width mark before (Rea m s o) is = refl

pub lines_more : (net : Network) (j entries : List Entry) (from k mark : ℕ) (x : Entry)
    (out new whole marks : List ℕ)
    → slice_get entries k ≡ Some x
    → slice_get j (from + k) ≡ Some x
    → slice_get marks (from + k) ≡ Some mark
    → slice_get marks (from + k) ≡ Some (loss_mark_at net j (from + k))
    → new ≡ out
    ++ line_of (from + k) (picture net entries x)
    (notes_with net (width_of net entries) mark x)
    → out ++ numbered (chart_line net j entries) (from + k) (drop k entries) ≡ whole
    → new ++ numbered (chart_line net j entries) (from + (k + 1)) (drop (k + 1) entries) ≡ whole
lines_more net j entries from k mark x out new whole marks at there read mark_is made was =
    ap (λ (l : List ℕ). l ++ rest) (made ∙ ap (λ (l : List ℕ). out ++ l) here)
    ∙ append_assoc out (text (from + k) x) rest
    ∙ ap (λ (n : ℕ). out ++ (text (from + k) x ++ numbered text n (drop (k + 1) entries)))
    (place from k)
    ∙ ap (λ (n : ℕ). out ++ (text (from + k) x ++ numbered text (suc (from + k)) (drop n entries)))
    (next k)
    ∙ ap (λ (l : List Entry). out ++ numbered text (from + k) l) (sym (drop_one entries k x at))
    ∙ was
  where
    text : ℕ → Entry → List ℕ
    text = chart_line net j entries

    rest : List ℕ
    rest = numbered text (from + (k + 1)) (drop (k + 1) entries)

    place : (n k : ℕ) → n + (k + 1) ≡ suc (n + k)
    place n k = omega arith

    next : (k : ℕ) → k + 1 ≡ suc k
    next k = omega arith

    here : line_of (from + k) (picture net entries x)
        (notes_with net (width_of net entries) mark x) ≡ text (from + k) x
    here =
        ap (λ (l : List (List ℕ)). line_of (from + k) (picture net entries x) l)
        (notes_are net (width_of net entries) mark (take (from + k) j) x
        (same_some (slice_get marks (from + k)) mark (loss_mark_at net j (from + k)) read mark_is
        ∙ sym (loss_at net j (from + k) x there)))
