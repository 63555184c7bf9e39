-- The marks of buffers, one entry more.
use Rattle.std.proofs.Common.{◌≡◌, ℕ, zero, suc, ◌+◌, ◌-◌, ◌<◌, ◌≤◌, Bool, true, false, cond, not, ◌==◌, ◌&&◌, List, [], ◌∷◌, ◌++◌, map, length, replicate, take, drop, slice_get, slice_set, Option, Some, refl, sym, ap, ◌∙◌, arith, codes, decimal}
use Rattle.std.specs.Option.{option_map_or}
use Rattle.std.proofs.lemmas.Bool.{eq-eqb, eqb-true, ne_eqb}
use Rattle.std.proofs.lemmas.List.{append_assoc, append-nil}
use Rattle.polis_base.specs.Lists.{upto, last_of, places_from, places_where}
use Rattle.polis_base.proofs.Places.{drop_one, length_map, same_some}
use Rattle.polis_base.proofs.UptoPlaces.{get_map_upto, length_upto}
use Rattle.transition_table.specs.NetworkFacts.{has}
use Rattle.transition_table.specs.declared.network.Network.{Network}
use Rattle.journals.specs.declared.entry.Entry.{Entry}
use Rattle.journals.specs.declared.entry.Entry.TheVariants.{Dep, Rea}
use Rattle.journals.specs.Journals.{FitsNetwork, buffered, inputs_of, reads}
use Rattle.journals.specs.Moved.{machine_of}
use Rattle.journals.proofs.CursorsAfter.{machine_within}
use Rattle.journals.proofs.EntriesAt.{prefix_more}
use Rattle.journals.proofs.MomentsAfter.{last_of_push, place_dep, place_rea, set_table}
use Rattle.event_accounts.specs.Accounts.{is_delivery_of}
use Rattle.event_accounts.proofs.AccountAfter.{BringsCode}
use Rattle.event_accounts.proofs.Balances.{brings_code}
use Rattle.journal_chart.proofs.JoinedTexts.{length_taken}
use Rattle.journal_chart.specs.Notes.{last_delivery, loss_notes}
use Rattle.journal_chart.specs.inner.Marks.{loss_mark, loss_mark_at, lost_notes, mark_after, mark_among, mark_of, mark_of_loss, marks_after, row_of, rows_of}

-- ---- marks in rows

-- nothing stands in a buffer at first
pub no_marks : (m : ℕ) (events : List ℕ) → replicate (length events) 0 ≡ map (mark_of [] m) events
no_marks m [] = refl
no_marks m (e ∷ events) = ap (λ (l : List ℕ). 0 ∷ l) (no_marks m events)

pub mark_here : (event i x : ℕ) (inputs marks : List ℕ) → slice_get inputs i ≡ Some event
    → slice_get marks i ≡ Some x → mark_among event (drop i inputs) (drop i marks) ≡ x
mark_here event i x inputs marks at there =
    ap (λ (l : List ℕ). mark_among event l (drop i marks)) (drop_one inputs i event at)
    ∙ ap (λ (l : List ℕ). mark_among event (event ∷ drop (suc i) inputs) l)
    (drop_one marks i x there)
    ∙ ap (λ (b : Bool). cond b x (mark_among event (drop (suc i) inputs) (drop (suc i) marks)))
    (eq-eqb event event refl)

-- the marks of as many events have one for this one
mark_there : (inputs marks : List ℕ) (i e : ℕ) → slice_get inputs i ≡ Some e
    → length marks ≡ length inputs → (x : ℕ) × (slice_get marks i ≡ Some x)
mark_there [] marks i e at many = cc
mark_there (a ∷ inputs) [] i e at many = absurd (omega arith)
mark_there (a ∷ inputs) (x ∷ marks) zero e at many = (x, refl)
mark_there (a ∷ inputs) (x ∷ marks) (suc i) e at many =
    mark_there inputs marks i e at (omega arith)

pub mark_later : (event i e : ℕ) (inputs marks : List ℕ) → slice_get inputs i ≡ Some e
    → (e ≡ event → ⊥) → length marks ≡ length inputs
    → mark_among event (drop i inputs) (drop i marks)
    ≡ mark_among event (drop (i + 1) inputs) (drop (i + 1) marks)
mark_later event i e inputs marks at other many =
    let there = mark_there inputs marks i e at many in
    let next : suc i ≡ i + 1 = omega arith in
    ap (λ (l : List ℕ). mark_among event l (drop i marks)) (drop_one inputs i e at)
    ∙ ap (λ (l : List ℕ). mark_among event (e ∷ drop (suc i) inputs) l)
    (drop_one marks i there.0 there.1)
    ∙ ap
    (λ (b : Bool). cond b there.0 (mark_among event (drop (suc i) inputs) (drop (suc i) marks)))
    (ne_eqb e event other)
    ∙ ap (λ (k : ℕ). mark_among event (drop k inputs) (drop k marks)) next

pub marks_more : (p : ℕ) (x : Entry) (i e mark made : ℕ) (inputs marks now new : List ℕ)
    → slice_get inputs i ≡ Some e → slice_get marks i ≡ Some mark
    → made ≡ mark_after p x e mark → new ≡ now ++ made ∷ []
    → now ++ marks_after p x (drop i inputs) (drop i marks) ≡ marks_after p x inputs marks
    → new ++ marks_after p x (drop (i + 1) inputs) (drop (i + 1) marks)
    ≡ marks_after p x inputs marks
marks_more p x i e mark made inputs marks now new at there is grew was =
    let next : i + 1 ≡ suc i = omega arith in
    ap (λ (l : List ℕ). l ++ marks_after p x (drop (i + 1) inputs) (drop (i + 1) marks)) grew
    ∙ append_assoc now (made ∷ []) (marks_after p x (drop (i + 1) inputs) (drop (i + 1) marks))
    ∙ ap (λ (n : ℕ). now ++ n ∷ marks_after p x (drop (i + 1) inputs) (drop (i + 1) marks)) is
    ∙ ap (λ (k : ℕ). now ++ mark_after p x e mark ∷ marks_after p x (drop k inputs) (drop k marks))
    next
    ∙ ap (λ (l : List ℕ). now ++ marks_after p x (e ∷ drop (suc i) inputs) l)
    (sym (drop_one marks i mark there))
    ∙ ap (λ (l : List ℕ). now ++ marks_after p x l (drop i marks)) (sym (drop_one inputs i e at))
    ∙ was

-- ---- the last delivery

places_push : {X : Type 0} (n : ℕ) (p : X → Bool) (xs : List X) (x : X)
    → places_from n p (xs ++ x ∷ [])
    ≡ places_from n p xs ++ cond (p x) ((n + length xs) ∷ []) []
places_push n p [] x =
    ap (λ (k : ℕ). cond (p x) (k ∷ []) []) (none n)
  where
    none : (n : ℕ) → n ≡ n + 0
    none n = omega arith
places_push n p (y ∷ xs) x = placed (p y) n (length xs) (p x)
    (places_from (n + 1) p (xs ++ x ∷ [])) (places_from (n + 1) p xs) (places_push (n + 1) p xs x)
  where
    placed : (b : Bool) (n k : ℕ) (t : Bool) (more rest : List ℕ)
        → more ≡ rest ++ cond t ((n + 1 + k) ∷ []) []
        → cond b (n ∷ more) more ≡ cond b (n ∷ rest) rest ++ cond t ((n + suc k) ∷ []) []
    placed b n k t more rest is =
        both b (is ∙ ap (λ (i : ℕ). rest ++ cond t (i ∷ []) []) (moved n k))
      where
        moved : (n k : ℕ) → n + 1 + k ≡ n + suc k
        moved n k = omega arith

        both : (b : Bool) → more ≡ rest ++ cond t ((n + suc k) ∷ []) []
            → cond b (n ∷ more) more ≡ cond b (n ∷ rest) rest ++ cond t ((n + suc k) ∷ []) []
        both true e = ap (λ (l : List ℕ). n ∷ l) e
        both false e = e

last_there : (journal : List Entry) (x : Entry) (m e : ℕ) → is_delivery_of m e x ≡ true
    → last_delivery (journal ++ x ∷ []) m e ≡ length journal
last_there journal x m e is =
    ap (last_of 0) (places_push 0 (is_delivery_of m e) journal x)
    ∙ ap (λ (b : Bool). last_of 0 (places_where (is_delivery_of m e) journal
    ++ cond b ((0 + length journal) ∷ []) [])) is
    ∙ last_of_push 0 (places_where (is_delivery_of m e) journal) (0 + length journal)
    ∙ none (length journal)
  where
    none : (n : ℕ) → 0 + n ≡ n
    none n = omega arith

last_away : (journal : List Entry) (x : Entry) (m e : ℕ) → is_delivery_of m e x ≡ false
    → last_delivery (journal ++ x ∷ []) m e ≡ last_delivery journal m e
last_away journal x m e is =
    ap (last_of 0) (places_push 0 (is_delivery_of m e) journal x)
    ∙ ap (λ (b : Bool). last_of 0 (places_where (is_delivery_of m e) journal
    ++ cond b ((0 + length journal) ∷ []) [])) is
    ∙ ap (last_of 0) (append-nil (places_where (is_delivery_of m e) journal))

-- ---- one mark

-- a mark by what stands in the buffer and by the last delivery
mark_by : ℕ → ℕ → ℕ
mark_by code last = cond (code == 0) 0 (last + 1)

mark_own : (journal : List Entry) (x : Entry) (e : ℕ) → BringsCode x
    → mark_of (journal ++ x ∷ []) (machine_of x) e
    ≡ mark_after (length journal) x e (mark_of journal (machine_of x) e)
mark_own journal (Dep from to event code) e brings = cases (event == e) refl
  where
    x : Entry
    x = Dep from to event code

    above : (n : ℕ) → 1 ≤ n → n ≡ 0 → ⊥
    above n some none = omega (arith, some, none)

    cases : (b : Bool) → (event == e) ≡ b
        → mark_of (journal ++ x ∷ []) to e
        ≡ cond (event == e) (length journal + 1) (mark_of journal to e)
    cases true same =
        let here : (to == to && event == e) ≡ true = rw (eq-eqb to to refl, same) refl in
        ap (λ (n : ℕ). cond (n == 0) 0 (last_delivery (journal ++ x ∷ []) to e + 1))
        (place_dep journal from to event code to e
        ∙ ap (λ (b : Bool). cond b code (buffered journal to e)) here)
        ∙ ap (λ (b : Bool). cond b 0 (last_delivery (journal ++ x ∷ []) to e + 1))
        (ne_eqb code 0 (above code brings))
        ∙ ap (λ (n : ℕ). n + 1) (last_there journal x to e here)
        ∙ ap (λ (b : Bool). cond b (length journal + 1) (mark_of journal to e)) (sym same)
    cases false other =
        let away : (to == to && event == e) ≡ false = rw (eq-eqb to to refl, other) refl in
        ap (λ (n : ℕ). cond (n == 0) 0 (last_delivery (journal ++ x ∷ []) to e + 1))
        (place_dep journal from to event code to e
        ∙ ap (λ (b : Bool). cond b code (buffered journal to e)) away)
        ∙ ap (λ (n : ℕ). cond (buffered journal to e == 0) 0 (n + 1)) (last_away journal x to e away)
        ∙ ap (λ (b : Bool). cond b (length journal + 1) (mark_of journal to e)) (sym other)
mark_own journal (Rea m s o) e brings = cases o.fires refl
  where
    x : Entry
    x = Rea m s o

    cases : (b : Bool) → o.fires ≡ b
        → mark_of (journal ++ x ∷ []) m e ≡ cond o.fires 0 (mark_of journal m e)
    cases true fires =
        let own : (m == m && o.fires) ≡ true = rw (eq-eqb m m refl, fires) refl in
        ap (λ (n : ℕ). cond (n == 0) 0 (last_delivery (journal ++ x ∷ []) m e + 1))
        (place_rea journal m s o m e
        ∙ ap (λ (b : Bool). cond b 0 (buffered journal m e)) own)
        ∙ ap (λ (b : Bool). cond b 0 (mark_of journal m e)) (sym fires)
    cases false idles =
        let away : (m == m && o.fires) ≡ false = rw (eq-eqb m m refl, idles) refl in
        ap (λ (n : ℕ). cond (n == 0) 0 (last_delivery (journal ++ x ∷ []) m e + 1))
        (place_rea journal m s o m e
        ∙ ap (λ (b : Bool). cond b 0 (buffered journal m e)) away)
        ∙ ap (λ (n : ℕ). cond (buffered journal m e == 0) 0 (n + 1)) (last_away journal x m e refl)
        ∙ ap (λ (b : Bool). cond b 0 (mark_of journal m e)) (sym idles)

mark_away : (journal : List Entry) (x : Entry) (m e : ℕ) → (machine_of x ≡ m → ⊥)
    → mark_of (journal ++ x ∷ []) m e ≡ mark_of journal m e
mark_away journal (Dep from to event code) m e other =
    let x : Entry = Dep from to event code in
    let away : (to == m && event == e) ≡ false = rw (ne_eqb to m other) refl in
    ap (λ (n : ℕ). cond (n == 0) 0 (last_delivery (journal ++ x ∷ []) m e + 1))
    (place_dep journal from to event code m e
    ∙ ap (λ (b : Bool). cond b code (buffered journal m e)) away)
    ∙ ap (λ (n : ℕ). cond (buffered journal m e == 0) 0 (n + 1)) (last_away journal x m e away)
mark_away journal (Rea k s o) m e other =
    let x : Entry = Rea k s o in
    let away : (k == m && o.fires) ≡ false = rw (ne_eqb k m other) refl in
    ap (λ (n : ℕ). cond (n == 0) 0 (last_delivery (journal ++ x ∷ []) m e + 1))
    (place_rea journal k s o m e ∙ ap (λ (b : Bool). cond b 0 (buffered journal m e)) away)
    ∙ ap (λ (n : ℕ). cond (buffered journal m e == 0) 0 (n + 1)) (last_away journal x m e refl)

-- ---- rows

row_own : (journal : List Entry) (x : Entry) (events : List ℕ) → BringsCode x
    → marks_after (length journal) x events (map (mark_of journal (machine_of x)) events)
    ≡ map (mark_of (journal ++ x ∷ []) (machine_of x)) events
row_own journal x [] brings = refl
row_own journal x (e ∷ events) brings =
    ap
    (λ (n : ℕ). n ∷ marks_after (length journal) x events
    (map (mark_of journal (machine_of x)) events)) (sym (mark_own journal x e brings))
    ∙ ap (λ (l : List ℕ). mark_of (journal ++ x ∷ []) (machine_of x) e ∷ l)
    (row_own journal x events brings)

row_away : (journal : List Entry) (x : Entry) (m : ℕ) (events : List ℕ) → (machine_of x ≡ m → ⊥)
    → map (mark_of (journal ++ x ∷ []) m) events ≡ map (mark_of journal m) events
row_away journal x m [] other = refl
row_away journal x m (e ∷ events) other =
    ap (λ (n : ℕ). n ∷ map (mark_of (journal ++ x ∷ []) m) events) (mark_away journal x m e other)
    ∙ ap (λ (l : List ℕ). mark_of journal m e ∷ l) (row_away journal x m events other)

-- the rows after one entry more
pub rows_more : (net : Network) (journal : List Entry) (x : Entry) (rows new : List (List ℕ))
    (row : List ℕ) → FitsNetwork net x → rows ≡ rows_of net journal
    → row ≡ marks_after (length journal) x (inputs_of net (machine_of x))
    (row_of net journal (machine_of x))
    → new ≡ slice_set rows (machine_of x) row
    → new ≡ rows_of net (journal ++ x ∷ [])
rows_more net journal x rows new row fits was is made =
    made ∙ ap (λ (l : List (List ℕ)). slice_set l (machine_of x) row) was
    ∙ set_table (row_of net journal) (row_of net (journal ++ x ∷ [])) (length net.machines)
    (machine_of x) row (machine_within net x fits)
    (sym (is ∙ row_own journal x (inputs_of net (machine_of x)) (brings_code net x fits)))
    (λ k other below. row_away journal x k (inputs_of net k) (λ e. other (sym e)))

pub row_at : (net : Network) (journal : List Entry) (rows : List (List ℕ)) (m : ℕ) (row : List ℕ)
    → rows ≡ rows_of net journal → m < length net.machines → slice_get rows m ≡ Some row
    → row ≡ row_of net journal m
row_at net journal rows m row are below at =
    same_some (slice_get rows m) row (row_of net journal m) at
    (ap (λ (l : List (List ℕ)). slice_get l m) are
    ∙ get_map_upto (row_of net journal) (length net.machines) m below)

pub length_rows : (net : Network) (journal : List Entry) (rows : List (List ℕ))
    → rows ≡ rows_of net journal → length rows ≡ length net.machines
length_rows net journal rows are =
    ap (λ (l : List (List ℕ)). length l) are
    ∙ length_map (row_of net journal) (upto (length net.machines))
    ∙ length_upto (length net.machines)

pub length_row : (net : Network) (journal : List Entry) (m : ℕ) (row inputs : List ℕ)
    → row ≡ row_of net journal m → inputs ≡ inputs_of net m → length row ≡ length inputs
length_row net journal m row inputs is are =
    ap (λ (l : List ℕ). length l) is
    ∙ length_map (mark_of journal m) (inputs_of net m)
    ∙ ap (λ (l : List ℕ). length l) (sym are)

-- ---- what is overwritten

among_all : (journal : List Entry) (m event : ℕ) (events : List ℕ)
    → mark_among event events (map (mark_of journal m) events)
    ≡ cond (has events event) (mark_of journal m event) 0
among_all journal m event [] = refl
among_all journal m event (e ∷ events) =
    one_more (e == event) refl (among_all journal m event events)
  where
    one_more : (b : Bool) → (e == event) ≡ b
        → mark_among event events (map (mark_of journal m) events)
        ≡ cond (has events event) (mark_of journal m event) 0
        → cond (e == event) (mark_of journal m e)
        (mark_among event events (map (mark_of journal m) events))
        ≡ cond (has (e ∷ events) event) (mark_of journal m event) 0
    one_more true same rest = rw same (ap (mark_of journal m) (eqb-true e event same))
    one_more false other rest = rw other rest

pub mark_lost : (net : Network) (journal : List Entry) (x : Entry)
    → mark_of_loss (inputs_of net (machine_of x)) (row_of net journal (machine_of x)) x
    ≡ loss_mark net journal x
mark_lost net journal (Dep from to event code) =
    among_all journal to event (inputs_of net to)
mark_lost net journal (Rea m s o) = refl

pub loss_at : (net : Network) (journal : List Entry) (p : ℕ) (x : Entry)
    → slice_get journal p ≡ Some x
    → loss_mark net (take p journal) x ≡ loss_mark_at net journal p
loss_at net journal p x at =
    ap (λ (o : Option Entry). option_map_or (loss_mark net (take p journal)) o 0) (sym at)

-- ---- the entry at a place

-- the rows after the entry at place p
pub rows_taken : (net : Network) (j : List Entry) (p m : ℕ) (x : Entry) (rows new : List (List ℕ))
    (row after inputs : List ℕ) → FitsNetwork net x → slice_get j p ≡ Some x → m ≡ machine_of x
    → rows ≡ rows_of net (take p j) → row ≡ row_of net (take p j) m → inputs ≡ inputs_of net m
    → after ≡ marks_after p x inputs row → new ≡ slice_set rows m after
    → new ≡ rows_of net (take (p + 1) j)
rows_taken net j p m x rows new row after inputs fits at own was is are made put =
    rows_more net (take p j) x rows new after fits was
    (made
    ∙ ap (λ (n : ℕ). marks_after n x inputs row) (sym (length_taken j p x at))
    ∙ ap (λ (l : List ℕ). marks_after (length (take p j)) x l row)
    (are ∙ ap (inputs_of net) own)
    ∙ ap (marks_after (length (take p j)) x (inputs_of net (machine_of x)))
    (is ∙ ap (row_of net (take p j)) own))
    (put ∙ ap (λ (n : ℕ). slice_set rows n after) own)
    ∙ ap (rows_of net) (sym (prefix_more j p x at))

-- and what it overwrites
pub mark_taken : (net : Network) (j : List Entry) (p m mark : ℕ) (x : Entry) (row inputs : List ℕ)
    → slice_get j p ≡ Some x → m ≡ machine_of x → row ≡ row_of net (take p j) m
    → inputs ≡ inputs_of net m → mark ≡ mark_of_loss inputs row x
    → mark ≡ loss_mark_at net j p
mark_taken net j p m mark x row inputs at own is are made =
    made
    ∙ ap (λ (l : List ℕ). mark_of_loss l row x) (are ∙ ap (inputs_of net) own)
    ∙ ap (λ (l : List ℕ). mark_of_loss (inputs_of net (machine_of x)) l x)
    (is ∙ ap (row_of net (take p j)) own)
    ∙ mark_lost net (take p j) x
    ∙ loss_at net j p x at

-- the notes of a delivery
pub notes_by_mark : (net : Network) (before : List Entry) (x : Entry)
    → lost_notes (loss_mark net before x) ≡ loss_notes net before x
notes_by_mark net before (Dep from to event code) = cases (reads net to event)
    (buffered before to event == 0)
  where
    last : ℕ
    last = last_delivery before to event

    note : List ℕ
    note = codes "lost " ++ decimal last

    one_less : (n : ℕ) → n + 1 - 1 ≡ n
    one_less n = omega arith

    never : (n : ℕ) → n + 1 ≡ 0 → ⊥
    never n e = omega (arith, e)

    cases : (read empty : Bool)
        → lost_notes (cond read (cond empty 0 (last + 1)) 0)
        ≡ cond (read && not empty) (note ∷ []) []
    cases true true = refl
    cases true false =
        ap (λ (b : Bool). cond b [] ((codes "lost " ++ decimal (last + 1 - 1)) ∷ []))
        (ne_eqb (last + 1) 0 (never last))
        ∙ ap (λ (n : ℕ). (codes "lost " ++ decimal n) ∷ []) (one_less last)
    cases false true = refl
    cases false false = refl
notes_by_mark net before (Rea m s o) = refl
