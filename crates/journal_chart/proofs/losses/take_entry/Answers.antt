use Rattle.std.proofs.Common.{◌≡◌, ◌<◌, ℕ, List, length, take, slice_get, Some, sym, ◌∙◌, subst}
use Rattle.transition_table.specs.declared.network.Network.{Network}
use Rattle.journals.specs.declared.entry.Entry.{Entry}
use Rattle.journals.specs.Journals.{IsJournal}
use Rattle.journals.specs.Moved.{machine_of}
use Rattle.journals.proofs.CursorsAfter.{machine_within}
use Rattle.journals.proofs.EntriesAt.{fits_at}
use Rattle.event_accounts.proofs.InputsOf.{inputs_of_machine}
use Rattle.journal_chart.specs.inner.Marks.{rows_of}
use Rattle.journal_chart.proofs.MarksAfter.{length_row, length_rows, mark_taken, row_at, rows_taken}
use Rattle.journal_chart.proofs.losses.take_entry.Goals as goal

-- the entry's machine is one of the network
below : (net : Network) (j : List Entry) (p m : ℕ) (x : Entry) → IsJournal net j
    → slice_get j p ≡ Some x → m ≡ machine_of x → m < length net.machines
below net j p m x journal at own =
    subst (λ (k : ℕ). k < length net.machines) (sym own)
    (machine_within net x (fits_at net j p x journal at))

-- and has a row
has_row : (net : Network) (j : List Entry) (p m : ℕ) (x : Entry) (rows : List (List ℕ))
    → IsJournal net j → slice_get j p ≡ Some x → m ≡ machine_of x
    → rows ≡ rows_of net (take p j) → m < length rows
has_row net j p m x rows journal at own are =
    subst (λ (n : ℕ). m < n) (sym (length_rows net (take p j) rows are))
    (below net j p m x journal at own)

pub get-requires : goal.get-requires
get-requires c =
    below c.args.net.now c.args.j.now c.args.p c.machine-m.result c.get-entry.result.now
    c.requires.journal c.get-entry.ensures c.machine-m.ensures

pub get-requires-2 : goal.get-requires-2
get-requires-2 c =
    has_row c.args.net.now c.args.j.now c.args.p c.machine-m.result c.get-entry.result.now
    c.args.rows.now c.requires.journal c.get-entry.ensures c.machine-m.ensures c.requires.rows

pub mark_lost-mark-requires : goal.mark_lost-mark-requires
mark_lost-mark-requires c =
    let net = c.args.net.now in
    let before = take c.args.p c.args.j.now in
    let m = c.machine-m.result in
    length_row net before m c.get-2.result.now c.as_slice-inputs.result.now
    (row_at net before c.args.rows.now m c.get-2.result.now c.requires.rows
    (below net c.args.j.now c.args.p m c.get-entry.result.now c.requires.journal
    c.get-entry.ensures c.machine-m.ensures) c.get-2.ensures)
    (c.as_slice-inputs.ensures ∙ sym (inputs_of_machine net m c.get.result.now c.get.ensures))

pub get-requires-3 : goal.get-requires-3
get-requires-3 c =
    has_row c.args.net.now c.args.j.now c.args.p c.machine-m.result c.get-entry.result.now
    c.args.rows.now c.requires.journal c.get-entry.ensures c.machine-m.ensures c.requires.rows

pub next_marks-requires-clause-room : goal.next_marks-requires-clause-room
next_marks-requires-clause-room c = c.requires.room

pub next_marks-requires-clause-many : goal.next_marks-requires-clause-many
next_marks-requires-clause-many c =
    let net = c.args.net.now in
    let before = take c.args.p c.args.j.now in
    let m = c.machine-m.result in
    length_row net before m c.get-3.result.now c.as_slice-inputs.result.now
    (row_at net before c.args.rows.now m c.get-3.result.now c.requires.rows
    (below net c.args.j.now c.args.p m c.get-entry.result.now c.requires.journal
    c.get-entry.ensures c.machine-m.ensures) c.get-3.ensures)
    (c.as_slice-inputs.ensures ∙ sym (inputs_of_machine net m c.get.result.now c.get.ensures))

pub set-requires : goal.set-requires
set-requires c =
    has_row c.args.net.now c.args.j.now c.args.p c.machine-m.result c.get-entry.result.now
    c.args.rows.now c.requires.journal c.get-entry.ensures c.machine-m.ensures c.requires.rows

pub returns-clause-rows : goal.returns-clause-rows
returns-clause-rows c =
    let net = c.args.net.now in
    let j = c.args.j.now in
    let p = c.args.p in
    let m = c.machine-m.result in
    let x = c.get-entry.result.now in
    rows_taken net j p m x c.args.rows.now c.set.new.self c.get-3.result.now c.in_ok-after.after
    c.as_slice-inputs.result.now (fits_at net j p x c.requires.journal c.get-entry.ensures)
    c.get-entry.ensures c.machine-m.ensures c.requires.rows
    (row_at net (take p j) c.args.rows.now m c.get-3.result.now c.requires.rows
    (below net j p m x c.requires.journal c.get-entry.ensures c.machine-m.ensures) c.get-3.ensures)
    (c.as_slice-inputs.ensures ∙ sym (inputs_of_machine net m c.get.result.now c.get.ensures))
    c.in_ok-after.ensures c.set.ensures

pub returns-clause-mark : goal.returns-clause-mark
returns-clause-mark c =
    let net = c.args.net.now in
    let j = c.args.j.now in
    let p = c.args.p in
    let m = c.machine-m.result in
    let x = c.get-entry.result.now in
    mark_taken net j p m c.mark_lost-mark.result x c.get-2.result.now c.as_slice-inputs.result.now
    c.get-entry.ensures c.machine-m.ensures
    (row_at net (take p j) c.args.rows.now m c.get-2.result.now c.requires.rows
    (below net j p m x c.requires.journal c.get-entry.ensures c.machine-m.ensures) c.get-2.ensures)
    (c.as_slice-inputs.ensures ∙ sym (inputs_of_machine net m c.get.result.now c.get.ensures))
    c.mark_lost-mark.ensures
