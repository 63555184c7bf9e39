-- What is kept of the buffers on the way through a journal: which delivery stands in each of them.
use Rattle.std.specs.Prelude.{ℕ, ◌+◌, ◌-◌, cond, ◌==◌, List, [], ◌∷◌, ◌++◌, map, length, take, slice_get, codes, decimal}
use Rattle.std.specs.Option.{option_map_or}
use Rattle.polis_base.specs.Lists.{upto}
use Rattle.transition_table.specs.declared.network.Network.{Network}
use Rattle.journals.specs.declared.entry.Entry.{Entry}
use Rattle.journals.specs.declared.entry.Entry.TheVariants.{Dep, Rea}
use Rattle.journals.specs.Journals.{buffered, inputs_of, reads}
use Rattle.journal_chart.specs.Notes.{last_delivery}

-- 0 where nothing stands in the buffer, else one more than the place of its delivery
abbrev pub mark_of : List Entry → ℕ → ℕ → ℕ
mark_of journal m e = cond (buffered journal m e == 0) 0 (last_delivery journal m e + 1)

-- those of a machine's inputs, in order
abbrev pub row_of : Network → List Entry → ℕ → List ℕ
row_of net journal m = map (mark_of journal m) (inputs_of net m)

-- those of all machines
abbrev pub rows_of : Network → List Entry → List (List ℕ)
rows_of net journal = map (row_of net journal) (upto (length net.machines))

-- what the entry at place p, which is of the buffer's machine, makes of the mark of the event e
abbrev pub mark_after : ℕ → Entry → ℕ → ℕ → ℕ
mark_after p (Dep from to event code) e mark = cond (event == e) (p + 1) mark
mark_after p (Rea m s o) e mark = cond o.fires 0 mark

-- of the marks of these events
abbrev pub marks_after : ℕ → Entry → List ℕ → List ℕ → List ℕ
marks_after p entry [] marks = []
marks_after p entry (e ∷ events) [] = []
marks_after p entry (e ∷ events) (mark ∷ marks) =
    mark_after p entry e mark ∷ marks_after p entry events marks

-- the mark of an event among those of these events, 0 where it isn't one of them
abbrev pub mark_among : ℕ → List ℕ → List ℕ → ℕ
mark_among event [] marks = 0
mark_among event (e ∷ events) [] = 0
mark_among event (e ∷ events) (mark ∷ marks) = cond (e == event) mark (mark_among event events marks)

-- the mark of what the entry overwrites, where these are the marks of its machine's inputs
abbrev pub mark_of_loss : List ℕ → List ℕ → Entry → ℕ
mark_of_loss inputs marks (Dep from to event code) = mark_among event inputs marks
mark_of_loss inputs marks (Rea m s o) = 0

-- the mark of what the entry overwrites, 0 where it overwrites nothing
abbrev pub loss_mark : Network → List Entry → Entry → ℕ
loss_mark net before (Dep from to event code) = cond (reads net to event) (mark_of before to event) 0
loss_mark net before (Rea m s o) = 0

-- of the entry at place p
abbrev pub loss_mark_at : Network → List Entry → ℕ → ℕ
loss_mark_at net journal p =
    option_map_or (loss_mark net (take p journal)) (slice_get journal p) 0

-- the notes of a delivery that overwrites what has this mark
abbrev pub lost_notes : ℕ → List (List ℕ)
lost_notes mark = cond (mark == 0) [] ((codes "lost " ++ decimal (mark - 1)) ∷ [])
