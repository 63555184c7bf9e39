-- The lines of a text, one by one.
use Rattle.std.proofs.Common.{◌≡◌, ◌+◌, ℕ, List, ◌∷◌, fold, refl, Result, Ok, Err, ◌∙◌}
use Rattle.std.specs.List.{enumerate_from}
use Rattle.std.proofs.lemmas.List.Folds.{fold_stays}
use Rattle.transition_table.specs.declared.network.Network.{Network}
use Rattle.journals.specs.declared.entry.TraceItem.{TraceItem}
use Rattle.trace_text.specs.Pieces.{trace_lines}
use Rattle.trace_text.specs.Traces.{with_line, trace_of}
use Rattle.trace_text.specs.declared.fault.TraceFault.{TraceFault}

-- the first of the lines that are left is the next
pub fold_line : (net : Network) (read : Result (List TraceItem) TraceFault) (line : ℕ)
    (rest first after : List ℕ) → trace_lines rest ≡ first ∷ trace_lines after
    → fold (with_line net) read (enumerate_from line (trace_lines rest))
    ≡ fold (with_line net) (with_line net read (line, first))
    (enumerate_from (line + 1) (trace_lines after))
fold_line net read line rest first after e = rw e refl

-- a fault stays
pub fault_stays : (net : Network) (fault : TraceFault) (lines : List (ℕ × List ℕ))
    → fold (with_line net) (Err fault) lines ≡ Err fault
fault_stays net fault lines = fold_stays (with_line net) (Err fault) (λ line. refl) lines

-- what was read up to a line, and what is left
abbrev pub IsReadUpTo : Network → List ℕ → ℕ → Result (List TraceItem) TraceFault → List ℕ → Type 0
IsReadUpTo net text line read rest =
    trace_of net text ≡ fold (with_line net) read (enumerate_from (line + 1) (trace_lines rest))

pub read_more : (net : Network) (text : List ℕ) (line : ℕ) (items : List TraceItem)
    (rest first after : List ℕ) (read : Result (List TraceItem) TraceFault)
    → IsReadUpTo net text line (Ok items) rest → trace_lines rest ≡ first ∷ trace_lines after
    → with_line net (Ok items) (line + 1, first) ≡ read → IsReadUpTo net text (line + 1) read after
read_more net text line items rest first after read before cut next =
    let e = fold_line net (Ok items) (line + 1) rest first after cut in
    rw (← next) (before ∙ e)

-- the first fault is the answer
pub read_fault : (net : Network) (text : List ℕ) (line : ℕ) (items : List TraceItem)
    (rest first after : List ℕ) (fault : TraceFault) → IsReadUpTo net text line (Ok items) rest
    → trace_lines rest ≡ first ∷ trace_lines after
    → with_line net (Ok items) (line + 1, first) ≡ Err fault → trace_of net text ≡ Err fault
read_fault net text line items rest first after fault before cut next =
    read_more net text line items rest first after (Err fault) before cut next
    ∙ fault_stays net fault (enumerate_from (line + 1 + 1) (trace_lines after))
