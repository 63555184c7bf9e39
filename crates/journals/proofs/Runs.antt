-- Runs of the small networks, one a worked row.
use Rattle.std.proofs.Common.{◌≡◌, false, [], ◌∷◌, ◌++◌, length, drop, IsTrue, refl, inl}
use Rattle.domains.specs.Tables.{fits}
use Rattle.transition_table.specs.Transitions.{IsOutcome, blank}
use Rattle.transition_table.specs.declared.machine.Machine.{Machine}
use Rattle.transition_table.specs.declared.snapshot.Outcome.{Outcome}
use Rattle.transition_table.specs.samples.Pong.{pong}
use Rattle.journals.specs.Legality.{Legal}
use Rattle.journals.specs.Samples.{lamp, press, lamp_run, join, value, two, loop}
use Rattle.journals.specs.Runs.{join_overwritten_trace, join_overwritten_run, join_settled_trace, join_settled_run, value_overwritten_trace, value_overwritten_run, two_by_priority_trace, two_by_priority_run, two_by_number_trace, two_by_number_run, two_settled_trace, two_settled_run, loop_three_trace, loop_three_run, lamp_idle_trace, lamp_idle_run, pong_trace, pong_run, late_trace, late_run}
use Rattle.journals.specs.Worked.{IsRun}
use Rattle.journals.proofs.InRow.{◌⨟◌}
use Rattle.journals.proofs.PickedEntries.{made_legal, whole_run}

-- an outcome is right by its widths, by its codes and by being blank where it doesn't fire
pub right : {m : Machine} {o : Outcome} → length o.next ≡ length m.states
    → length o.outs ≡ length m.outputs → IsTrue (fits (drop 1 m.results) (o.next ++ o.outs))
    → (o.fires ≡ false → o ≡ blank m) → IsOutcome m o
right next outs codes idle =
    record { widths = record { next = next; outs = outs }; codes = codes; idle = idle }

-- ---- whole runs

pub lamp_once : IsRun lamp press lamp_run ((1, 1) ∷ []) 0
lamp_once = whole_run (record { trace_fits = refl; made = refl }) refl refl refl

pub lamp_empty : IsRun lamp [] [] [] 0
lamp_empty = whole_run (record { trace_fits = refl; made = refl }) refl refl refl

pub join_overwritten : IsRun join join_overwritten_trace join_overwritten_run ((2, 1) ∷ []) 1
join_overwritten = whole_run (record { trace_fits = refl; made = refl }) refl refl refl

pub join_settled : IsRun join join_settled_trace join_settled_run ((2, 1) ∷ []) 0
join_settled = whole_run (record { trace_fits = refl; made = refl }) refl refl refl

pub value_overwritten : IsRun value value_overwritten_trace value_overwritten_run ((1, 1) ∷ []) 1
value_overwritten = whole_run (record { trace_fits = refl; made = refl }) refl refl refl

pub two_by_priority : IsRun (two 2 1) two_by_priority_trace two_by_priority_run
    ((2, 1) ∷ (1, 1) ∷ []) 0
two_by_priority = whole_run (record { trace_fits = refl; made = refl }) refl refl refl

pub two_by_number : IsRun (two 1 1) two_by_number_trace two_by_number_run ((1, 1) ∷ (2, 1) ∷ []) 0
two_by_number = whole_run (record { trace_fits = refl; made = refl }) refl refl refl

pub two_settled : IsRun (two 1 1) two_settled_trace two_settled_run ((1, 1) ∷ (2, 1) ∷ []) 0
two_settled = whole_run (record { trace_fits = refl; made = refl }) refl refl refl

pub loop_three : IsRun loop loop_three_trace loop_three_run [] 0
loop_three = whole_run (record { trace_fits = refl; made = refl }) refl refl refl

pub lamp_idle : IsRun lamp lamp_idle_trace lamp_idle_run ((1, 1) ∷ []) 0
lamp_idle = whole_run (record { trace_fits = refl; made = refl }) refl refl refl

-- ---- the first entries of runs

pub pong_goes_on : Legal pong pong_trace pong_run
pong_goes_on = made_legal pong pong_trace pong_run (record { trace_fits = refl; made = refl })

pub late_landing : Legal pong late_trace late_run
late_landing = (
  refl ⨟ (refl, right refl refl refl (λ h. cc)) ⨟ refl ⨟ (refl, right refl refl refl (λ h. cc))
      ⨟ refl ⨟ refl ⨟ (refl, right refl refl refl (λ h. cc)) ⨟ tt,
  ((0, 1) ∷ [], refl) ⨟ (refl, refl, inl (0, refl, refl)) ⨟ ([], refl)
      ⨟ (refl, refl, inl (0, refl, refl)) ⨟ ((1, 1) ∷ [], refl) ⨟ ([], refl)
      ⨟ (refl, refl, inl (0, refl, refl)) ⨟ tt,
)
