use Rattle.std.proofs.Common.{◌≡◌, ◌++◌, ℕ, false, [], List, Option, Some, None, Result, Ok, Err, length, slice_get, sym, ◌∙◌, ap}
use Rattle.std.specs.Prelude.{IsSomeAnd, option_map, unwrap_or, replicate}
use Rattle.journals.specs.Journals.{states_of, outputs_of}
use Rattle.std.proofs.lemmas.Result.{err_from_is_err_and}
use Rattle.transition_table.specs.declared.machine.Machine.{Machine}
use Rattle.transition_table.specs.declared.network.Network.{Network}
use Rattle.transition_table.specs.declared.snapshot.Snapshot.{Snapshot}
use Rattle.transition_table.specs.declared.snapshot.Outcome.{Outcome}
use Rattle.transition_table.specs.Transitions.{OfMachine, blank}
use Rattle.journals.specs.declared.entry.Entry.TheVariants.{Rea}
use Rattle.journal_text.specs.Cursors.{items_in}
use Rattle.journal_text.specs.Forms.{Text, Texts}
use Rattle.journal_text.specs.Items.{machine_named, map_read, snapshot_read, idled, idle_read}
use Rattle.journal_text.specs.inner.Steps.{whole}
use Rattle.journal_text.specs.declared.fault.JournalKind.{JournalKind}
use Rattle.journal_text.specs.declared.fault.JournalKind.TheVariants.{Name}
use Rattle.journal_text.specs.declared.codes.Stop.TheVariants.{Kind}
use Rattle.journal_text.proofs.Stops.{same_kind, ok_is_no_stop, stop_of_exit}
use Rattle.journal_text.proofs.entry.trying.Goals as goal

blank_is : (r : Option Machine) (o : Outcome) → IsSomeAnd r (λ machine. o ≡ blank machine)
    → o ≡ record {
      fires = false;
      next = replicate (length (unwrap_or (option_map (λ machine. machine.states) r) [])) 0;
      outs = replicate (length (unwrap_or (option_map (λ machine. machine.outputs) r) [])) 0;
    }
blank_is (Some machine) o h = h
blank_is None o h = absurd h

tries : (net : Network) (name : Text) (m : ℕ) (seen : Texts × Texts) (s : Snapshot) (o : Outcome)
    → Some m ≡ machine_named net name → map_read whole (snapshot_read net m seen) ≡ Ok s.codes
    → OfMachine net m (λ machine. o ≡ blank machine)
    → idle_read net (machine_named net name) seen ≡ Ok (Rea m s o)
tries net name m seen s o found read is_blank =
    ap (λ o. idle_read net o seen) (sym found) ∙ go (snapshot_read net m seen) read
  where
    go : (r : Result (List ℕ × List ℕ) JournalKind) → map_read whole r ≡ Ok s.codes
        → map_read (idled net m) r ≡ Ok (Rea m s o)
    go (Ok (present, values)) h =
        let is : present ++ values ≡ s.codes = cc in
        ap (λ codes. Ok (Rea m (record { codes = codes })
        (record {
          fires = false;
          next = replicate (length (states_of net m)) 0;
          outs = replicate (length (outputs_of net m)) 0;
        }))) is
        ∙ ap (λ b. Ok (Rea m s b)) (sym (blank_is (slice_get net.machines m) o is_blank))
    go (Err k) h = cc

snapshot_fault : (net : Network) (name : Text) (m : ℕ) (seen : Texts × Texts)
    (kind : JournalKind)
    → Some m ≡ machine_named net name → snapshot_read net m seen ≡ Err kind
    → idle_read net (machine_named net name) seen ≡ Err kind
snapshot_fault net name m seen kind found fault =
    ap (λ o. idle_read net o seen) (sym found) ∙ ap (map_read (idled net m)) fault

no_machine : (net : Network) (name : Text) (seen : Texts × Texts) (kind : JournalKind)
    → None ≡ machine_named net name → Name ≡ kind
    → idle_read net (machine_named net name) seen ≡ Err kind
no_machine net name seen kind none same =
    ap (λ o. idle_read net o seen) (sym none) ∙ ap Err same

pub snapshot-requires-clause-lists : goal.snapshot-requires-clause-lists
snapshot-requires-clause-lists c = c.requires.seen

pub snapshot-requires-clause-machine : goal.snapshot-requires-clause-machine
snapshot-requires-clause-machine c = c.in-Some.ensures.below

pub blank-requires : goal.blank-requires
blank-requires c = c.in-Some.ensures.below

pub returns-clause-ok : goal.returns-clause-ok
returns-clause-ok c =
    tries c.args.index.now.net.now c.args.machine.now c.in-Some.m _ c.in_ok-snapshot.snapshot
    c.in_ok-outcome.outcome c.in-Some.ensures.machine c.in_ok-snapshot.ensures.ok
    c.in_ok-outcome.ensures.ok

pub returns-clause-fault : goal.returns-clause-fault
returns-clause-fault c = λ kind e. ok_is_no_stop _ _ e

pub returns-in_default-clause-fault : goal.returns-in_default-clause-fault
returns-in_default-clause-fault c = λ kind e.
    no_machine c.args.index.now.net.now c.args.machine.now
    (items_in c.args.seen.0.now, items_in c.args.seen.1.now) kind c.in_default.ensures.machine
    (same_kind Name kind e)

pub returns-in_err-snapshot-clause-fault : goal.returns-in_err-snapshot-clause-fault
returns-in_err-snapshot-clause-fault c = λ kind e.
    let p = err_from_is_err_and c.from_residual.result c.from_residual.ensures.1 in
    snapshot_fault c.args.index.now.net.now c.args.machine.now c.in-Some.m _ kind
    c.in-Some.ensures.machine
    (c.in_err-snapshot.ensures.fault kind
    (stop_of_exit c.from_residual.result p.0 c.in_err-snapshot.field-0.0 (Kind kind) p.1 p.2 e))

pub returns-in_err-outcome-clause-fault : goal.returns-in_err-outcome-clause-fault
returns-in_err-outcome-clause-fault c = λ kind e.
    let p = err_from_is_err_and c.from_residual-in_err-outcome.result
    c.from_residual-in_err-outcome.ensures.1 in
    absurd (c.in_err-outcome.ensures.fault kind
    (stop_of_exit c.from_residual-in_err-outcome.result p.0 c.in_err-outcome.field-0.0 (Kind kind)
    p.1 p.2 e))
