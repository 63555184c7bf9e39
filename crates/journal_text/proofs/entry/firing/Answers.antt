use Rattle.std.proofs.Common.{◌≡◌, ◌++◌, ℕ, true, List, Some, None, Result, Ok, Err, sym, ◌∙◌, ap}
use Rattle.std.proofs.lemmas.Result.{err_from_is_err_and}
use Rattle.transition_table.specs.declared.network.Network.{Network}
use Rattle.transition_table.specs.declared.snapshot.Snapshot.{Snapshot}
use Rattle.transition_table.specs.declared.snapshot.Outcome.{Outcome}
use Rattle.journals.specs.declared.entry.Entry.TheVariants.{Rea}
use Rattle.journal_text.specs.Cursors.{items_in}
use Rattle.journal_text.specs.Forms.{Text, Texts}
use Rattle.journal_text.specs.Items.{machine_named, map_read, both_read, snapshot_read, result_read, fired, firing_read}
use Rattle.journal_text.specs.inner.Steps.{whole}
use Rattle.journal_text.specs.declared.fault.JournalKind.{JournalKind}
use Rattle.journal_text.specs.declared.fault.JournalKind.TheVariants.{Name}
use Rattle.journal_text.proofs.Machines.{firing_fault}
use Rattle.journal_text.proofs.Stops.{same_stop, same_kind, ok_is_no_stop, stop_of_exit}
use Rattle.journal_text.specs.declared.codes.Stop.TheVariants.{Kind}
use Rattle.journal_text.proofs.entry.firing.Goals as goal

fires : (net : Network) (name : Text) (m : ℕ) (seen results : Texts × Texts)
    (s : Snapshot) (o : Outcome)
    → Some m ≡ machine_named net name → map_read whole (snapshot_read net m seen) ≡ Ok s.codes
    → result_read net m results ≡ Ok (o.next, o.outs) → o.fires ≡ true
    → firing_read net (machine_named net name) seen results ≡ Ok (Rea m s o)
fires net name m seen results s o found read given fire =
    ap (λ o. firing_read net o seen results) (sym found) ∙ go (snapshot_read net m seen) read
  where
    go : (r : Result (List ℕ × List ℕ) JournalKind) → map_read whole r ≡ Ok s.codes
        → map_read (fired m) (both_read r (result_read net m results)) ≡ Ok (Rea m s o)
    go (Ok (present, values)) h =
        let is : present ++ values ≡ s.codes = cc in
        ap (λ (q : Result (List ℕ × List ℕ) JournalKind). map_read (fired m)
        (both_read (Ok (present, values)) q)) given
        ∙ ap (λ codes. Ok (Rea m (record { codes = codes })
        (record { fires = true; next = o.next; outs = o.outs }))) is
        ∙ ap (λ b. Ok (Rea m s (record { fires = b; next = o.next; outs = o.outs }))) (sym fire)
    go (Err k) h = cc

snapshot_fault : (net : Network) (name : Text) (m : ℕ) (seen results : Texts × Texts)
    (kind : JournalKind)
    → Some m ≡ machine_named net name → snapshot_read net m seen ≡ Err kind
    → firing_read net (machine_named net name) seen results ≡ Err kind
snapshot_fault net name m seen results kind found fault =
    ap (λ o. firing_read net o seen results) (sym found)
    ∙ ap (λ (q : Result (List ℕ × List ℕ) JournalKind). map_read (fired m)
    (both_read q (result_read net m results))) fault

no_machine : (net : Network) (name : Text) (seen results : Texts × Texts) (kind : JournalKind)
    → None ≡ machine_named net name → Name ≡ kind
    → firing_read net (machine_named net name) seen results ≡ Err kind
no_machine net name seen results kind none same =
    ap (λ o. firing_read net o seen results) (sym none) ∙ ap Err same

pub outcome-requires-clause-lists : goal.outcome-requires-clause-lists
outcome-requires-clause-lists c = c.requires.given

pub snapshot-requires-clause-lists : goal.snapshot-requires-clause-lists
snapshot-requires-clause-lists c = c.requires.seen

pub outcome-requires-clause-machine : goal.outcome-requires-clause-machine
outcome-requires-clause-machine c = c.in-Some.ensures.below

pub snapshot-requires-clause-machine : goal.snapshot-requires-clause-machine
snapshot-requires-clause-machine c = c.in-Some.ensures.below

pub returns-in-Err-clause-fault : goal.returns-in-Err-clause-fault
returns-in-Err-clause-fault c = λ kind e.
    firing_fault c.args.index.now.net.now c.args.machine.now c.in-Some.m _ _ _ kind
    c.in-Some.ensures.machine c.in_ok-snapshot.ensures.ok
    (c.in-Err.ensures.fault kind (same_stop c.in-Err.stop (Kind kind) e))

pub returns-in-Ok-clause-ok : goal.returns-in-Ok-clause-ok
returns-in-Ok-clause-ok c =
    fires c.args.index.now.net.now c.args.machine.now c.in-Some.m _ _ c.in_ok-snapshot.snapshot
    c.in-Ok.outcome c.in-Some.ensures.machine c.in_ok-snapshot.ensures.ok c.in-Ok.ensures.ok
    c.in-Ok.ensures.fires

pub returns-in-Ok-clause-fault : goal.returns-in-Ok-clause-fault
returns-in-Ok-clause-fault c = λ kind e. ok_is_no_stop _ _ e

pub returns-in_default-clause-fault : goal.returns-in_default-clause-fault
returns-in_default-clause-fault c = λ kind e.
    no_machine c.args.index.now.net.now c.args.machine.now
    (items_in c.args.seen.0.now, items_in c.args.seen.1.now)
    (items_in c.args.given.0.now, items_in c.args.given.1.now) kind c.in_default.ensures.machine
    (same_kind Name kind e)

pub returns-in_err-snapshot-clause-fault : goal.returns-in_err-snapshot-clause-fault
returns-in_err-snapshot-clause-fault c = λ kind e.
    let p = err_from_is_err_and c.from_residual.result c.from_residual.ensures.1 in
    snapshot_fault c.args.index.now.net.now c.args.machine.now c.in-Some.m _ _ kind
    c.in-Some.ensures.machine
    (c.in_err-snapshot.ensures.fault kind
    (stop_of_exit c.from_residual.result p.0 c.in_err-snapshot.field-0.0 (Kind kind) p.1 p.2 e))
