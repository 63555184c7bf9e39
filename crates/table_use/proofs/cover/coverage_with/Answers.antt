use Rattle.std.proofs.Common.{◌≡◌, ℕ, List, length, take, set, Option, Some, IsSomeAnd, Vec, Global, sym, ap, ◌∙◌, subst, arith}
use Rattle.std.proofs.lemmas.List.{length-take-le}
use Rattle.std.proofs.lemmas.Option.{slice_get-get_or, slice_get_within}
use Rattle.transition_table.specs.Transitions.{IsSnapshot, IsOutcome}
use Rattle.transition_table.specs.declared.machine.Machine.{Machine}
use Rattle.journals.specs.declared.entry.Entry.{Entry}
use Rattle.journals.specs.declared.entry.Entry.TheVariants.{Dep, Rea}
use Rattle.journals.proofs.CursorsAfter.{machine_within}
use Rattle.table_use.specs.Coverage.{coverages}
use Rattle.table_use.specs.Memos.{AreMemos}
use Rattle.table_use.specs.inner.Steps.{IsUseAfter}
use Rattle.table_use.specs.declared.memo.Memo.{Memo}
use Rattle.table_use.specs.declared.used.MachineUse.{MachineUse}
use Rattle.table_use.proofs.Covered.{coverages_long, coverages_more, coverages_stay, few, use_now}
use Rattle.table_use.proofs.Remembered.{one_memo}
use Rattle.table_use.proofs.cover.coverage_with.Goals.{in-Rea+in_ok-k, in_default}
use Rattle.table_use.proofs.cover.coverage_with.Goals as goal
use Rattle.journals.proofs.EntriesAt.{fits_at}
use Rattle.polis_base.proofs.Places.{take_next}

pub get-table-requires : goal.get-table-requires
get-table-requires c =
    machine_within c.args.net.now (Rea c.in-Rea.machine c.in-Rea.snapshot c.in-Rea.outcome)
    (fits_at c.args.net.now c.args.j.now c.loop-p.p _ c.requires.fits
    (c.get.ensures ∙ ap (λ (x : Entry). Some x) c.in-Rea.is))

pub index_mut-memo-requires : goal.index_mut-memo-requires
index_mut-memo-requires c =
    let within = slice_get_within c.args.net.now.machines c.in-Rea.machine c.get-table.result.now
    c.get-table.ensures in
    let long = c.loop-p.invariant.memos.long in
    omega arith

pub get-requires-in-Rea : goal.get-requires-in-Rea
get-requires-in-Rea c =
    let within = slice_get_within c.args.net.now.machines c.in-Rea.machine c.get-table.result.now
    c.get-table.ensures in
    let long = c.requires.tables.long in
    omega arith

pub meet-requires-clause-snapshot : goal.meet-requires-clause-snapshot
meet-requires-clause-snapshot c =
    (subst (λ (found : Option Machine). IsSomeAnd found
    (λ machine. IsSnapshot machine c.in-Rea.snapshot × IsOutcome machine c.in-Rea.outcome))
    c.get-table.ensures
    (fits_at c.args.net.now c.args.j.now c.loop-p.p
    (Rea c.in-Rea.machine c.in-Rea.snapshot c.in-Rea.outcome) c.requires.fits
    (c.get.ensures ∙ ap (λ (x : Entry). Some x) c.in-Rea.is))).0

pub meet-requires-clause-memo : goal.meet-requires-clause-memo
meet-requires-clause-memo c =
    let memo : Memo = c.index_mut-memo.result.now in
    let within = slice_get_within c.args.net.now.machines c.in-Rea.machine c.get-table.result.now
    c.get-table.ensures in
    let long = c.loop-p.invariant.memos.long in
    c.loop-p.invariant.memos.each c.in-Rea.machine c.get-table.result.now memo c.get-table.ensures
    (slice_get-get_or c.loop-p.memos.items c.in-Rea.machine memo (omega arith)
    ∙ ap (λ (x : Memo). Some x) (sym c.index_mut-memo.ensures.value))
    c.get-in-Rea.result.now c.get-in-Rea.ensures

pub index_mut-requires : goal.index_mut-requires
index_mut-requires c =
    let within = slice_get_within c.args.net.now.machines c.in-Rea.machine c.get-table.result.now
    c.get-table.ensures in
    let size = ap length c.loop-p.invariant.used
    ∙ coverages_long c.args.net.now (take c.loop-p.p c.args.j.now) in
    omega arith

pub count_reaction-requires-clause-snapshot : goal.count_reaction-requires-clause-snapshot
count_reaction-requires-clause-snapshot c =
    (subst (λ (found : Option Machine). IsSomeAnd found
    (λ machine. IsSnapshot machine c.in-Rea.snapshot × IsOutcome machine c.in-Rea.outcome))
    c.get-table.ensures
    (fits_at c.args.net.now c.args.j.now c.loop-p.p
    (Rea c.in-Rea.machine c.in-Rea.snapshot c.in-Rea.outcome) c.requires.fits
    (c.get.ensures ∙ ap (λ (x : Entry). Some x) c.in-Rea.is))).0

pub count_reaction-requires-clause-few : goal.count_reaction-requires-clause-few
count_reaction-requires-clause-few c =
    let prefix = take c.loop-p.p c.args.j.now in
    let m = c.get-table.result.now in
    let long : length prefix ≡ c.loop-p.p = length-take-le c.loop-p.p c.args.j.now
    (let end = c.len-p-end.ensures in omega arith) in
    few prefix c.in-Rea.machine c.loop-p.p m c.index_mut.result.now long
    (use_now c.args.net.now prefix c.loop-p.used.items c.in-Rea.machine m c.index_mut.result.now
    c.loop-p.invariant.used c.get-table.ensures c.index_mut.ensures.value)

pub loop-p-preserved : goal.loop-p-preserved
loop-p-preserved c =
    let net = c.args.net.now in
    let tables = c.args.tables.now in
    let j = c.args.j.now in
    let p = c.loop-p.p in
    let prefix = take p j in
    let long : length prefix ≡ p = length-take-le p j
    (let end = c.len-p-end.ensures in omega arith) in
    elim c.match-get.branch [
      | in-Rea+in_ok-k w ↦
          let k = w.in-Rea.machine in
          let m = w.get-table.result.now in
          let old : MachineUse = w.index_mut.result.now in
          let new : MachineUse = w.count_reaction.new.used in
          let after = subst (λ (n : ℕ). IsUseAfter m n w.in-Rea.snapshot.codes
          w.in-Rea.outcome.fires old new) (sym long) w.count_reaction.ensures in
          record {
            used = ap (λ (v : Vec MachineUse Global). v.items) w.used-is
                ∙ ap (λ (l : List MachineUse). set l k new) c.loop-p.invariant.used
                ∙ coverages_more net prefix k m w.in-Rea.snapshot w.in-Rea.outcome old new
                w.get-table.ensures
                (use_now net prefix c.loop-p.used.items k m old c.loop-p.invariant.used
                w.get-table.ensures w.index_mut.ensures.value)
                after
                ∙ ap (coverages net)
                (sym (take_next j p (Rea k w.in-Rea.snapshot w.in-Rea.outcome)
                (c.get.ensures ∙ ap (λ (x : Entry). Some x) w.in-Rea.is)));
            memos = subst (AreMemos net tables)
                (sym (ap (λ (v : Vec Memo Global). v.items) w.memos-is))
                (one_memo net tables c.loop-p.memos.items k m w.get-in-Rea.result.now
                w.meet.new.memo
                c.loop-p.invariant.memos w.get-table.ensures w.get-in-Rea.ensures
                w.in_ok-k.ensures.memo);
          }
      | in_default w ↦ record {
        used = ap (λ (v : Vec MachineUse Global). v.items) w.used-is
            ∙ c.loop-p.invariant.used
            ∙ sym (coverages_stay net prefix w.in_default.field-0 w.in_default.field-1
            w.in_default.field-2 w.in_default.field-3)
            ∙ ap (coverages net)
            (sym (take_next j p (Dep w.in_default.field-0 w.in_default.field-1
            w.in_default.field-2 w.in_default.field-3)
            (c.get.ensures ∙ ap (λ (x : Entry). Some x) w.in_default.is)));
        memos = subst (AreMemos net tables)
            (sym (ap (λ (v : Vec Memo Global). v.items) w.memos-is)) c.loop-p.invariant.memos;
      }
    ]
