use Rattle.std.proofs.Common.{ℕ, List, length, nat_lt, ap, ◌∙◌}
use Rattle.journals.specs.declared.entry.TraceItem.{TraceItem}
use Rattle.journals.specs.Cursors.{cursor}
use Rattle.run_shuffle.specs.inner.Ways.{env_owes}
use Rattle.run_shuffle.proofs.MembersOfSets.{set_more}
use Rattle.run_shuffle.proofs.ways.owed_by_env.Goals as goal

pub loop-m-preserved : goal.loop-m-preserved
loop-m-preserved c =
    let now = c.args.config.now in
    let own =
    c.marked-set.ensures.same ∙ ap (λ (p : ℕ). nat_lt p c.len-last.result) c.place.ensures.place
    ∙ ap (λ (k : ℕ). nat_lt (cursor now.net now.trace now.journal c.loop-m.m) k)
    (c.len-last.ensures ∙ ap (λ (l : List TraceItem). length l) c.trace.ensures.trace) in
    set_more (env_owes now.net now.trace now.journal) c.loop-m.m c.loop-m.set c.marked-set.result
    c.loop-m.invariant own c.marked-set.ensures.others
