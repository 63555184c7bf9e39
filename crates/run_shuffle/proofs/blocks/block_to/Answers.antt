use Rattle.std.proofs.Common.{◌<◌, ◌≤◌, ℕ, List, length, take, Some, ap, sym, subst, ◌∙◌}
use Rattle.journals.specs.declared.entry.TraceItem.{TraceItem}
use Rattle.journals.specs.Cursors.{cursor}
use Rattle.run_shuffle.specs.inner.Blocks.{settles}
use Rattle.run_shuffle.proofs.BlocksByPlaces.{block_at_place, no_block_past}
use Rattle.run_shuffle.proofs.blocks.block_to.Goals as goal

pub returns-then-place-len : goal.returns-then-place-len
returns-then-place-len c =
    let now = c.args.config.now in
    let past =
    subst (λ (t : List TraceItem). length t ≤ cursor now.net now.trace now.journal c.args.m)
    c.trace-trace.ensures.trace
    (subst (λ (k : ℕ). length c.trace-trace.result.now ≤ k) c.place-place.ensures.place
    (subst (λ (k : ℕ). k ≤ c.place-place.result) c.len.ensures c.if-place-len.true)) in
    sym
    (no_block_past c.sending_laws.ensures.trace_gives now.net now.trace now.journal c.args.m past)

pub returns : goal.returns
returns c =
    let now = c.args.config.now in
    let below =
    subst (λ (t : List TraceItem). cursor now.net now.trace now.journal c.args.m < length t)
    c.trace-trace.ensures.trace
    (subst (λ (k : ℕ). k < length c.trace-trace.result.now) c.place-place.ensures.place
    (subst (λ (k : ℕ). c.place-place.result < k) c.len.ensures c.if-place-len.false)) in
    ap Some
    (c.block_at.ensures
    ∙ ap (λ (k : ℕ). settles (take k c.trace-trace.result.now)) c.place-place.ensures.place
    ∙ ap
    (λ (t : List TraceItem). settles (take (cursor now.net now.trace now.journal c.args.m) t))
    c.trace-trace.ensures.trace)
    ∙ sym
    (block_at_place c.sending_laws.ensures.trace_gives now.net now.trace now.journal c.args.m below)
