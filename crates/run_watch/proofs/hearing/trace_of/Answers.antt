use Rattle.std.proofs.Common.{List, ◌∷◌, ◌++◌, [], sym, ap, ◌∙◌, arith}
use Rattle.std.proofs.lemmas.List.{take_all}
use Rattle.journals.specs.declared.entry.TraceItem.{TraceItem}
use Rattle.journals.specs.declared.entry.TraceItem.TheVariants.{Event, Settle}
use Rattle.run_watch.specs.Monitors.{settled}
use Rattle.run_watch.proofs.Hears.{settled_more}
use Rattle.run_watch.proofs.hearing.trace_of.Goals as goal

pub loop-k-preserved : goal.loop-k-preserved
loop-k-preserved c =
    let x = c.get-told.result.now in
    c.in_ok-push-2.ensures.ok
    ∙ ap (λ (l : List TraceItem). l ++ Settle ∷ []) c.in_ok-push.ensures.ok
    ∙ ap (λ (l : List TraceItem). (l ++ Event x.event x.code ∷ []) ++ Settle ∷ [])
    c.loop-k.invariant
    ∙ sym (settled_more c.args.heard.now c.loop-k.k x c.get-told.ensures)

pub returns : goal.returns
returns c =
    let end = c.len-k-end.ensures in
    let off = c.loop-k-test.false in
    c.loop-k.invariant ∙ ap settled (take_all c.loop-k.k c.args.heard.now (omega arith))
