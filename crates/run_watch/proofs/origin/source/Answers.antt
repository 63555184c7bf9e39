use Rattle.std.proofs.Common.{ℕ, List, ◌+◌, drop, slice_get, sym, ap, ◌∙◌, arith}
use Rattle.std.proofs.lemmas.List.{drop_all}
use Rattle.run_watch.specs.Watches.{sources}
use Rattle.run_watch.specs.declared.emission.Emission.{Emission}
use Rattle.run_watch.proofs.Telling.{get_later, sources_here, sources_past}
use Rattle.run_watch.proofs.origin.source.Goals as goal
use Rattle.run_watch.proofs.origin.source.Goals.{then-reads+else-left-eq0, else-reads}

pub returns-then-left-eq0 : goal.returns-then-left-eq0
returns-then-left-eq0 c =
    let monitor = c.args.monitor.now in
    let heard = c.args.heard.now in
    let k = c.loop-k.k in
    let x = c.get-told.result.now in
    let here = sources_here monitor heard c.args.m k x c.get-told.ensures
    (sym c.reads.ensures ∙ c.if-reads.true) in
    sym
    (sym c.loop-k.invariant
    ∙ ap (slice_get (sources monitor (drop k heard) c.args.m)) c.if-left-eq0.true
    ∙ ap (λ (l : List ℕ). slice_get l 0) here)

pub loop-k-preserved : goal.loop-k-preserved
loop-k-preserved c =
    let monitor = c.args.monitor.now in
    let heard = c.args.heard.now in
    let m = c.args.m in
    let k = c.loop-k.k in
    let x = c.get-told.result.now in
    let later : List ℕ = sources monitor (drop (k + 1) heard) m in
    elim c.if-reads.branch [
      | then-reads+else-left-eq0 w ↦
          sym
          (get_later x.place later (sources monitor (drop k heard) m) c.loop-k.left _
          (sources_here monitor heard m k x c.get-told.ensures
          (sym c.reads.ensures ∙ w.if-reads.true)) (omega arith))
          ∙ c.loop-k.invariant
      | else-reads w ↦
          ap (slice_get later) w.left-is
          ∙ ap (λ (l : List ℕ). slice_get l c.loop-k.left)
          (sym
          (sources_past monitor heard m k x c.get-told.ensures
          (sym c.reads.ensures ∙ w.if-reads.false)))
          ∙ c.loop-k.invariant
    ]

pub returns : goal.returns
returns c =
    let end = c.len-k-end.ensures in
    let off = c.loop-k-test.false in
    sym
    (sym c.loop-k.invariant
    ∙ ap (λ (l : List Emission). slice_get (sources c.args.monitor.now l c.args.m) c.loop-k.left)
    (drop_all c.loop-k.k c.args.heard.now (omega arith)))
