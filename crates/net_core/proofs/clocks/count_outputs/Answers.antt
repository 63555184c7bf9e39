use Rattle.std.proofs.Common.{ℕ, ◌<◌, ◌≤◌, List, length, get_or, slice_get, sym, ap, ◌∙◌, arith}
use Rattle.std.proofs.lemmas.Option.{slice_get-get_or}
use Rattle.journals.specs.Journals.{outputs_of, reads}
use Rattle.net_core.proofs.LeftOfFirings.{counted_one, counted_none, counted_past}
use Rattle.journals.proofs.Emitted.{outputs_of_machine}
use Rattle.net_core.proofs.clocks.count_outputs.Goals.{then-get-gt0+then-reads_event, else-get-gt0, else-get-gt0-via-then-get-gt0+else-reads_event, else-get-gt0-via-else-get-gt0}
use Rattle.net_core.proofs.clocks.count_outputs.Goals as goal

pub loop-k-preserved : goal.loop-k-preserved
loop-k-preserved c =
    let net = c.args.net.now in
    let k = c.loop-k.k in
    let p = reads net c.args.m in
    let events : List ℕ = outputs_of net c.args.from in
    let codes : List ℕ = c.args.outs.now in
    let same = outputs_of_machine net c.args.from c.get.result.now c.get.ensures in
    let counted = c.loop-k.invariant.counted in
    let few = c.loop-k.invariant.few in
    elim c.if-get-gt0.branch [
      | then-get-gt0+then-reads_event w ↦
          let event = ap (λ (l : List ℕ). slice_get l k) same ∙ w.get-then-get-gt0.ensures in
          let one = counted_one p events codes k w.get-then-get-gt0.result.now
          c.get-in-loop-k.result.now event c.get-in-loop-k.ensures w.if-get-gt0.true
          (sym w.reads_event.ensures ∙ w.if-reads_event.true) in
          let count = w.count-is in
          record { counted = omega arith; few = omega arith }
      | else-get-gt0 v ↦
          let count = v.count-is in
          elim v.else-get-gt0.branch [
            | else-get-gt0-via-then-get-gt0+else-reads_event w ↦
                let event = ap (λ (l : List ℕ). slice_get l k) same ∙ w.get-then-get-gt0.ensures in
                let one = counted_past p events codes k w.get-then-get-gt0.result.now
                c.get-in-loop-k.result.now event c.get-in-loop-k.ensures w.if-get-gt0.true
                (sym w.reads_event.ensures ∙ w.if-reads_event.false) in
                record { counted = omega arith; few = omega arith }
            | else-get-gt0-via-else-get-gt0 w ↦
                let code : c.get-in-loop-k.result.now ≤ 0 = w.if-get-gt0.false in
                let below : k < length events = let size = ap length same in omega arith in
                let one = counted_none p events codes k (get_or events k 0)
                c.get-in-loop-k.result.now (slice_get-get_or events k 0 below)
                c.get-in-loop-k.ensures (omega arith) in
                record { counted = omega arith; few = omega arith }
          ]
    ]
