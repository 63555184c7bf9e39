use Rattle.std.proofs.Common.{◌≤◌, ◌<◌, ℕ, List, ◌++◌, flat_map, length, drop, ap, sym, ◌∙◌, arith, append_assoc, slice_get, get_or, ◌+◌}
use Rattle.std.proofs.lemmas.Option.{slice_get-get_or}
use Rattle.transition_table.specs.declared.decl.Party.TheVariants.{Machine as Sender}
use Rattle.journals.specs.declared.entry.Owed.{Owed}
use Rattle.journals.specs.Journals.{outputs_of, emitted}
use Rattle.journals.specs.Schedules.{deliveries_of}
use Rattle.journals.proofs.Emitted.{output_is_event, outputs_of_machine, emitted_none, emitted_one}
use Rattle.journals.proofs.sending.add_emissions.Goals.{then-code-gt0+in_ok-add_deliveries, else-code-gt0}
use Rattle.journals.proofs.sending.add_emissions.Goals as goal

pub add_deliveries-requires : goal.add_deliveries-requires
add_deliveries-requires c =
    output_is_event c.args.net.now c.args.m c.get-machine.result.now c.loop-k.k c.get.result.now
    c.get-machine.ensures c.get.ensures

pub loop-k-preserved : goal.loop-k-preserved
loop-k-preserved c =
    let net = c.args.net.now in
    let m = c.args.m in
    let k = c.loop-k.k in
    let events : List ℕ = outputs_of net m in
    let codes : List ℕ = c.args.outs.now in
    let of : List (ℕ × ℕ) → List Owed = flat_map (deliveries_of net (Sender m)) in
    let same = outputs_of_machine net m c.get-machine.result.now c.get-machine.ensures in
    let old = c.loop-k.owed in
    elim c.if-code-gt0.branch [
      | then-code-gt0+in_ok-add_deliveries w ↦
          let event = ap (λ (l : List ℕ). slice_get l k) same ∙ w.get.ensures in
          let one =
          emitted_one events codes k w.get.result.now c.get-code.result.now event c.get-code.ensures
          w.if-code-gt0.true in
          let more = deliveries_of net (Sender m) (w.get.result.now, c.get-code.result.now) in
          let is = w.owed-is ∙ w.in_ok-add_deliveries.ensures in
          ap (λ (l : List Owed). l ++ of (emitted (drop (k + 1) events) (drop (k + 1) codes))) is
          ∙ append_assoc old more (of (emitted (drop (k + 1) events) (drop (k + 1) codes)))
          ∙ sym (ap (λ (l : List (ℕ × ℕ)). old ++ of l) one) ∙ c.loop-k.invariant
      | else-code-gt0 w ↦
          let code : c.get-code.result.now ≤ 0 = w.if-code-gt0.false in
          let below : k < length events = let size = ap length same in omega arith in
          let none =
          emitted_none events codes k (get_or events k 0) c.get-code.result.now
          (slice_get-get_or events k 0 below) c.get-code.ensures (omega arith) in
          ap (λ (l : List Owed). l ++ of (emitted (drop (k + 1) events) (drop (k + 1) codes)))
          w.owed-is
          ∙ sym (ap (λ (l : List (ℕ × ℕ)). old ++ of l) none) ∙ c.loop-k.invariant
    ]
