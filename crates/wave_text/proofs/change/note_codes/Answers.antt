use Rattle.std.proofs.Common.{◌≡◌, ℕ, ◌==◌, Bool, true, false, cond, List, length, set, slice_index, refl, ap, ◌∙◌, arith}
use Rattle.std.proofs.lemmas.List.{length-set}
use Rattle.wave_text.proofs.CodesEmitted.{value_after_more}
use Rattle.wave_text.proofs.change.note_codes.Goals as goal

pub loop-k-preserved : goal.loop-k-preserved
loop-k-preserved c =
    let outputs = c.args.outputs.now in
    let outs = c.args.outs.now in
    let start = c.args.values.now in
    let k = c.loop-k.k in
    let now : List ℕ = c.loop-k.values in
    let next : List ℕ = c.note_code.new.values in
    let x = slice_index outputs k in
    let made : next ≡ cond (slice_index outs k == 0) now (set now x (slice_index outs k)) =
    c.note_code.ensures in
    let size : (b : Bool) → length (cond b now (set now x (slice_index outs k))) ≡ length now =
    λ b. elim b as (λ t. length (cond t now (set now x (slice_index outs k))) ≡ length now) [
      | true ↦ refl
      | false ↦ length-set now x (slice_index outs k)
    ] in
    let inv = c.loop-k.invariant in (
      ap length made ∙ size (slice_index outs k == 0) ∙ inv.0,
      λ e inside.
          value_after_more outputs outs start now next k e c.loop-k-test.true c.requires.many
          (let h = inv.0 in omega arith) made (inv.1 e inside),
    )
