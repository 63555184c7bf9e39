use Rattle.std.proofs.Common.{◌≡◌, ℕ, List, [], ◌∷◌, ◌++◌, slice_index, ap, sym, ◌∙◌}
use Rattle.std.proofs.lemmas.Option.{get_or_from_slice_get}
use Rattle.journals.specs.Moved.{code_after}
use Rattle.journals.proofs.moments.next_moment.Goals as goal
use Rattle.polis_base.proofs.UptoPlaces.{map_upto}

pub loop-k-preserved : goal.loop-k-preserved
loop-k-preserved c =
    let at : ℕ
    → ℕ = λ k.
    code_after c.args.machine.now c.args.entry.now k (slice_index c.args.before.now.codes k) in
    let before =
    get_or_from_slice_get c.args.before.now.codes c.loop-k.k c.get.result.now 0 c.get.ensures in
    let code : c.next_code.result ≡ at c.loop-k.k = c.next_code.ensures
    ∙ ap (code_after c.args.machine.now c.args.entry.now c.loop-k.k) (sym before) in
    c.in_ok-push.ensures.ok ∙ ap (λ (l : List ℕ). l ++ c.next_code.result ∷ []) c.loop-k.invariant
    ∙ rw code (sym (map_upto at c.loop-k.k))
