use Rattle.std.proofs.Common.{◌≡◌, ℕ, List, [], ◌∷◌, ◌++◌, ap, sym, ◌∙◌, zero-add, arith}
use Rattle.journals.specs.Cursors.{is_read, nth_place}
use Rattle.net_core.proofs.Marks.{prefix_marked}
use Rattle.journals.proofs.Cursors.{nth_place_first}
use Rattle.net_core.proofs.config.cursors.first_cursors.Goals as goal
use Rattle.polis_base.proofs.UptoPlaces.{map_upto}

pub loop-m-preserved : goal.loop-m-preserved
loop-m-preserved c =
    let at : ℕ → ℕ = λ m. nth_place (is_read c.args.net.now m) c.args.trace.now 0 in
    let first : c.next_read.result ≡ at c.loop-m.m =
    c.next_read.ensures ∙ zero-add _
    ∙ prefix_marked c.args.net.now c.args.readers.now c.args.trace.now c.loop-m.m 0
    c.requires.readers c.requires.trace (omega arith)
    ∙ sym (nth_place_first (is_read c.args.net.now c.loop-m.m) c.args.trace.now) in
    c.in_ok-push.ensures.ok ∙ ap (λ (l : List ℕ). l ++ c.next_read.result ∷ []) c.loop-m.invariant
    ∙ rw first (sym (map_upto at c.loop-m.m))
