use Rattle.std.proofs.Common.{◌≡◌, ◌++◌, ◌∷◌, [], ℕ, List, length, map, replicate, ap, sym, ◌∙◌}
use Rattle.polis_base.specs.Lists.{upto}
use Rattle.polis_base.proofs.UptoPlaces.{map_upto}
use Rattle.journals.specs.Journals.{inputs_of}
use Rattle.event_accounts.proofs.InputsOf.{inputs_of_machine}
use Rattle.journal_chart.specs.inner.Marks.{row_of}
use Rattle.journal_chart.proofs.MarksAfter.{no_marks}
use Rattle.journal_chart.proofs.losses.first_rows.Goals as goal

pub loop-m-preserved : goal.loop-m-preserved
loop-m-preserved c =
    let net = c.args.net.now in
    let m = c.loop-m.m in
    let row : c.in_ok-filled.field-0 ≡ row_of net [] m =
    c.in_ok-filled.ensures
    ∙ ap (λ (n : ℕ). replicate n 0)
    (c.len.ensures ∙ ap (λ (l : List ℕ). length l)
    (sym (inputs_of_machine net m c.get.result.now c.get.ensures)))
    ∙ no_marks m (inputs_of net m) in
    c.in_ok-push.ensures.ok
    ∙ ap (λ (l : List (List ℕ)). l ++ c.in_ok-filled.field-0 ∷ []) c.loop-m.invariant
    ∙ ap (λ (r : List ℕ). map (row_of net []) (upto m) ++ r ∷ []) row
    ∙ sym (map_upto (row_of net []) m)
