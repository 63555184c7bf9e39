use Rattle.std.proofs.Common.{refl}
use Rattle.std.proofs.lemmas.Slice.Zip.{either_empty_from_Zip}
use Rattle.journal_text.specs.Texts.{set_items}
use Rattle.journal_text.specs.inner.Texts.{set_size}
use Rattle.journal_chart.proofs.ItemsLeft.{all_made}
use Rattle.journal_chart.proofs.items.set_texts.Goals as goal

pub returns : goal.returns
returns c =
    let last = either_empty_from_Zip c.loop-variable.variable-iterator c.next.new.self _
    c.in-None.is c.next.ensures.steps in
    all_made (set_size c.args.net.now) (set_items c.args.net.now) _ _ _ _ refl
    c.loop-variable.invariant last
